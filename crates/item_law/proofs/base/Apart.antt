-- What tells goals, spots and contents apart.
use Rattle.std.proofs.Common.{◌≡◌, ℕ, Bool, true, false, Option, Some, refl, sym, ◌∙◌, ap}
use Rattle.std.proofs.lemmas.Bool.{false≢true}
use Rattle.std.proofs.lemmas.Option.{same_Some}
use Rattle.item_law.specs.State.{Remote, Drb, LocalId, Way, Ul, Dl, Goal, ToDirect, ToRelay, flip, Tables, Sdu, Data, Report, Item, Spot, OnFirstHop, InSlot, InQueue, OnSecondHop, Arrived, Lost, source, sink, way_with, way_of, is_over_relay, HasRow, SameUu}

pub relay_goal : (g : Goal) → is_over_relay g ≡ true → (u : LocalId) × (g ≡ ToRelay u)
relay_goal ToDirect e = absurd (false≢true e)
relay_goal (ToRelay u) e = (u, refl)

pub same_id : (u v : LocalId) → ToRelay u ≡ ToRelay v → u ≡ v
same_id u v e = cc

abbrev pub is_arrived : Spot → Bool
is_arrived OnFirstHop = false
is_arrived (InSlot q) = false
is_arrived (InQueue q) = false
is_arrived (OnSecondHop q e) = false
is_arrived Arrived = true
is_arrived Lost = false

pub not_arrived : (x : Spot) → is_arrived x ≡ false → x ≡ Arrived → ⊥
not_arrived x e same = false≢true (sym e ∙ ap is_arrived same)

pub not_report : (c : ℕ) (x : Sdu) (f : ℕ → Bool) → Data c x ≡ Report f → ⊥
not_report c x f e = cc

pub same_count : (c : ℕ) (x : Sdu) (d : ℕ) (y : Sdu) → Data c x ≡ Data d y → c ≡ d
same_count c x d y e = cc

pub same_sdu : (c : ℕ) (x : Sdu) (d : ℕ) (y : Sdu) → Data c x ≡ Data d y → x ≡ y
same_sdu c x d y e = cc

pub same_named : (f g : ℕ → Bool) → Report f ≡ Report g → f ≡ g
same_named f g e = cc

pub data_way : (i : Item) (c : ℕ) (x : Sdu) → i.content ≡ Data c x → way_of i ≡ i.key.way
data_way i c x e = ap (way_with i.key.way) e

pub report_way : (i : Item) (f : ℕ → Bool) → i.content ≡ Report f → way_of i ≡ flip i.key.way
report_way i f e = ap (way_with i.key.way) e

pub source_flip : (w : Way) → source (flip w) ≡ sink w
source_flip Ul = refl
source_flip Dl = refl

pub sink_flip : (w : Way) → sink (flip w) ≡ source w
sink_flip Ul = refl
sink_flip Dl = refl

pub one_item : (items : ℕ → Option Item) (n : ℕ) (i j : Item) → items n ≡ Some i → items n ≡ Some j → i ≡ j
one_item items n i j e f = same_Some i j (sym e ∙ f)

pub same_uu : (t : Tables) (r : Remote) (d : Drb) → HasRow t r d → SameUu t r r d
same_uu t r d row = record { chan = row.chan; first = row.is; second = row.is }
