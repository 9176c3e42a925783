-- A change of a key in which no item is given, and what is heard and the epoch stay.
use Rattle.std.proofs.Common.{◌≡◌, ◌⊎◌, inl, inr, ℕ, ◌<◌, ◌≤◌, Bool, true, false, length, Option, None, refl, sym, ◌∙◌, arith}
use Rattle.std.specs.Option.{is_some}
use Rattle.item_law.specs.State.{Key, Sdu, Item, Spot, Arrived, Path, Sender, source, has_applied, is_on_its_way}
use Rattle.item_law.proofs.base.Nodes.{none_applied}
use Rattle.item_law.proofs.kept.Invariant.{Within, IsSubmitted, KeyState, IsOf, IsMoving, KeyFits}

pub record PathGoes (p p' : Path) (broken broken' : Bool) (k : Key) : Type 0 where
  pub now : p'.epoch ≡ p.epoch
  pub old : has_applied p' (source k.way) ≡ false → has_applied p (source k.way) ≡ false
  pub ends : p'.plan ≡ None → broken' ≡ false → (p.plan ≡ None) × (broken ≡ false)

pub record SenderGoes (limit : ℕ) (p' : Path) (k : Key) (a a' : Sender) (heard : ℕ → Option Sdu) : Type 0 where
  pub waits : has_applied p' (source k.way) ≡ true → a'.waits ≡ true
  pub same_wait : has_applied p' (source k.way) ≡ false → a'.waits ≡ a.waits
  pub goes : a'.waits ≡ false → a.waits ≡ false
  pub place : a.place ≤ a'.place
  pub within : a'.place ≤ length a'.submitted
  pub few : Within limit a'
  pub kept : (c : ℕ) (x : Sdu) → IsSubmitted a c x → IsSubmitted a' c x
  pub confirmed : (c : ℕ) → a'.confirmed c ≡ true → is_some (heard c) ≡ true
  pub more : (c : ℕ) → a.confirmed c ≡ true → a'.confirmed c ≡ true
  pub passes : (c : ℕ) → a.waits ≡ false → c < a'.place → (c < a.place) ⊎ (is_some (heard c) ≡ true)

pub record SpotsGo (p p' : Path) (broken' : Bool) (items : ℕ → Option Item) (spot spot' : ℕ → Spot) (k : Key) : Type 0 where
  pub moved : (n : ℕ) (i : Item) → IsOf items k n i → is_on_its_way (spot' n) ≡ true → is_on_its_way (spot n) ≡ true
  pub arrived : (n : ℕ) (i : Item) → IsOf items k n i → spot' n ≡ Arrived → spot n ≡ Arrived
  pub still : (n : ℕ) (i : Item) → IsOf items k n i → p'.plan ≡ None → broken' ≡ false → i.epoch ≡ p.epoch → is_on_its_way (spot n) ≡ true → is_on_its_way (spot' n) ≡ true

module _ (at : KeyState) (p' : Path) (broken' : Bool) (a' : Sender) (wanted' : Bool) (items : ℕ → Option Item) (spot spot' : ℕ → Spot) (k : Key)
    (gp : PathGoes at.path p' at.broken broken' k) (gs : SenderGoes at.limit p' k at.sender a' at.heard) (gt : SpotsGo at.path p' broken' items spot spot' k)
    (wants : at.wanted ≡ true → p'.plan ≡ None → wanted' ≡ true) (fit : KeyFits at items spot k) where
  moves_still : (n : ℕ) (i : Item) → p'.plan ≡ None → broken' ≡ false → IsMoving at.path items spot k n i → IsMoving p' items spot' k n i
  moves_still n i no_plan ok g = record { of = g.of; now = g.now ∙ sym gp.now; moves = gt.still n i g.of no_plan ok g.now g.moves }

  old_wait : p'.plan ≡ None → a'.waits ≡ true → at.sender.waits ≡ true
  old_wait no_plan w = sym (gs.same_wait (none_applied p' (source k.way) no_plan)) ∙ w

  pub key_goes : KeyFits (record { limit = at.limit; path = p'; broken = broken'; sender = a'; heard = at.heard; wanted = wanted' }) items spot' k
  key_goes = record {
    waits = gs.waits;
    place = gs.within;
    few = gs.few;
    once = fit.once;
    sent = λ n i c x o w e old. let s = fit.sent n i c x o w (e ∙ gp.now) (gp.old old) in (gs.same_wait old ∙ s.0, omega (arith, s.1, gs.place));
    sdus = λ n i c x o w. gs.kept c x (fit.sdus n i c x o w);
    confirmed = gs.confirmed;
    beyond = λ c w le h. gs.more c (fit.beyond c (gs.goes w) (omega (arith, gs.place)) h);
    submitted = λ c x h. gs.kept c x (fit.submitted c x h);
    named = fit.named;
    direct = λ n i c x o w to e. fit.direct n i c x o w to (gt.arrived n i o e);
    unheard = λ n i c x o w e m. fit.unheard n i c x o w (e ∙ gp.now) (gt.moved n i o m);
    reports = λ n i f o w e old waits. fit.reports n i f o w (e ∙ gp.now) (gp.old old) (sym (gs.same_wait old) ∙ waits);
    waiting = λ no_plan ok w. elim (fit.waiting (gp.ends no_plan ok).0 (gp.ends no_plan ok).1 (old_wait no_plan w)) [
      | inl h ↦ inl (wants h no_plan)
      | inr g ↦ inr (g.0, g.1, g.2, moves_still g.0 g.1 no_plan ok g.3, g.4)
    ];
    given = λ c no_plan ok w below. elim (gs.passes c (gs.goes w) below) [
      | inl lt ↦ elim (fit.given c (gp.ends no_plan ok).0 (gp.ends no_plan ok).1 (gs.goes w) lt) [
        | inl h ↦ inl h
        | inr g ↦ inr (g.0, g.1, g.2, moves_still g.0 g.1 no_plan ok g.3, g.4)
      ]
      | inr h ↦ inl h
    ];
  }

pub same_path : (p : Path) (broken : Bool) (k : Key) → PathGoes p p broken broken k
same_path p broken k = record { now = refl; old = λ e. e; ends = λ e f. (e, f) }

-- the sender stays under another path, where it waits if it has to
pub same_sender : (at : KeyState) (p' : Path) (items : ℕ → Option Item) (spot : ℕ → Spot) (k : Key) → KeyFits at items spot k
    → (has_applied p' (source k.way) ≡ true → at.sender.waits ≡ true)
    → SenderGoes at.limit p' k at.sender at.sender at.heard
same_sender at p' items spot k fit waits = record {
  waits = waits;
  same_wait = λ e. refl;
  goes = λ e. e;
  place = omega arith;
  within = fit.place;
  few = fit.few;
  kept = λ c x h. h;
  confirmed = fit.confirmed;
  more = λ c h. h;
  passes = λ c w lt. inl lt;
}

pub same_spots : (p p' : Path) (broken : Bool) (items : ℕ → Option Item) (spot : ℕ → Spot) (k : Key) → SpotsGo p p' broken items spot spot k
same_spots p p' broken items spot k = record { moved = λ n i o m. m; arrived = λ n i o e. e; still = λ n i o e f g m. m }
