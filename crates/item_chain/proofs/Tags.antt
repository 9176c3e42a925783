-- The tags of SDUs stay until they are confirmed, and what fits a direct port does so behind each change.
use Rattle.std.proofs.Common.{◌≡◌, inl, inr, ℕ, true, List, [], ◌∷◌, ◌++◌, length, get_or, Option, Some, None, refl, sym, ◌∙◌, ap, subst, arith}
use Rattle.std.specs.List.{slice_get}
use Rattle.std.proofs.lemmas.Bool.{cases_Bool, cases_eq}
use Rattle.std.proofs.lemmas.List.{get_or_append_left}
use Rattle.std.proofs.lemmas.Option.{none-some, same_Some, slice_get_within}
use Rattle.link_base.specs.declared.names.PortName.{PortName}
use Rattle.link_base.specs.declared.names.PortName.TheVariants.{Direct, Pc5, Uu}
use Rattle.link_base.specs.declared.names.Way.{Way}
use Rattle.link_base.specs.declared.rlc_words.Tag.{Tag}
use Rattle.bearer_map.specs.Contents.{Contents}
use Rattle.rlc_status.specs.declared.status.Status.{Status}
use Rattle.rlc_pdu.specs.Amd.{Amd}
use Rattle.rlc_model.specs.declared.transmitter.StatusHeard.{StatusHeard}
use Rattle.rlc_model.specs.declared.transmitter.StatusHeard.TheVariants.{Acked, Old, Beyond}
use Rattle.rlc_model.specs.Retransmission.{RetransmitsLowest, stays, retransmits, UpdatesSdu, confirmed, missing, rest, Updates, Acknowledges, HearsStatus, ExpiresPoll}
use Rattle.rlc_model.specs.Tx.{Tx, Kept, kept_at, tx_next_ack, Sends}
use Rattle.rlc_law.specs.Hop.{Hop, Event, Give, Grant, GrantStatus, Deliver, DeliverStatus, ExpirePoll, ExpireReassembly, ExpireProhibit, Happens, sends, makes_status, delivers, acknowledges, expires_poll, expires_reassembly, expires_prohibit}
use Rattle.rlc_law.proofs.Grant.{next_was}
use Rattle.item_law.specs.State.{Item, Spot, Arrived, is_number, put}
use Rattle.item_law.proofs.base.Puts.{of_number, put_same, put_other}
use Rattle.item_place.proofs.Boxes.{at_log}
use Rattle.item_place.proofs.Pushed.{push_was}
use Rattle.item_place.specs.Places.{Station, Box, at, leave, enter, IsSpot, first, slot, queue, second}
use Rattle.item_chain.specs.Stands.{id_of, IsTag, BearIds, FitsDirect}
use Rattle.item_chain.proofs.Quiet.{at_end}

-- each SDU kept was kept before under its tag
abbrev pub KeepsTags : Tx → Tx → Type 0
KeepsTags old new = (n : ℕ) (k : Kept) → kept_at new n ≡ Some k → (j : Kept) × (kept_at old n ≡ Some j) × (k.tag ≡ j.tag)

same_tags : (old new : Tx) → new ≡ old → KeepsTags old new
same_tags old new is n k e = (k, sym (ap (λ (t : Tx). kept_at t n) is) ∙ e, refl)

more_tags : (a b c : Tx) → KeepsTags a b → KeepsTags b c → KeepsTags a c
more_tags a b c p q n k e = let x = q n k e in let y = p n x.0 x.1 in (y.0, y.1, x.2 ∙ y.2)

sends_tags : (old new : Tx) (n m : ℕ) (v : Amd) → Sends old n m v new → KeepsTags old new
sends_tags old new n m v s j k e = elim (cases_eq j m) [
  | inl here ↦ (
    s.kept,
    ap (kept_at old) here ∙ next_was old m s.kept s.a s.b s.next,
    ap (λ (k : Kept). k.tag)
        (same_Some k (record s.kept { flags = s.flags }) (sym e ∙ ap (kept_at new) here ∙ s.this)),
  )
  | inr ne ↦ (k, sym (s.others j ne) ∙ e, refl)
]

lowest_tags : (old : Tx) (marks : List ℕ) (new : Tx) → RetransmitsLowest old marks new → KeepsTags old new
lowest_tags old marks new (stays none no_marks same) n k e = same_tags old new same n k e
lowest_tags old marks new (retransmits low) n k e = elim (cases_eq n (tx_next_ack old)) [
  | inl here ↦ (low.before, ap (kept_at old) here ∙ low.was, ap (λ (k : Kept). k.tag) (same_Some k low.behind (sym e ∙ ap (kept_at new) here ∙ low.is)) ∙ low.becomes.tag)
  | inr ne ↦ (k, sym (low.others n ne) ∙ e, refl)
]

updates_tags : (old : Tx) (a : ℕ) (s : Status) (marks : List ℕ) (new : Tx) → Updates old a s marks new → KeepsTags old new
updates_tags old a s marks new updates n k e = go (updates.each n)
  where
    go : UpdatesSdu old a s n marks (kept_at new n) → (j : Kept) × (kept_at old n ≡ Some j) × (k.tag ≡ j.tag)
    go (confirmed j was says none) = absurd (none-some k (sym none ∙ e))
    go (missing j j' was below names is pends) = (j, was, ap (λ (k : Kept). k.tag) (same_Some k j' (sym e ∙ is)) ∙ pends.tag)
    go (rest why is) = (k, sym is ∙ e, refl)

acks_tags : (old new : Tx) (s : Status) (tags : List Tag) (marks : List ℕ) → Acknowledges old s tags marks new → KeepsTags old new
acks_tags old new s tags marks acks = more_tags old acks.mid new (updates_tags old acks.a s acks.missing_marks acks.mid acks.updates) (elim (cases_Bool acks.mid.poll_owed) [
  | inl owed ↦ lowest_tags acks.mid acks.lowest_marks new (acks.lowest.0 owed)
  | inr free ↦ same_tags acks.mid new (acks.lowest.1 free).1
])

status_tags : (old new : Tx) (s : Status) (a : StatusHeard) → HearsStatus old s a new → KeepsTags old new
status_tags old new s (Acked tags marks) h = acks_tags old new s tags marks h
status_tags old new s (Old ack next) h = same_tags old new h.4
status_tags old new s (Beyond ack sent) h = same_tags old new h.3

expires_tags : (old new : Tx) (marks : List ℕ) → ExpiresPoll old marks new → KeepsTags old new
expires_tags old new marks x n k e =
    let y = lowest_tags x.mid marks new x.lowest n k e in
    (y.0, sym (ap (λ (t : Tx). kept_at t n) x.stopped) ∙ y.1, y.2)

-- an event that gives no SDU
abbrev pub IsQuiet : Event → Type 0
IsQuiet (Give tag sdu) = ⊥
IsQuiet event = Unit {0}

pub quiet_tags : (old new : Hop) (event : Event) → IsQuiet event → Happens old event new → KeepsTags old.tx new.tx
quiet_tags old new (Give tag sdu) quiet h = absurd quiet
quiet_tags old new (Grant n) quiet (sends m v t s) = sends_tags old.tx t n m v s
quiet_tags old new (GrantStatus n) quiet (makes_status a s r w) = same_tags old.tx old.tx refl
quiet_tags old new (Deliver d) quiet (delivers answer r among fresh hears) = same_tags old.tx old.tx refl
quiet_tags old new (DeliverStatus t) quiet (acknowledges answer x among fresh h) = status_tags old.tx x t.status answer h
quiet_tags old new ExpirePoll quiet (expires_poll marks t x) = expires_tags old.tx t marks x
quiet_tags old new ExpireReassembly quiet (expires_reassembly r x) = same_tags old.tx old.tx refl
quiet_tags old new ExpireProhibit quiet (expires_prohibit r x) = same_tags old.tx old.tx refl

-- what leaves a direct port arrives
abbrev pub OnlyArrives : PortName → Spot → Type 0
OnlyArrives (Direct remote drb) x = x ≡ Arrived
OnlyArrives (Pc5 remote chan) x = Unit {0}
OnlyArrives (Uu chan) x = Unit {0}

pub only_arrived : (name : PortName) → OnlyArrives name Arrived
only_arrived (Direct r d) = refl
only_arrived (Pc5 r c) = tt
only_arrived (Uu c) = tt

module _ (t : Contents) (items : ℕ → Option Item) (spot : ℕ → Spot) (w : Way) where
  -- another transmitter that keeps the tags
  pub direct_tx : (name : PortName) (b : Box) (old new : Tx) → KeepsTags old new → FitsDirect name w t items spot b old → FitsDirect name w t items spot b new
  direct_tx (Direct r d) b old new keeps f = record {
    goals = f.goals;
    arrived = f.arrived;
    tags = λ k n i kept among is has. let j = keeps k kept has in subst (IsTag t i.key i.content) (sym j.2) (f.tags k n i j.0 among is j.1);
  }
  direct_tx (Pc5 r c) b old new keeps f = tt
  direct_tx (Uu c) b old new keeps f = λ k n i kept among is has. let j = keeps k kept has in ap (λ (g : Tag). g.ue) j.2 ∙ f k n i j.0 among is j.1

  -- an item goes elsewhere that has not arrived
  pub direct_spot : (name : PortName) (b : Box) (tx : Tx) (m : ℕ) (x : Spot) → (spot m ≡ Arrived → ⊥) → FitsDirect name w t items spot b tx
      → FitsDirect name w t items (put is_number spot m x) b tx
  direct_spot (Direct r d) b tx m x moves f = record {
    goals = f.goals;
    arrived = λ k n among gone. let was = f.arrived k n among gone in put_other of_number spot m x n (λ same. moves (sym (ap spot same) ∙ was)) ∙ was;
    tags = f.tags;
  }
  direct_spot (Pc5 r c) b tx m x moves f = tt
  direct_spot (Uu c) b tx m x moves f = f

  -- an item leaves the port as it arrives
  pub direct_left : (name : PortName) (b : Box) (tx : Tx) (x m : ℕ) (to : Spot) → at b x ≡ Some m → (spot m ≡ Arrived → ⊥) → OnlyArrives name to
      → FitsDirect name w t items spot b tx
      → FitsDirect name w t items (put is_number spot m to) (leave b x) tx
  direct_left (Direct r d) b tx x m to here moves arrives f = record {
    goals = f.goals;
    arrived = λ k n among gone. elim (cases_eq k x) [
      | inl same ↦
          let is : n ≡ m = same_Some n m (sym among ∙ ap (slice_get b.log) same ∙ at_log b x m here) in
          ap (put is_number spot m to) is ∙ put_same of_number spot m to ∙ arrives
      | inr ne ↦
          let was = f.arrived k n among (sym (put_other of_number b.left x true k ne) ∙ gone) in
          put_other of_number spot m to n (λ same. moves (sym (ap spot same) ∙ was)) ∙ was
    ];
    tags = f.tags;
  }
  direct_left (Pc5 r c) b tx x m to here moves arrives f = tt
  direct_left (Uu c) b tx x m to here moves arrives f = f

-- the identities of a Uu port's tags where an item comes to its end
pub bears_more : (items : ℕ → Option Item) (n : ℕ) (i : Item) (b : Box) (old new : Tx) (kept : Kept) → items n ≡ Some i → length b.log ≡ length old.kept
    → new.kept ≡ old.kept ++ Some kept ∷ [] → kept.tag.ue ≡ id_of i.goal → BearIds items b old → BearIds items (enter b n) new
bears_more items n i b old new kept its long is bears fits k m j x e among has = elim (push_was b.log n k m e) [
  | inl was ↦ fits k m j x was among
      (sym (get_or_append_left old.kept (Some kept ∷ []) None k (omega (arith, slice_get_within b.log k m was, long)))
      ∙ ap (λ (xs : List (Option Kept)). get_or xs k None) (sym is) ∙ has)
  | inr now ↦
      let same_item : i ≡ j = same_Some i j (sym its ∙ ap items (sym now.1) ∙ among) in
      let same_kept : kept ≡ x = same_Some kept x (sym (ap (λ (k : ℕ). get_or (old.kept ++ Some kept ∷ []) k None) (now.0 ∙ long) ∙ at_end old.kept (Some kept) None)
      ∙ ap (λ (xs : List (Option Kept)). get_or xs k None) (sym is) ∙ has) in
      ap (λ (x : Kept). x.tag.ue) (sym same_kept) ∙ bears ∙ ap (λ (i : Item). id_of i.goal) same_item
]

-- what stands somewhere has not arrived
pub standing : (t : Contents) (i : Item) (x : Spot) (a : Station) → IsSpot t i x a → x ≡ Arrived → ⊥
standing t i x a (first p e at is by) same = cc
standing t i x a (slot p to at is) same = cc
standing t i x a (queue p to at is) same = cc
standing t i x a (second p e to own at is by) same = cc
