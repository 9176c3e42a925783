-- How many data PDUs a hop has made, and what goes on the air and off it.
use Rattle.std.proofs.Common.{◌≡◌, ◌⊎◌, inl, inr, ℕ, zero, suc, ◌+◌, ◌-◌, ◌≤◌, Bool, true, false, cond, eqb, List, [], ◌∷◌, ◌++◌, length, get_or, set, Option, Some, None, refl, sym, ◌∙◌, ap, arith}
use Rattle.std.proofs.lemmas.Bool.{cases_eq, cases_lt, true≢false}
use Rattle.std.proofs.lemmas.Option.{none-some, same_Some}
use Rattle.std.proofs.lemmas.List.{get_or_past, get_or-set_same, get_or-set_other, length-set}
use Rattle.link_base.specs.declared.names.Way.{Way}
use Rattle.link_base.specs.declared.names.Way.TheVariants.{Ul, Dl}
use Rattle.rlc_model.specs.declared.hop.Pdu.{Pdu}
use Rattle.rlc_model.specs.Hop.{on_air, off_air}
use Rattle.rlc_model.specs.Heard.{Data}
use Rattle.rlc_model.specs.Sides.{flip}
use Rattle.rlc_law.specs.Hop.{Hop, Event, Give, Grant, GrantStatus, Deliver, DeliverStatus, ExpirePoll, ExpireReassembly, ExpireProhibit, Happens, gives, sends, makes_status, delivers, acknowledges, expires_poll, expires_reassembly, expires_prohibit}
use Rattle.rlc_law.specs.Ports.{Port, hop_of, Moves}

-- the event sends a data PDU
abbrev pub is_grant : Event → Bool
is_grant (Grant n) = true
is_grant (Give tag sdu) = false
is_grant (GrantStatus n) = false
is_grant (Deliver d) = false
is_grant (DeliverStatus t) = false
is_grant ExpirePoll = false
is_grant ExpireReassembly = false
is_grant ExpireProhibit = false

-- the event has the receiver hear one
abbrev pub is_delivery : Event → Bool
is_delivery (Deliver d) = true
is_delivery (Give tag sdu) = false
is_delivery (Grant n) = false
is_delivery (GrantStatus n) = false
is_delivery (DeliverStatus t) = false
is_delivery ExpirePoll = false
is_delivery ExpireReassembly = false
is_delivery ExpireProhibit = false

-- no other event makes a data PDU
happens_same : {old : Hop} {event : Event} {new : Hop} → Happens old event new → is_grant event ≡ false → length new.pdus ≡ length old.pdus
happens_same (gives number t some most g) e = refl
happens_same (sends m v t s) e = absurd (true≢false e)
happens_same (makes_status a s r w) e = refl
happens_same (delivers answer r among fresh h) e = refl
happens_same (acknowledges answer x among fresh h) e = refl
happens_same (expires_poll marks t x) e = refl
happens_same (expires_reassembly r x) e = refl
happens_same (expires_prohibit r x) e = refl

-- and that one makes one
happens_most : {old : Hop} {event : Event} {new : Hop} → Happens old event new → length new.pdus ≤ length old.pdus + 1
happens_most (gives number t some most g) = omega arith
happens_most (sends m v t s) = omega arith
happens_most (makes_status a s r w) = omega arith
happens_most (delivers answer r among fresh h) = omega arith
happens_most (acknowledges answer x among fresh h) = omega arith
happens_most (expires_poll marks t x) = omega arith
happens_most (expires_reassembly r x) = omega arith
happens_most (expires_prohibit r x) = omega arith

-- no event but a delivery adds to what was heard
happens_heard : {old : Hop} {event : Event} {new : Hop} → Happens old event new → is_delivery event ≡ false → new.heard ≡ old.heard
happens_heard (gives number t some most g) e = refl
happens_heard (sends m v t s) e = refl
happens_heard (makes_status a s r w) e = refl
happens_heard (delivers answer r among fresh h) e = absurd (true≢false e)
happens_heard (acknowledges answer x among fresh h) e = refl
happens_heard (expires_poll marks t x) e = refl
happens_heard (expires_reassembly r x) e = refl
happens_heard (expires_prohibit r x) e = refl

-- and that one adds the PDU delivered
delivery_adds : {old : Hop} {d : Data} {new : Hop} → Happens old (Deliver d) new → new.heard ≡ d ∷ old.heard
delivery_adds (delivers answer r among fresh h) = refl

-- and leaves the SDUs given
delivery_leaves : {old : Hop} {d : Data} {new : Hop} → Happens old (Deliver d) new → new.given ≡ old.given
delivery_leaves (delivers answer r among fresh h) = refl

-- where a port moves, its other hop stays as it was
module _ {old : Port} {event : Event} {new : Port} where
  moves_within : (k : ℕ) (way : Way) → Moves old way event new → length (hop_of new way).pdus ≤ length (hop_of old way).pdus + k → (w : Way)
      → length (hop_of new w).pdus ≤ length (hop_of old w).pdus + k
  moves_within k Ul m le Ul = le
  moves_within k Dl m le Dl = le
  moves_within k Ul m le Dl = omega (arith, ap (λ (h : Hop). length h.pdus) m.other)
  moves_within k Dl m le Ul = omega (arith, ap (λ (h : Hop). length h.pdus) m.other)

  pub moves_same : (way : Way) → Moves old way event new → is_grant event ≡ false → (w : Way) → length (hop_of new w).pdus ≤ length (hop_of old w).pdus + 0
  moves_same way m e = moves_within 0 way m (omega (arith, happens_same m.happens e))

  pub moves_most : (way : Way) → Moves old way event new → (w : Way) → length (hop_of new w).pdus ≤ length (hop_of old w).pdus + 1
  moves_most way m = moves_within 1 way m (happens_most m.happens)

-- what the receivers of a port have heard behind a move
module _ {old : Port} {new : Port} where
  pub moves_heard : {event : Event} (way : Way) → Moves old way event new → is_delivery event ≡ false → (w : Way) → (hop_of new w).heard ≡ (hop_of old w).heard
  moves_heard Ul m e Ul = happens_heard m.happens e
  moves_heard Dl m e Dl = happens_heard m.happens e
  moves_heard Ul m e Dl = ap (λ (h : Hop). h.heard) m.other
  moves_heard Dl m e Ul = ap (λ (h : Hop). h.heard) m.other

  pub delivery_heard : {d : Data} (way : Way) → Moves old way (Deliver d) new → (hop_of new way).heard ≡ d ∷ (hop_of old way).heard
  delivery_heard way m = delivery_adds m.happens

  pub delivery_given : {d : Data} (way : Way) → Moves old way (Deliver d) new → (hop_of new way).given ≡ (hop_of old way).given
  delivery_given way m = delivery_leaves m.happens

  pub delivery_other : {d : Data} (way : Way) → Moves old way (Deliver d) new → (hop_of new (flip way)).heard ≡ (hop_of old (flip way)).heard
  delivery_other way m = ap (λ (h : Hop). h.heard) m.other

-- what is at a place behind one more is that one, or was there
pub place_more : {T : Type 0} (air : List (Option T)) (pdu other : T) (n : ℕ) → get_or (air ++ Some pdu ∷ []) n None ≡ Some other → (get_or air n None ≡ Some other) ⊎ (other ≡ pdu)
place_more [] pdu other zero e = inr (sym (same_Some pdu other e))
place_more [] pdu other (suc n) e = absurd (none-some other e)
place_more (x ∷ xs) pdu other zero e = inl e
place_more (x ∷ xs) pdu other (suc n) e = place_more xs pdu other n e

pub air_more : (air : List (Option Pdu)) (pdu other : Pdu) (ticket : ℕ) → on_air (air ++ Some pdu ∷ []) ticket ≡ Some other → (on_air air ticket ≡ Some other) ⊎ (other ≡ pdu)
air_more air pdu other ticket = go (eqb ticket 0)
  where
    go : (b : Bool) → cond b None (get_or (air ++ Some pdu ∷ []) (ticket - 1) None) ≡ Some other → (cond b None (get_or air (ticket - 1) None) ≡ Some other) ⊎ (other ≡ pdu)
    go true e = absurd (none-some other e)
    go false e = place_more air pdu other (ticket - 1) e

-- where a place was cleared, what is there was there
place_cleared : (air : List (Option Pdu)) (i n : ℕ) (pdu : Pdu) → get_or (set air i None) n None ≡ Some pdu → get_or air n None ≡ Some pdu
place_cleared air i n pdu here = elim (cases_eq n i) [
  | inl same ↦ absurd (none-some pdu (elim (cases_lt i (length air)) [
    | inl low ↦ sym (ap (λ (k : ℕ). get_or (set air i None) k None) same ∙ get_or-set_same air i None None low) ∙ here
    | inr past ↦ sym (get_or_past (set air i None) n None (omega (arith, same, past, length-set air i None))) ∙ here
  ]))
  | inr other ↦ sym (get_or-set_other air i n None None other) ∙ here
]

-- what is on the air once a PDU went off it was there before
pub air_less : (air : List (Option Pdu)) (ticket other : ℕ) (pdu : Pdu) → on_air (off_air air ticket) other ≡ Some pdu → on_air air other ≡ Some pdu
air_less air ticket other pdu = go (eqb other 0) (eqb ticket 0)
  where
    go : (a b : Bool) → cond a None (get_or (cond b air (set air (ticket - 1) None)) (other - 1) None) ≡ Some pdu → cond a None (get_or air (other - 1) None) ≡ Some pdu
    go true b here = here
    go false true here = here
    go false false here = place_cleared air (ticket - 1) (other - 1) pdu here

pub air_long : (air : List (Option Pdu)) (ticket : ℕ) → length (off_air air ticket) ≡ length air
air_long air ticket = go (eqb ticket 0)
  where
    go : (b : Bool) → length (cond b air (set air (ticket - 1) None)) ≡ length air
    go true = refl
    go false = length-set air (ticket - 1) None
