-- What a call answers, from what its parts do.
use Rattle.std.proofs.Common.{◌≡◌, inl, inr, ℕ, ◌≤◌, length, Some, Result, Ok, Err, IfOk, sym, ◌∙◌, subst, arith}
use Rattle.std.proofs.lemmas.Bool.{cases_Bool, cases_lt, cond-true, cond-false}
use Rattle.std.proofs.lemmas.Option.{same_Some}
use Rattle.link_base.specs.declared.names.SnSize.{SnSize}
use Rattle.link_base.specs.declared.memory.Memory.{Memory}
use Rattle.link_base.specs.SequenceNumbers.{Near}
use Rattle.rlc_pdu.specs.declared.amd.AmdView.{AmdView}
use Rattle.rlc_pdu.specs.Amd.{Amd, amd_of, AmdFits}
use Rattle.rlc_model.specs.Pdu.{end_of, is_end}
use Rattle.rlc_model.specs.declared.receiver.Heard.{Heard}
use Rattle.rlc_model.specs.declared.receiver.Heard.TheVariants.{Stored, Complete, Repeat, Outside, Conflict}
use Rattle.rlc_model.specs.Rx.{Rx, got, len_of, rx_next, IsRepeat, IsConflict, Completes}
use Rattle.rlc_model.specs.Rx.IsConflict.{past_length}
use Rattle.rlc_law.specs.Receiver.{PartsFit}
use Rattle.rlc_model.specs.Calls.{HearsAs}
use Rattle.rlc_am_rx.specs.Hearing.{HasSduLength, PlacesAs}

-- a PDU that is placed is heard
pub hears_placed : (old : Rx) (pdu : AmdView) (x : ℕ) (answer : Heard) (new : Rx) → Near old.size pdu.sn (rx_next old) x
    → (IsRepeat old x (amd_of pdu) → ⊥) → (IsConflict (got old x) (amd_of pdu) → ⊥) → PlacesAs old x (amd_of pdu) answer new
    → HearsAs old pdu answer new
hears_placed old pdu x Stored new near fresh agrees placed = (x, near, fresh, agrees, placed)
hears_placed old pdu x (Complete number sdu) new near fresh agrees (same, completes) =
    subst (λ (n : ℕ). Near old.size pdu.sn (rx_next old) n × (IsRepeat old n (amd_of pdu) → ⊥) × (IsConflict (got old n) (amd_of pdu) → ⊥)
    × Completes old n (amd_of pdu) sdu new) (sym same) (near, fresh, agrees, completes)
hears_placed old pdu x Repeat new near fresh agrees placed = absurd placed
hears_placed old pdu x Outside new near fresh agrees placed = absurd placed
hears_placed old pdu x Conflict new near fresh agrees placed = absurd placed

-- so it is where there was memory
pub hears_if_placed : (old : Rx) (pdu : AmdView) (x : ℕ) (answer : Result Heard Memory) (new : Rx) → Near old.size pdu.sn (rx_next old) x
    → (IsRepeat old x (amd_of pdu) → ⊥) → (IsConflict (got old x) (amd_of pdu) → ⊥)
    → IfOk answer (λ a. PlacesAs old x (amd_of pdu) a new) → IfOk answer (λ a. HearsAs old pdu a new)
hears_if_placed old pdu x (Ok answer) new near fresh agrees placed = hears_placed old pdu x answer new near fresh agrees placed
hears_if_placed old pdu x (Err fault) new near fresh agrees placed = tt

-- an SDU that is made complete has a byte, and isn't longer than the longest SDU
pub sdu_length : (old : Rx) (size : SnSize) (x : ℕ) (v : Amd) (answer : Heard) (new : Rx) → PartsFit old → AmdFits size v → (IsConflict (got old x) v → ⊥)
    → PlacesAs old x v answer new → HasSduLength answer
sdu_length old size x v Stored new parts fits agrees placed = tt
sdu_length old size x v Repeat new parts fits agrees placed = tt
sdu_length old size x v Outside new parts fits agrees placed = tt
sdu_length old size x v Conflict new parts fits agrees placed = tt
sdu_length old size x v (Complete number sdu) new parts fits agrees (same, completes) = elim (cases_Bool (is_end v.si)) [
  | inl ends ↦
      let long : length sdu ≡ end_of v = same_Some (length sdu) (end_of v) (sym completes.covers.known ∙ completes.places.its_length
      ∙ cond-true (is_end v.si) (Some (end_of v)) (len_of (got old x)) ends) in
      (omega (arith, long, fits.some), omega (arith, long, fits.end))
  | inr inner ↦
      let known : len_of (got old x) ≡ Some (length sdu) = sym (cond-false (is_end v.si) (Some (end_of v)) (len_of (got old x)) inner)
      ∙ sym completes.places.its_length ∙ completes.covers.known in
      let long : end_of v ≤ length sdu = elim (cases_lt (length sdu) (end_of v)) [
        | inl past ↦ absurd (agrees (past_length (length sdu) known past))
        | inr within ↦ within
      ] in
      (omega (arith, long, fits.some), parts.known x (length sdu) known)
]
