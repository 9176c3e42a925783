-- Parts of hearing a data PDU (TS 38.322 clause 5.2.3.2.2).
use Rattle.std.specs.Prelude.{◌≡◌, ℕ, ◌<◌, ◌≤◌, Bool, List, length, Option, Some, None}
use Rattle.link_base.specs.declared.limits.TheConstants.{LONGEST_RLC_SDU}
use Rattle.rlc_pdu.specs.Amd.{Amd}
use Rattle.rlc_model.specs.Rx.{Rx, Stores, Completes}
use Rattle.rlc_model.specs.declared.receiver.Heard.{Heard}
use Rattle.rlc_model.specs.declared.receiver.Heard.TheVariants.{Stored, Complete, Repeat, Outside, Conflict}

-- the same receiver, and whether a STATUS is triggered
abbrev pub with_triggered : Rx → Bool → Rx
with_triggered r triggered = record r { status_triggered = triggered }

-- the answer to a PDU that is placed, by the SDU that it made complete
abbrev pub heard_of : ℕ → Option (List ℕ) → Heard
heard_of x None = Stored
heard_of x (Some sdu) = Complete x sdu

-- a PDU that is placed is stored, or makes the SDU of its number complete
abbrev pub PlacesAs : Rx → ℕ → Amd → Heard → Rx → Type 0
PlacesAs old x v Stored new = Stores old x v new
PlacesAs old x v (Complete number sdu) new = (number ≡ x) × Completes old x v sdu new
PlacesAs old x v Repeat new = ⊥
PlacesAs old x v Outside new = ⊥
PlacesAs old x v Conflict new = ⊥

-- an SDU that was made complete has a byte, and isn't longer than the longest SDU
abbrev pub HasSduLength : Heard → Type 0
HasSduLength (Complete number sdu) = (0 < length sdu) × (length sdu ≤ LONGEST_RLC_SDU)
HasSduLength Stored = Unit {0}
HasSduLength Repeat = Unit {0}
HasSduLength Outside = Unit {0}
HasSduLength Conflict = Unit {0}
