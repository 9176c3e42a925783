-- What the elements of a STATUS name (TS 38.322 clauses 5.3.2, 6.2.2.5 and 6.2.3).
use Rattle.std.specs.Prelude.{◌≡◌, ℕ, ◌+◌, ◌<◌, ◌≤◌, List, Option}
use Rattle.link_base.specs.declared.names.SnSize.{SnSize}
use Rattle.rlc_status.specs.declared.status.Nack.{Nack}
use Rattle.rlc_status.specs.Says.{IsGreatest, count, starts_by, ends_behind}
use Rattle.rlc_model.specs.Tx.{Kept}
use Rattle.rlc_model.specs.Retransmission.{BeginsPast, EndsPast}
use Rattle.rlc_am_tx.specs.declared.elements.Places.{Places}
use Rattle.rlc_am_tx.specs.Flags.{IsBefore}

-- the place is one of these
abbrev pub HasPlace : Places → ℕ → Type 0
HasPlace places p = (places.from ≤ p) × IsBefore places.until p

-- of the number n, an element whose first number is `first` names the place p
abbrev pub HoldsPlace : Nack → ℕ → ℕ → ℕ → Type 0
HoldsPlace nack first n p = (n ≡ first → starts_by nack.part p) × (n + 1 ≡ first + count nack → ends_behind nack.part p)

-- an element whose first number is `first` names the number n
abbrev pub HoldsNumber : Nack → ℕ → ℕ → Type 0
HoldsNumber nack first n = (first ≤ n) × (n < first + count nack)

-- an element names a number that isn't below `ack`
abbrev pub PassesAck : SnSize → ℕ → Nack → Type 0
PassesAck size ack e = (m : ℕ) × IsGreatest size ack e.sn m × (ack < m + count e)

-- an element names a number below 0, or one that isn't below `ack`, or begins or ends behind an SDU that is not confirmed
pub data IsWrong (size : SnSize) (l : List (Option Kept)) (ack : ℕ) (e : Nack) : Type 0 where
  below_zero : ((m : ℕ) → IsGreatest size ack e.sn m → ⊥) → IsWrong size l ack e
  past_ack : PassesAck size ack e → IsWrong size l ack e
  begins_past : BeginsPast size l ack e → IsWrong size l ack e
  ends_past : EndsPast size l ack e → IsWrong size l ack e
