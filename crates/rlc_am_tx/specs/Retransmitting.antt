-- SDUs that are considered for retransmission (TS 38.322 clauses 5.3.2 and 5.3.3.4).
use Rattle.std.specs.Prelude.{◌≡◌, ℕ, Bool, true, List, Option, Some}
use Rattle.std.specs.Option.{option_to_list}
use Rattle.rlc_model.specs.Tx.{Tx, Kept}
use Rattle.rlc_model.specs.Retransmission.{BecomesPending, RetransmitsLowest}

-- all bytes of an SDU that were sent become pending, and whether the SDU is a mark
abbrev pub RetransmitsAll : ℕ → Kept → Bool → Kept → Type 0
RetransmitsAll threshold old mark new = BecomesPending threshold (λ p. Unit {0}) old new (mark ≡ true)

-- the same of a SDU
pub record RetransmitsKept (threshold : ℕ) (old : Option Kept) (mark : Bool) (new : Option Kept) : Type 0 where
  pub before : Kept
  pub behind : Kept
  pub was : old ≡ Some before
  pub is : new ≡ Some behind
  pub becomes : RetransmitsAll threshold before mark behind

-- in each transmitter that has these SDUs, the lowest one is considered for retransmission where nothing waits
abbrev pub RetransmitsLowestOf : ℕ → List (Option Kept) → Option ℕ → List (Option Kept) → Type 0
RetransmitsLowestOf threshold old mark new = (t : Tx) → t.kept ≡ old → t.max_retx_threshold ≡ threshold → RetransmitsLowest t (option_to_list mark) (record t { kept = new })
