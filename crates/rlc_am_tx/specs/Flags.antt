-- Flags of bytes: whether each is pending for retransmission, and what is counted of it (TS 38.322 clause 5.3.2).
use Rattle.std.specs.Prelude.{◌≡◌, ℕ, ◌+◌, ◌<◌, ◌≤◌, min, Bool, true, false, List, length, take, slice_index_or, Option, Some, None, ◌==◌}
use Rattle.link_base.specs.declared.limits.TheConstants.{LONGEST_RLC_SDU}
use Rattle.rlc_model.specs.Tx.{Kept}

-- the byte at this place is pending
abbrev pub is_set : List Bool → ℕ → Bool
is_set flags p = slice_index_or flags p false

-- the place lies before `until`, where there is one
abbrev pub IsBefore : Option ℕ → ℕ → Type 0
IsBefore None p = Unit {0}
IsBefore (Some until) p = p < until

-- a set of places for SDUs of at most 9,005 bytes, all of bytes that were sent
pub record IsSetOfSent (set : List Bool) (sent : ℕ) : Type 0 where
  pub long : length set ≡ LONGEST_RLC_SDU
  pub within : sent ≤ LONGEST_RLC_SDU
  pub beyond : (p : ℕ) → sent ≤ p → is_set set p ≡ false

-- a byte is pending now that was not
abbrev pub HasFresh : List Bool → List Bool → Type 0
HasFresh old new = (p : ℕ) × (is_set old p ≡ false) × (is_set new p ≡ true)

-- each byte that is pending now was before
abbrev pub HasNoFresh : List Bool → List Bool → Type 0
HasNoFresh old new = (p : ℕ) → is_set new p ≡ true → is_set old p ≡ true

-- the flags of an SDU once its pending bytes are those of a set, where there is one
abbrev pub flags_with : Kept → Option (List Bool) → List Bool
flags_with k None = k.flags
flags_with k (Some set) = take (length k.flags) set

-- such a set has only bytes of the SDU that were sent
abbrev pub FitsSent : Kept → Option (List Bool) → Type 0
FitsSent k None = Unit {0}
FitsSent k (Some set) = IsSetOfSent set (length k.flags)

-- RETX_COUNT of an SDU that is considered for retransmission, by whether a byte became pending that was not
abbrev pub counted : ℕ → Option ℕ → Bool → Option ℕ
counted threshold None fresh = Some 0
counted threshold (Some c) true = Some (min (c + 1) (threshold + 1))
counted threshold (Some c) false = Some c

-- whether it comes to its threshold
abbrev pub comes_to : ℕ → Option ℕ → Bool → Bool
comes_to threshold None fresh = threshold == 0
comes_to threshold (Some c) true = threshold == (c + 1)
comes_to threshold (Some c) false = false
