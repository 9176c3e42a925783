-- Elements of a STATUS for the gaps of one SDU (TS 38.322 clause 5.3.4).
use Rattle.std.specs.Prelude.{◌≡◌, ◌≢◌, ℕ, ◌<◌, ◌≤◌, List, ◌++◌, Some, None}
use Rattle.link_base.specs.declared.limits.TheConstants.{LONGEST_RLC_SDU}
use Rattle.rlc_status.specs.declared.status.Nack.{Nack}
use Rattle.rlc_model.specs.Rx.{Got, held_at, len_of}
use Rattle.rlc_model.specs.Made.{Gaps}

-- places and length are those of the longest SDU
pub record PlacesFit (g : Got) : Type 0 where
  pub small : (p : ℕ) → held_at g p ≢ None → p < LONGEST_RLC_SDU
  pub known : (l : ℕ) → len_of g ≡ Some l → l ≤ LONGEST_RLC_SDU

-- the element for a gap from one place to another
abbrev pub gap_of : ℕ → ℕ → ℕ → Nack
gap_of sn from to = record { sn = sn; part = Some (from, to); range = None }

-- elements were added for each gap before the last byte held; nothing is held from the place `end` on
pub record AddsInnerGaps (sn : ℕ) (g : Got) (end : ℕ) (old new : List Nack) : Type 0 where
  pub above : (p : ℕ) → end ≤ p → held_at g p ≡ None
  pub short : end ≤ LONGEST_RLC_SDU
  pub added : List Nack
  pub adds : new ≡ old ++ added
  pub gaps : (rest : List Nack) → Gaps sn g end rest → Gaps sn g 0 (added ++ rest)

-- elements were added for each gap
pub record AddsGaps (sn : ℕ) (g : Got) (old new : List Nack) : Type 0 where
  pub added : List Nack
  pub adds : new ≡ old ++ added
  pub gaps : Gaps sn g 0 added
