-- Parts of making a STATUS (TS 38.322 clause 5.3.4).
use Rattle.std.specs.Prelude.{◌≡◌, ◌⊎◌, ℕ, ◌+◌, ◌<◌, ◌≤◌, List, ◌++◌}
use Rattle.rlc_status.specs.declared.status.Nack.{Nack}
use Rattle.rlc_status.specs.Format.{StatusFits, status_len}
use Rattle.rlc_model.specs.declared.receiver.Made.{Made}
use Rattle.rlc_model.specs.declared.receiver.Made.TheVariants.{Full, Small}
use Rattle.rlc_model.specs.Rx.{Rx, got, rx_next}
use Rattle.rlc_model.specs.Made.{prohibited, EndsRun, Group, IsMissing, IsTouched, IsTrueOf}

-- elements were added that speak of the missing numbers from m up to but without y
pub record AddsGroup (r : Rx) (m y : ℕ) (old new : List Nack) : Type 0 where
  pub added : List Nack
  pub adds : new ≡ old ++ added
  pub group : Group r m y added
  pub on : m < y

-- the numbers from n up to but without `end` are untouched; they are at most 255, and where they are fewer, a run ends at `end`
pub record IsMissingRun (r : Rx) (n end : ℕ) : Type 0 where
  pub some : n < end
  pub few : end ≤ n + 255
  pub within : end ≤ r.rx_highest_status
  pub run : (k : ℕ) → n ≤ k → k < end → IsTouched (got r k) → ⊥
  pub stops : (end ≡ n + 255) ⊎ EndsRun r end

-- a STATUS is true of the receiver, fits its format and so many octets, and its ACK_SN stands for a number from RX_Next up to
-- RX_Highest_Status
abbrev pub IsTrueStatusOf : Rx → ℕ → Made → Type 0
IsTrueStatusOf r n (Full s a) = IsTrueOf r a s × StatusFits r.size s × (status_len r.size s ≤ n) × (rx_next r ≤ a) × (a ≤ r.rx_highest_status)
IsTrueStatusOf r n (Small need) = Unit {0}

-- the receiver that is left once a STATUS is sent; where not even one without elements has so few octets, nothing changes
abbrev pub left_by : Made → Rx → Rx
left_by (Full s a) r = prohibited r
left_by (Small need) r = r

-- a number is missing
abbrev pub HasMissing : Rx → Type 0
HasMissing r = (m : ℕ) × IsMissing r m

-- a STATUS of at most n octets may need elements: there is room for more than none, and a number is missing
abbrev pub NeedsElements : Rx → ℕ → Type 0
NeedsElements r n = (3 ≤ n) × HasMissing r
