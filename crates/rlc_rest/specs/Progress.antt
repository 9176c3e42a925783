-- A transmitter with an unconfirmed SDU can go on.
use Rattle.std.specs.Prelude.{◌≡◌, ◌⊎◌, ℕ, ◌<◌, ◌≤◌, true, length, Some}
use Rattle.rlc_model.specs.Tx.{Tx, Kept, kept_at, is_pending, PendingWaits, UnsentWaits, IsSent}
use Rattle.rlc_law.specs.Transmitter.{TransmitterCall}
use Rattle.rlc_law.specs.Hop.{Hop, Reaches}

-- the number lies above POLL_SN, or POLL_SN is undefined
abbrev pub IsAbovePoll : Tx → ℕ → Type 0
IsAbovePoll t n = (h : ℕ) → t.poll_sn ≡ Some h → h < n

-- each unconfirmed number has a pending byte, or lies below one that has
abbrev pub EachBelowPending : Tx → Type 0
EachBelowPending t = (n : ℕ) (k : Kept) → kept_at t n ≡ Some k → (m : ℕ) × (p : ℕ) × (n ≤ m) × (is_pending (kept_at t m) p ≡ true)

-- where a number is unconfirmed, t-PollRetransmit runs, or an unsent byte waits, or a pending byte waits that will carry the poll
-- owed, or pending bytes wait up to the last unconfirmed number. And what was sent above POLL_SN is followed by unsent bytes
pub record Progress (t : Tx) : Type 0 where
  pub some : (n : ℕ) (k : Kept) → kept_at t n ≡ Some k → (t.poll_retransmit_runs ≡ true) ⊎ UnsentWaits t ⊎ ((t.poll_owed ≡ true) × PendingWaits t) ⊎ EachBelowPending t
  pub polled : (n : ℕ) → IsSent t n → IsAbovePoll t n → UnsentWaits t

-- each SDU kept has a byte, and no more of its bytes are sent than there are
abbrev pub HoldsSdus : Tx → Type 0
HoldsSdus t = (n : ℕ) (k : Kept) → kept_at t n ≡ Some k → (0 < length k.sdu) × (length k.flags ≤ length k.sdu)

-- each call of a transmitter that can go on leaves one that can, whatever STATUS it hears
abbrev pub EachCallProgresses : Type 0
EachCallProgresses = (old new : Tx) → HoldsSdus old → Progress old → TransmitterCall old new → HoldsSdus new × Progress new

-- the transmitter of a hop can go on, after every run
abbrev pub Progresses : Type 0
Progresses = (h : Hop) → Reaches h → Progress h.tx
