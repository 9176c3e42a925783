-- What holds of a receiver whatever data PDUs it hears.
use Rattle.std.specs.Prelude.{◌≡◌, ◌≢◌, ℕ, ◌+◌, ◌<◌, ◌≤◌, Some, None}
use Rattle.link_base.specs.declared.names.SnSize.{SnSize}
use Rattle.link_base.specs.SequenceNumbers.{window}
use Rattle.link_base.specs.declared.limits.TheConstants.{LONGEST_RLC_SDU}
use Rattle.rlc_pdu.specs.Amd.{Amd, AmdFits}
use Rattle.rlc_status.specs.declared.status.Status.{Status}
use Rattle.rlc_status.specs.Format.{StatusFits, status_len}
use Rattle.rlc_model.specs.declared.receiver.Heard.{Heard}
use Rattle.rlc_model.specs.Rx.{Rx, Done, empty_rx, got, held_at, len_of, rx_next, rx_next_highest, Hears, ExpiresReassembly, ExpiresProhibit}
use Rattle.rlc_model.specs.Made.{IsWithin, WritesStatus, IsTrueOf}

-- places and lengths are those of the longest SDU, what is held lies below a known length, and of a number that isn't complete a byte is missing
pub record PartsFit (r : Rx) : Type 0 where
  pub small : (n p : ℕ) → held_at (got r n) p ≢ None → p < LONGEST_RLC_SDU
  pub known : (n l : ℕ) → len_of (got r n) ≡ Some l → l ≤ LONGEST_RLC_SDU
  pub inside : (n l p : ℕ) → len_of (got r n) ≡ Some l → held_at (got r n) p ≢ None → p < l
  pub lacks : (n : ℕ) → got r n ≢ Done → ((p : ℕ) → IsWithin (got r n) p → held_at (got r n) p ≢ None) → ⊥

-- the variables stand in order: RX_Highest_Status isn't complete, and it and the trigger of t-Reassembly are at most
-- RX_Next_Highest, which is at most a window above RX_Next
pub record IsSound (r : Rx) : Type 0 where
  pub parts : PartsFit r
  pub highest_status : got r r.rx_highest_status ≢ Done
  pub limit : r.rx_highest_status ≤ rx_next_highest r
  pub within : rx_next_highest r ≤ rx_next r + window r.size
  pub trigger : (t : ℕ) → r.rx_next_status_trigger ≡ Some t → t ≤ rx_next_highest r

-- the calls of a receiver, with any data PDU that its format can hold
pub data ReceiverCall (old new : Rx) : Type 0 where
  hears : (v : Amd) (answer : Heard) → AmdFits old.size v → Hears old v answer new → ReceiverCall old new
  makes_status : (n a : ℕ) (s : Status) → WritesStatus old n a s new → ReceiverCall old new
  expires_reassembly : ExpiresReassembly old new → ReceiverCall old new
  expires_prohibit : ExpiresProhibit old new → ReceiverCall old new

-- an empty receiver is sound, and each call leaves a sound one
abbrev pub StartsSound : Type 0
StartsSound = (size : SnSize) → IsSound (empty_rx size)

abbrev pub StaysSound : Type 0
StaysSound = (old new : Rx) → IsSound old → ReceiverCall old new → IsSound new

-- each STATUS that a sound receiver makes is true of it, fits its format and the octets allowed, and has a number from RX_Next up to RX_Highest_Status
abbrev pub StatusIsTrue : Type 0
StatusIsTrue = (old : Rx) → IsSound old → (n a : ℕ) (s : Status) (new : Rx) → WritesStatus old n a s new → IsTrueOf old a s × StatusFits old.size s × (status_len old.size s ≤ n) × (rx_next old ≤ a) × (a ≤ old.rx_highest_status)
