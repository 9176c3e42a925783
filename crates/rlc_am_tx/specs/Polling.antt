-- Polling (TS 38.322 clause 5.3.3).
use Rattle.std.specs.Prelude.{◌≡◌, ℕ, ◌+◌, ◌<◌, ◌≤◌, true, false, min, List, Option, Some, None}
use Rattle.link_base.specs.declared.names.SnSize.{SnSize}
use Rattle.rlc_model.specs.Tx.{Tx, Kept, HasPoll}
use Rattle.rlc_am_tx.specs.declared.polling.Polling.{Polling}

-- a poll is due whatever waits: by the PDUs or the bytes since the last one, where so many bytes of this PDU were unsent, or since one
-- is owed
pub data PollIsDue (p : Polling) (fresh : ℕ) : Type 0 where
  by_pdus : 0 < fresh → 0 < p.poll_pdu → p.poll_pdu ≤ p.pdu_without_poll + 1 → PollIsDue p fresh
  by_bytes : 0 < fresh → 0 < p.poll_byte → p.poll_byte ≤ p.byte_without_poll + fresh → PollIsDue p fresh
  owed : p.poll_owed ≡ true → PollIsDue p fresh

-- a PDU has a poll of which so many bytes were unsent, where these SDUs are unconfirmed behind it
abbrev pub PollsWith : Polling → SnSize → List (Option Kept) → ℕ → Type 0
PollsWith p size l fresh = HasPoll p.poll_pdu p.poll_byte p.pdu_without_poll p.byte_without_poll p.poll_owed size l fresh

-- before any PDU
abbrev pub initial : ℕ → ℕ → Polling
initial poll_pdu poll_byte =
    record { poll_pdu = poll_pdu; poll_byte = poll_byte; pdu_without_poll = 0; byte_without_poll = 0; poll_sn = None; poll_owed = false; poll_retransmit_runs = false }

-- behind a PDU with a poll
abbrev pub polled : Polling → ℕ → Polling
polled p highest =
    record p { pdu_without_poll = 0; byte_without_poll = 0; poll_sn = Some highest; poll_owed = false; poll_retransmit_runs = true }

-- behind a PDU without one
abbrev pub unpolled : Polling → ℕ → Polling
unpolled p fresh = record p { pdu_without_poll = p.pdu_without_poll + min fresh 1; byte_without_poll = p.byte_without_poll + fresh }

-- once t-PollRetransmit ran out
abbrev pub expired : Polling → Polling
expired p = record p { poll_owed = true; poll_retransmit_runs = false }

-- t-PollRetransmit stops where POLL_SN is below `ack`, and nothing else changes
pub data StopsBelow (old : Polling) (ack : ℕ) (new : Polling) : Type 0 where
  stops : (h : ℕ) → old.poll_sn ≡ Some h → h < ack → new ≡ record old { poll_retransmit_runs = false } → StopsBelow old ack new
  runs_on : ((h : ℕ) → old.poll_sn ≡ Some h → ack ≤ h) → new ≡ old → StopsBelow old ack new

-- a transmitter with these SDUs and these variables of polling
abbrev pub tx_with : SnSize → ℕ → List (Option Kept) → Polling → Tx
tx_with size threshold kept p = record {
  size = size;
  poll_pdu = p.poll_pdu;
  poll_byte = p.poll_byte;
  max_retx_threshold = threshold;
  kept = kept;
  pdu_without_poll = p.pdu_without_poll;
  byte_without_poll = p.byte_without_poll;
  poll_sn = p.poll_sn;
  poll_owed = p.poll_owed;
  poll_retransmit_runs = p.poll_retransmit_runs;
}
