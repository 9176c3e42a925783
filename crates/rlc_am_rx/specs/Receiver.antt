-- What a receiver is seen as, and what holds of its fields.
use Rattle.std.specs.Prelude.{◌≡◌, ◌≢◌, ℕ, ◌+◌, ◌-◌, ◌^◌, ◌<◌, ◌≤◌, List, [], ◌++◌, length, map, take, replicate, Some, None, Contains}
use Rattle.link_base.specs.SequenceNumbers.{window}
use Rattle.rlc_model.specs.Rx.{Rx, Got}
use Rattle.rlc_model.specs.Rx.Got.{Done, Part}
use Rattle.rlc_law.specs.Receiver.{IsSound}
use Rattle.rlc_am_rx.specs.declared.reassembly.Entry.{Entry}
use Rattle.rlc_am_rx.specs.Reassembly.{got_of, got_at}
use Rattle.rlc_am_rx.specs.declared.receiver.AmRx.TheInside.{Inside}

-- what is got of each number below RX_Next_Highest
abbrev pub received_of : ℕ → ℕ → List Entry → List Got
received_of next highest entries = replicate next Done ++ take (highest - next) (map got_of entries)

-- what callers see of the fields
abbrev pub receiver_of : Inside → Rx
receiver_of a = record {
  size = a.size;
  received = received_of a.rx_next a.rx_next_highest a.entries.items;
  rx_highest_status = a.rx_highest_status;
  rx_next_status_trigger = a.rx_next_status_trigger;
  status_triggered = a.status_triggered;
  delayed_polls = a.delayed_polls;
  status_prohibit_runs = a.status_prohibit_runs;
}

-- there is an entry for each number from RX_Next up to RX_Next_Highest, and of those behind these nothing is got
pub record EntriesFit (next highest : ℕ) (entries : List Entry) : Type 0 where
  pub order : next ≤ highest
  pub long : highest ≤ next + length entries
  pub spare : (i : ℕ) → highest ≤ next + i → got_at entries i ≡ Part [] None

-- the receiver is sound; the first entry isn't complete, the trigger isn't below RX_Next, and delayed polls lie below the receiving
-- window's end
pub record IsReceiver (a : Inside) : Type 0 where
  pub sound : IsSound (receiver_of a)
  pub small : a.rx_next_highest < 2 ^ 64
  pub entries : EntriesFit a.rx_next a.rx_next_highest a.entries.items
  pub front : got_at a.entries.items 0 ≢ Done
  pub trigger : (t : ℕ) → a.rx_next_status_trigger ≡ Some t → a.rx_next ≤ t
  pub polls : (k : ℕ) → Contains a.delayed_polls k → k < a.rx_next + window a.size
