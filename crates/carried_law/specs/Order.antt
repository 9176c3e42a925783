-- The numbers of each hop begin in their order.
use Rattle.std.specs.Prelude.{◌≡◌, ℕ, ◌+◌, ◌<◌, false, List, Some}
use Rattle.rlc_model.specs.declared.hop.Pdu.{Pdu}
use Rattle.script_text.specs.declared.stage.ScriptStage.{ScriptStage}
use Rattle.script_text.specs.History.{Entry}
use Rattle.chain_model.specs.Runs.{Turn, entries, LeadsTo}
use Rattle.chain_model.specs.State.{Chain}
use Rattle.chain_model.specs.Told.{air_entry}

-- each data PDU of a number above 0 that a history shows is sent behind one of the number below, over the same port in the same way and epoch
abbrev pub BeginInOrder : List Entry → Type 0
BeginInOrder h = (ticket : ℕ) (pdu : Pdu) (n : ℕ) → air_entry h ticket ≡ Some pdu → pdu.status ≡ false → pdu.number ≡ n + 1
    → (earlier : ℕ) × (other : Pdu) × (earlier < ticket) × (air_entry h earlier ≡ Some other) × (other.status ≡ false) × (other.port ≡ pdu.port) × (other.way ≡ pdu.way)
    × (other.epoch ≡ pdu.epoch) × (other.number ≡ n)

-- so it is behind each run
abbrev pub SentNumbersBeginInOrder : Type 0
SentNumbersBeginInOrder = (h : List Turn) (stage : ScriptStage) (c : Chain) → LeadsTo h stage c → BeginInOrder (entries h)
