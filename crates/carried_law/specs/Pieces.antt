-- The data PDUs that a run sends are pieces of one SDU for each number.
use Rattle.std.specs.Prelude.{◌≡◌, ℕ, ◌%◌, false, List, Some}
use Rattle.link_base.specs.declared.names.PortName.{PortName}
use Rattle.link_base.specs.declared.names.Way.{Way}
use Rattle.link_base.specs.SequenceNumbers.{modulus}
use Rattle.rlc_pdu.specs.Amd.{Amd, IsAmd}
use Rattle.rlc_model.specs.declared.hop.Pdu.{Pdu}
use Rattle.rlc_model.specs.Pdu.{IsPiece}
use Rattle.bearer_map.specs.Contents.{Contents}
use Rattle.script_text.specs.declared.stage.ScriptStage.{ScriptStage}
use Rattle.script_text.specs.History.{Entry}
use Rattle.chain_model.specs.Runs.{Turn, entries, LeadsTo}
use Rattle.chain_model.specs.Sizes.{port_size}
use Rattle.chain_model.specs.State.{Chain}
use Rattle.chain_model.specs.Told.{air_entry}

-- the PDU is read by its format with the SNs of its port, has the SN of its number, and is a piece of this SDU
abbrev pub IsPieceOf : Contents → List ℕ → Pdu → Type 0
IsPieceOf t sdu pdu = (fields : Amd) × IsAmd (port_size t pdu.port) fields pdu.bytes × (fields.sn ≡ pdu.number % modulus (port_size t pdu.port)) × IsPiece sdu fields

-- there is one SDU for each number of a port in a way and an epoch, and each data PDU of that number which a history shows is a piece of it
pub record ArePieces (t : Contents) (h : List Entry) : Type 0 where
  pub sdu_of : PortName → Way → ℕ → ℕ → List ℕ
  pub pieces : (ticket : ℕ) (pdu : Pdu) → air_entry h ticket ≡ Some pdu → pdu.status ≡ false
      → IsPieceOf t (sdu_of pdu.port pdu.way pdu.epoch pdu.number) pdu

-- so it is behind each run
abbrev pub SentPdusArePieces : Type 0
SentPdusArePieces = (h : List Turn) (stage : ScriptStage) (c : Chain) → LeadsTo h stage c → ArePieces c.tables (entries h)
