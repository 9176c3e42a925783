-- Each STATUS PDU that a run sends is true of what was delivered.
use Rattle.std.specs.Prelude.{List}
use Rattle.script_text.specs.declared.stage.ScriptStage.{ScriptStage}
use Rattle.chain_model.specs.Carried.{ReportsTruly}
use Rattle.chain_model.specs.Runs.{Turn, entries, LeadsTo}
use Rattle.chain_model.specs.State.{Chain}

-- behind each run each STATUS PDU sent is true of the PDUs delivered before it
abbrev pub ReportsAreTrue : Type 0
ReportsAreTrue = (h : List Turn) (stage : ScriptStage) (c : Chain) → LeadsTo h stage c → ReportsTruly c.tables (entries h)
