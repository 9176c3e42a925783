-- What the calls of the chain rely on holds in each run.
use Rattle.std.specs.Prelude.{◌≡◌, List}
use Rattle.script_text.specs.declared.stage.ScriptStage.{ScriptStage}
use Rattle.chain_model.specs.State.{Chain}
use Rattle.chain_model.specs.Runs.{Turn, contents, LeadsTo}
use Rattle.chain_core.specs.Opening.{CanOpen}
use Rattle.call_law.specs.Lines.{CanStep}

-- behind each run each line that a chain carries out can be carried out
abbrev pub StepsCanBeCarriedOut : Type 0
StepsCanBeCarriedOut = (h : List Turn) (stage : ScriptStage) (c : Chain) → LeadsTo h stage c → CanStep c

-- a chain can be opened of the tables that the lines of a run declare
abbrev pub ChainsCanBeOpened : Type 0
ChainsCanBeOpened = (h : List Turn) (stage : ScriptStage) (c : Chain) → LeadsTo h stage c → CanOpen (contents stage)

-- the tables of the chain are those that the lines declared
abbrev pub TablesAreDeclared : Type 0
TablesAreDeclared = (h : List Turn) (stage : ScriptStage) (c : Chain) → LeadsTo h stage c → c.tables ≡ contents stage
