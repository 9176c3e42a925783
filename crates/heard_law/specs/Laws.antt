-- What holds of each run.
use Rattle.std.specs.Prelude.{◌≡◌, ◌↔◌, ℕ, true, List, Result}
use Rattle.link_base.specs.declared.discard.Discard.{Discard}
use Rattle.link_base.specs.declared.names.PortName.{PortName}
use Rattle.link_base.specs.declared.names.Side.{Side}
use Rattle.script_text.specs.declared.stage.ScriptStage.{ScriptStage}
use Rattle.script_text.specs.History.{Entry}
use Rattle.node_model.specs.Names.{NodeName}
use Rattle.node_model.specs.Routing.{Target, Leads}
use Rattle.chain_model.specs.Runs.{Turn, entries, LeadsTo}
use Rattle.chain_model.specs.State.{Chain, node_at}
use Rattle.chain_model.specs.Told.{known}
use Rattle.book_law.specs.Past.{IsPast}
use Rattle.heard_law.specs.Telling.{has_node, Tells}

-- behind each line that was carried out, those of a drain among them, the history tells so of the chain
abbrev pub HistoriesTellTheChain : Type 0
HistoriesTellTheChain = (h : List Entry) (c : Chain) → IsPast h c → Tells h c

-- and behind each run of a script
abbrev pub RunsTellTheChain : Type 0
RunsTellTheChain = (h : List Turn) (stage : ScriptStage) (c : Chain) → LeadsTo h stage c → Tells (entries h) c

-- where an SDU leads by what a history tells of a node, there it leads at the node
abbrev pub NodesLeadAsTold : Type 0
NodesLeadAsTold = (h : List Entry) (c : Chain) → Tells h c → (name : NodeName) → has_node c.tables name ≡ true → (at : Side) (port : PortName) (sdu : List ℕ) (target : Result Target Discard)
    → Leads c.tables (node_at c name) at port sdu target ↔ Leads c.tables (known c.tables name h) at port sdu target
