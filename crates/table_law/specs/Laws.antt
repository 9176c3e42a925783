-- What holds of the tables of each run.
use Rattle.std.specs.Prelude.{◌≡◌, ℕ, true, List, Some}
use Rattle.link_base.specs.declared.names.Goal.TheVariants.{Relay as ToRelay}
use Rattle.link_base.specs.declared.names.LocalId.{LocalId}
use Rattle.link_base.specs.declared.names.Remote.{Remote}
use Rattle.bearer_map.specs.Contents.{Contents}
use Rattle.bearer_map.specs.Ids.{IsAttached}
use Rattle.script_text.specs.declared.stage.ScriptStage.{ScriptStage}
use Rattle.script_text.specs.Stages.{is_past_go}
use Rattle.node_model.specs.Names.{NodeName}
use Rattle.chain_model.specs.declared.plan.Plan.{Plan}
use Rattle.chain_model.specs.State.{Chain, node_at, plan_at}
use Rattle.chain_model.specs.Runs.{Turn, contents, LeadsTo}
use Rattle.chain_model.specs.Told.{first_goal}
use Rattle.table_law.specs.Declared.{AreDeclared, IsMapped}

-- the tables that the lines of a run declare are sound, and so are those of its chain
abbrev pub TablesAreSound : Type 0
TablesAreSound = (h : List Turn) (stage : ScriptStage) (c : Chain) → LeadsTo h stage c → AreDeclared (contents stage) × AreDeclared c.tables

-- a remote that begins on the relay has a map row for each of its bearers
abbrev pub MapsBeginning : Contents → Type 0
MapsBeginning t = (remote : Remote) (id : LocalId) → first_goal t remote ≡ ToRelay id → IsMapped t remote

-- behind the end of the tables of a run it has
abbrev pub TablesAreMapped : Type 0
TablesAreMapped = (h : List Turn) (stage : ScriptStage) (c : Chain) → LeadsTo h stage c → is_past_go stage.part ≡ true → MapsBeginning c.tables

-- so has each remote that a node attaches, or of which the last plan asks for the relay
pub record MapsRelayed (c : Chain) : Type 0 where
  pub attached : (node : NodeName) (remote : Remote) (id : ℕ) → IsAttached (node_at c node).attached remote id → IsMapped c.tables remote
  pub planned : (remote : Remote) (plan : Plan) (id : LocalId) → plan_at c remote ≡ Some plan → plan.goal ≡ ToRelay id → IsMapped c.tables remote

-- behind the end of the tables of a run they have
abbrev pub RelayedRemotesAreMapped : Type 0
RelayedRemotesAreMapped = (h : List Turn) (stage : ScriptStage) (c : Chain) → LeadsTo h stage c → is_past_go stage.part ≡ true → MapsRelayed c
