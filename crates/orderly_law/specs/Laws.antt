-- What each run keeps in order.
use Rattle.std.specs.Prelude.{◌≡◌, Bool, true, false, List, map, Some, Contains}
use Rattle.std.specs.List.{AllByRecursion}
use Rattle.link_base.specs.declared.names.Side.{Side}
use Rattle.script_text.specs.declared.line.Line.{Line}
use Rattle.script_text.specs.declared.line.Line.TheVariants.{Burst, Drain}
use Rattle.script_text.specs.declared.stage.ScriptStage.{ScriptStage}
use Rattle.node_model.specs.Names.{NodeName, owner}
use Rattle.node_model.specs.State.{PortSide, side_at}
use Rattle.chain_model.specs.Runs.{Turn, entries, LeadsTo}
use Rattle.chain_model.specs.State.{Chain, node_at}
use Rattle.chain_law.specs.Laws.{ComesUp}
use Rattle.step_law.specs.OneStep.{SameChain, IsOrderly}

-- in each run each side that a node has is found by its port's name, and the node is the owner of that side of the port
abbrev pub SidesAreFound : Type 0
SidesAreFound = (c : Chain) → ComesUp c → (name : NodeName) (s : PortSide) → Contains (node_at c name).ports s
    → (side : Side) × (owner side s.name ≡ name) × (side_at (node_at c name) s.name ≡ Some s)

-- in each run the tables' rows are in order, receivers are sound, and identities are apart
abbrev pub RunsKeepChainsOrderly : Type 0
RunsKeepChainsOrderly = (c : Chain) → ComesUp c → IsOrderly c

-- the line of a turn
abbrev pub line_of : Turn → Line
line_of t = t.entry.line

-- the line is a burst, which leaves the order of the relay's ports open, or a drain
abbrev pub is_burst_or_drain : Line → Bool
is_burst_or_drain Burst = true
is_burst_or_drain Drain = true
is_burst_or_drain line = false

-- two runs over the same lines, none of them a burst or a drain, have the same entries, and lead to one stage and to chains that nothing tells apart
abbrev pub RunsHaveOneOutcome : Type 0
RunsHaveOneOutcome =
    (h g : List Turn) (stage stage' : ScriptStage) (c d : Chain) → LeadsTo h stage c → LeadsTo g stage' d → map line_of h ≡ map line_of g
    → AllByRecursion (λ (t : Turn). is_burst_or_drain t.entry.line ≡ false) h
    → (entries h ≡ entries g) × (stage ≡ stage') × SameChain c d
