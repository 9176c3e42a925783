-- What a chain is seen as, which lines it carries out, and what its calls do and rely on.
use Rattle.std.specs.Prelude.{◌≡◌, Bool, true, false, List, [], ◌++◌, map, is_some}
use Rattle.std.specs.List.{filter_map}
use Rattle.link_base.specs.declared.names.Key.{Key}
use Rattle.link_base.specs.declared.names.PortName.{PortName}
use Rattle.bearer_map.specs.Contents.{AreBearers}
use Rattle.rlc_model.specs.declared.hop.Pdu.{Pdu}
use Rattle.pdcp_model.specs.Sender.{confirmed, submitted}
use Rattle.rlc_model.specs.Sides.{hearer_of, way_from}
use Rattle.script_text.specs.declared.line.Line.{Line}
use Rattle.script_text.specs.declared.line.Line.TheVariants.{Submit, Grant, Deliver, Repeat, Lose, Expire, Push, Pull, Report}
use Rattle.script_text.specs.declared.event.Event.{Event}
use Rattle.script_text.specs.declared.reply.Reply.{Reply}
use Rattle.script_text.specs.declared.trace.Total.{Total}
use Rattle.node_model.specs.declared.answers.NodeHeard.{NodeHeard}
use Rattle.node_model.specs.Hearing.{HearsPdu}
use Rattle.node_model.specs.Names.{NodeName, is_node, owner, source, sink, replaced}
use Rattle.node_model.specs.State.{Node, outgoing_at, incoming_at}
use Rattle.node_model.specs.Tables.{keys, has_bearer}
use Rattle.chain_model.specs.Lines.{is_handed_over}
use Rattle.chain_model.specs.Telling.{TellsHeard}
use Rattle.chain_model.specs.State.{Chain, first_plan, node_at, sender_at, receiving_at}
use Rattle.chain_model.specs.Steps.{Does, FeedsAll, Step, reporting}
use Rattle.chain_core.specs.declared.chain.Chain.TheInside.{Inside}
use Rattle.chain_core.specs.declared.lines.Arrival.{Arrival}
use Rattle.chain_core.specs.Confirming.{sent_over, watch_of}
use Rattle.chain_core.specs.Nodes.{NodesOfTables, node_in, IsSmallAt}

-- the chain with these tables, nodes and PDUs on the air. Each remote stays on the path on which it began, and nothing is staged
abbrev pub chain_of : Inside → Chain
chain_of c = record { tables = c.nodes.tables; nodes = c.nodes.nodes; plans = map first_plan c.nodes.tables.remotes; air = c.air; staged = [] }

-- the line is one that a chain carries out whose remotes stay on their paths: no plan, and no burst or drain
abbrev pub is_chain_line : Line → Bool
is_chain_line (Submit key sdu) = true
is_chain_line (Grant port way octets) = true
is_chain_line (Deliver ticket) = true
is_chain_line (Repeat ticket) = true
is_chain_line (Lose ticket) = true
is_chain_line (Expire port side timer) = true
is_chain_line (Push port) = true
is_chain_line (Pull port) = true
is_chain_line (Report key) = true
is_chain_line line = false

-- both ends of each key of a bearer are there
pub record HasEnds (c : Chain) : Type 0 where
  pub sender : (key : Key) → has_bearer c.tables key.remote key.drb ≡ true → is_some (outgoing_at (node_at c (source key)) key) ≡ true
  pub receiver : (key : Key) → has_bearer c.tables key.remote key.drb ≡ true → is_some (incoming_at (node_at c (sink key)) key) ≡ true

-- the numbers of all entities are small enough for octets to be heard
abbrev pub HasSmallNumbers : Chain → Type 0
HasSmallNumbers c = (name : NodeName) (port : PortName) → IsSmallAt (node_at c name) port

-- a line does this before the ends feed: to the events logged its own are added
pub record Carries (old : Chain) (line : Line) (log log' : List Event) (reply : Reply) (new : Chain) : Type 0 where
  pub own : List Event
  pub does : Does old line own reply new
  pub adds : log' ≡ log ++ own

-- a PDU comes to the node that it goes to: what is told of it, what may be confirmed, whether it was handed over, and the nodes behind it
pub record Arrives (old : NodesOfTables) (pdu : Pdu) (events : List Event) (reply : Reply) (arrival : Arrival) (new : NodesOfTables) : Type 0 where
  pub answer : NodeHeard
  pub node : Node
  pub hears : HearsPdu old.tables (node_in old.nodes (owner (hearer_of pdu.way) pdu.port)) (hearer_of pdu.way) pdu answer node
  pub tells : TellsHeard pdu.port (way_from (hearer_of pdu.way)) answer events reply
  pub its_name : node.name ≡ owner (hearer_of pdu.way) pdu.port
  pub watches : arrival.carried.watch ≡ watch_of answer (sent_over old.nodes (hearer_of pdu.way) pdu.port)
  pub heard : arrival.is_heard ≡ is_handed_over answer
  pub tables : new.tables ≡ old.tables
  pub moved : arrival.is_heard ≡ true → new.nodes ≡ replaced (λ (x : Node). is_node (owner (hearer_of pdu.way) pdu.port) x.name) node old.nodes
  pub still : arrival.is_heard ≡ false → new.nodes ≡ old.nodes

-- the ends feed, and the reports that they give are told in key order, which is that of the bearers' rows
pub record Feeds (old : Chain) (log log' : List Event) (new : Chain) : Type 0 where
  pub given : List Key
  pub nodes : List Node
  pub order : AreBearers old.tables.bearers
  pub feeds : FeedsAll old.tables old.nodes given nodes
  pub is : new ≡ record old { nodes = nodes }
  pub adds : log' ≡ log ++ filter_map (reporting given) (keys old.tables)

-- the events logged are those of the line, which is carried out and after which the ends feed
pub record Plays (old : Chain) (line : Line) (log log' : List Event) (reply : Reply) (new : Chain) : Type 0 where
  pub events : List Event
  pub step : Step old line events reply new
  pub adds : log' ≡ log ++ events

-- what became of a key
abbrev pub total_of : Chain → Key → Total
total_of c key = record { key = key; submitted = submitted (sender_at c key); handed = (receiving_at c key).receiver.handed; confirmed = confirmed (sender_at c key) }
