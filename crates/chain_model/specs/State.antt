-- What the chain holds: its nodes, their plans, and what is between them.
use Rattle.std.specs.Prelude.{ℕ, true, List, [], ◌∷◌, ◌++◌, map, find, Option, unwrap_or}
use Rattle.link_base.specs.declared.names.Remote.{Remote}
use Rattle.link_base.specs.declared.names.Key.{Key}
use Rattle.link_base.specs.declared.names.PortName.{PortName}
use Rattle.link_base.specs.declared.names.Side.{Side}
use Rattle.bearer_map.specs.declared.rows.RemoteRow.{RemoteRow}
use Rattle.bearer_map.specs.Contents.{Contents}
use Rattle.rlc_model.specs.declared.hop.Pdu.{Pdu}
use Rattle.rlc_model.specs.Sides.{Entity}
use Rattle.pdcp_model.specs.Sender.{Sender}
use Rattle.node_model.specs.Names.{NodeName, is_node, is_remote, owner, source, sink, replaced}
use Rattle.node_model.specs.State.{Incoming, Node, no_node, entity_at, outgoing, incoming, set_outgoing, set_incoming}
use Rattle.node_model.specs.Opening.{new_remote, new_relay, new_gnb}
use Rattle.chain_model.specs.declared.plan.Plan.{Plan}

-- the tables; the remotes, the relay and the gNB; the last plan of each remote; by ticket less 1, the PDUs on the air; the tickets that are
-- staged for the next burst, in order
pub record Chain : Type 0 where
  pub tables : Contents
  pub nodes : List Node
  pub plans : List Plan
  pub air : List (Option Pdu)
  pub staged : List ℕ

-- the node of this name
abbrev pub node_at : Chain → NodeName → Node
node_at c name = unwrap_or (find (λ (n : Node). is_node name n.name) c.nodes) (no_node name)

-- the chain with this node in the place of the one of the same name
abbrev pub set_node : Chain → Node → Chain
set_node c n = record c { nodes = replaced (λ (x : Node). is_node n.name x.name) n c.nodes }

-- the last plan of a remote
abbrev pub plan_at : Chain → Remote → Option Plan
plan_at c remote = find (λ (p : Plan). is_remote remote p.remote) c.plans

-- the chain with this plan in the place of the last one of its remote
abbrev pub set_plan : Chain → Plan → Chain
set_plan c p = record c { plans = replaced (λ (x : Plan). is_remote p.remote x.remote) p c.plans }

-- the sender of a key, at the end that sends its SDUs
abbrev pub sender_at : Chain → Key → Sender
sender_at c key = (outgoing (node_at c (source key)) key).sender

-- the chain where the key has this sender
abbrev pub set_sender : Chain → Key → Sender → Chain
set_sender c key s = set_node c (set_outgoing (node_at c (source key)) (record (outgoing (node_at c (source key)) key) { sender = s }))

-- the receiving end of a key, at the end that receives its SDUs
abbrev pub receiving_at : Chain → Key → Incoming
receiving_at c key = incoming (node_at c (sink key)) key

-- the chain where the key has this receiving end
abbrev pub set_receiving : Chain → Key → Incoming → Chain
set_receiving c key i = set_node c (set_incoming (node_at c (sink key)) i)

-- the entity of a side of a port, where it is open
abbrev pub entity_on : Chain → Side → PortName → Option Entity
entity_on c at port = entity_at (node_at c (owner at port)) port

-- the path of a remote at the start, as a plan that all nodes have applied
abbrev pub first_plan : RemoteRow → Plan
first_plan row = record { remote = row.remote; goal = row.goal; epoch = 0; at_remote = true; at_relay = true; at_gnb = true }

-- the chain right behind its tables: nothing has happened
abbrev pub opened : Contents → Chain
opened t = record { tables = t; nodes = map (new_remote t) t.remotes ++ new_relay t ∷ new_gnb t ∷ []; plans = map first_plan t.remotes; air = []; staged = [] }
