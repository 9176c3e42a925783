-- What the chain of items needs to know of a chain.
use Rattle.std.specs.Prelude.{◌&&◌, Bool, true, false, cond, List, Option, is_some, option_map}
use Rattle.link_base.specs.declared.names.Key.{Key}
use Rattle.link_base.specs.declared.names.PortName.{PortName}
use Rattle.link_base.specs.declared.names.Remote.{Remote}
use Rattle.link_base.specs.declared.names.Side.{Side}
use Rattle.link_base.specs.declared.names.Side.TheVariants.{Low, High}
use Rattle.link_base.specs.declared.names.SnSize.{SnSize}
use Rattle.bearer_map.specs.declared.ids.Attachment.{Attachment}
use Rattle.bearer_map.specs.Contents.{Contents}
use Rattle.rlc_model.specs.declared.hop.Pdu.{Pdu}
use Rattle.rlc_model.specs.Sides.{Entity}
use Rattle.node_model.specs.declared.parcel.Parcel.{Parcel}
use Rattle.node_model.specs.Names.{NodeName, AtRelay, owner}
use Rattle.node_model.specs.State.{PortSide, Incoming, Outgoing, side_at, slot_at, queue_at, outgoing_at, incoming_at}
use Rattle.chain_model.specs.declared.plan.Plan.{Plan}
use Rattle.chain_model.specs.Places.{find_node}
use Rattle.chain_model.specs.State.{Chain, node_at, plan_at, entity_on}

-- the tables; the entity of each side of each port; what stands in the slots and queues of the relay; what each node attaches; the ends of keys at each
-- node; the last plan of each remote; the air; the size of the SNs of each side that a node has; and which nodes there are
pub record View : Type 0 where
  pub tables : Contents
  pub entity : Side → PortName → Option Entity
  pub slot : PortName → Option Parcel
  pub queue : PortName → List Parcel
  pub attached : NodeName → List Attachment
  pub outgoing : NodeName → Key → Option Outgoing
  pub incoming : NodeName → Key → Option Incoming
  pub plan : Remote → Option Plan
  pub air : List (Option Pdu)
  pub size : Side → PortName → Option SnSize
  pub there : NodeName → Bool

-- the size of a side's SNs
abbrev pub side_size : PortSide → SnSize
side_size s = s.size

-- the view of a chain
abbrev pub view : Chain → View
view c = record {
  tables = c.tables;
  entity = λ at port. entity_on c at port;
  slot = λ port. slot_at (node_at c AtRelay) port;
  queue = λ port. queue_at (node_at c AtRelay) port;
  attached = λ name. (node_at c name).attached;
  outgoing = λ name key. outgoing_at (node_at c name) key;
  incoming = λ name key. incoming_at (node_at c name) key;
  plan = λ remote. plan_at c remote;
  air = c.air;
  size = λ at port. option_map side_size (side_at (node_at c (owner at port)) port);
  there = λ name. is_some (find_node c name);
}

-- whether two sides are one
abbrev pub is_side : Side → Side → Bool
is_side Low Low = true
is_side High High = true
is_side a b = false

-- a table with one value changed, where the tests tell which rows and which columns are one
abbrev pub put_at : {R C X : Type 0} → (R → R → Bool) → (C → C → Bool) → (R → C → X) → R → C → X → R → C → X
put_at is_row is_column f r c x s d = cond (is_row s r && is_column d c) x (f s d)
