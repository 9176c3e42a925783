-- What a node holds: its sides of ports, its attachments, and at an end of bearers its keys.
use Rattle.std.specs.Prelude.{ℕ, Bool, false, List, [], ◌∷◌, find, Option, Some, None, unwrap_or, option_and_then, option_map, if◌then◌else◌}
use Rattle.link_base.specs.declared.names.SnSize.{SnSize}
use Rattle.link_base.specs.declared.names.SnSize.TheVariants.{S12}
use Rattle.link_base.specs.declared.names.Remote.{Remote}
use Rattle.link_base.specs.declared.names.LocalId.{LocalId}
use Rattle.link_base.specs.declared.names.Key.{Key}
use Rattle.link_base.specs.declared.names.PortName.{PortName}
use Rattle.bearer_map.specs.declared.ids.Attachment.{Attachment}
use Rattle.bearer_map.specs.Contents.{Contents}
use Rattle.rlc_model.specs.Sides.{Entity}
use Rattle.pdcp_model.specs.Sender.{Sender, new_sender}
use Rattle.pdcp_model.specs.Receiver.{Receiver, new_receiver}
use Rattle.node_model.specs.declared.parcel.Parcel.{Parcel}
use Rattle.node_model.specs.Names.{NodeName, is_port, is_key, is_remote, replaced}

-- a side of a port: the size of the port's RLC SNs, and where the side is open its entity. At the relay it is an ingress and an egress:
-- it has a slot for an SDU that was heard, and a queue of SDUs that are to be sent
pub record PortSide : Type 0 where
  pub name : PortName
  pub size : SnSize
  pub entity : Option Entity
  pub slot : Option Parcel
  pub queue : List Parcel

-- the sending end of a key
pub record Outgoing : Type 0 where
  pub key : Key
  pub sender : Sender

-- the receiving end of a key: whether a status report about it is wanted, whether reports are held back until all nodes have applied the plan,
-- and how many SDUs had been handed up when the last report was given to RLC
pub record Incoming : Type 0 where
  pub key : Key
  pub receiver : Receiver
  pub wanted : Bool
  pub held_back : Bool
  pub reported : ℕ

-- a node: its sides of ports, the local identities that it attaches to remotes, and at an end of bearers the keys that it sends and receives
pub record Node : Type 0 where
  pub name : NodeName
  pub ports : List PortSide
  pub attached : List Attachment
  pub outgoing : List Outgoing
  pub incoming : List Incoming

-- a node, and the tables of its session, of which it keeps a copy to find routes
pub record TabledNode : Type 0 where
  pub tables : Contents
  pub node : Node

-- a side of a port at a node, where the node has it
abbrev pub side_at : Node → PortName → Option PortSide
side_at n port = find (λ s. is_port port s.name) n.ports

-- the entity of a side, where it is open
abbrev pub entity_of : PortSide → Option Entity
entity_of s = s.entity

-- the entity of a port at a node, where it is open there
abbrev pub entity_at : Node → PortName → Option Entity
entity_at n port = option_and_then entity_of (side_at n port)

-- what the slot of a side holds
abbrev pub slot_of : PortSide → Option Parcel
slot_of s = s.slot

-- what the slot of a port holds
abbrev pub slot_at : Node → PortName → Option Parcel
slot_at n port = option_and_then slot_of (side_at n port)

-- what the queue of a side holds
abbrev pub queue_of : PortSide → List Parcel
queue_of s = s.queue

-- what the queue of a port holds
abbrev pub queue_at : Node → PortName → List Parcel
queue_at n port = unwrap_or (option_map queue_of (side_at n port)) []

-- the node with this side of a port in the place of the one of the same name
abbrev pub set_side : Node → PortSide → Node
set_side n s = record n { ports = replaced (λ x. is_port s.name x.name) s n.ports }

-- the node where this side of a port is open with this entity
abbrev pub set_entity : Node → PortSide → Entity → Node
set_entity n s e = set_side n (record s { entity = Some e })

-- the sending end of a key at a node, where the node has it
abbrev pub outgoing_at : Node → Key → Option Outgoing
outgoing_at n key = find (λ o. is_key key o.key) n.outgoing

-- the node with this sending end in the place of the one of the same key
abbrev pub set_outgoing : Node → Outgoing → Node
set_outgoing n o = record n { outgoing = replaced (λ x. is_key o.key x.key) o n.outgoing }

-- the receiving end of a key at a node, where the node has it
abbrev pub incoming_at : Node → Key → Option Incoming
incoming_at n key = find (λ i. is_key key i.key) n.incoming

-- the node with this receiving end in the place of the one of the same key
abbrev pub set_incoming : Node → Incoming → Node
set_incoming n i = record n { incoming = replaced (λ x. is_key i.key x.key) i n.incoming }

-- a sending end with nothing, which stands for one that a node doesn't have
abbrev pub no_outgoing : Key → Outgoing
no_outgoing key = record { key = key; sender = new_sender S12 0 }

-- a receiving end with nothing, which stands for one that a node doesn't have
abbrev pub no_incoming : Key → Incoming
no_incoming key = record { key = key; receiver = new_receiver S12 0; wanted = false; held_back = false; reported = 0 }

-- the local identity that attachments give a remote
abbrev pub id_in : List Attachment → Remote → Option LocalId
id_in [] remote = None
id_in (a ∷ more) remote = if is_remote remote a.remote then Some a.id else id_in more remote

-- the local identity that a node attaches to a remote
abbrev pub id_at : Node → Remote → Option LocalId
id_at n remote = id_in n.attached remote

-- a node that has nothing, which stands for one that isn't there
abbrev pub no_node : NodeName → Node
no_node name = record { name = name; ports = []; attached = []; outgoing = []; incoming = [] }

-- the sending end of a key at a node; one with nothing where the node has none
abbrev pub outgoing : Node → Key → Outgoing
outgoing n key = unwrap_or (outgoing_at n key) (no_outgoing key)

-- the receiving end of a key at a node; one with nothing where the node has none
abbrev pub incoming : Node → Key → Incoming
incoming n key = unwrap_or (incoming_at n key) (no_incoming key)
