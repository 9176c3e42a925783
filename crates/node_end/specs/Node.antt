-- The node that an end is seen as.
use Rattle.std.specs.Prelude.{◌≡◌, List, Option, Some, None}
use Rattle.link_base.specs.declared.names.Remote.{Remote}
use Rattle.link_base.specs.declared.names.Side.{Side}
use Rattle.link_base.specs.declared.names.Side.TheVariants.{Low, High}
use Rattle.bearer_map.specs.declared.ids.Attachment.{Attachment}
use Rattle.node_model.specs.Names.{NodeName, AtRemote, AtRelay, AtGnb}
use Rattle.node_model.specs.State.{PortSide, Node, TabledNode}
use Rattle.node_end.specs.declared.node.EndNode.{EndNode}

-- the end of a remote, or of the gNB
abbrev pub name_of : Option Remote → NodeName
name_of (Some remote) = AtRemote remote
name_of None = AtGnb

-- the side of its ports that an end has
abbrev pub side_of : NodeName → Side
side_of (AtRemote remote) = Low
side_of AtRelay = Low
side_of AtGnb = High

-- a node with the ends of bearers of another
abbrev pub with_ends : Node → Node → Node
with_ends n ends = record n { outgoing = ends.outgoing; incoming = ends.incoming }

-- a node with these sides of ports, these attachments, and the ends of bearers of another
abbrev pub end_with : NodeName → List PortSide → List Attachment → Node → Node
end_with name ports attached ends = record { name = name; ports = ports; attached = attached; outgoing = ends.outgoing; incoming = ends.incoming }

-- what an end has, as a node
abbrev pub node_of : EndNode → Node
node_of e = end_with (name_of e.remote) e.ports e.ids e.bearers

-- the same with its tables
abbrev pub tabled : EndNode → TabledNode
tabled e = record { tables = e.tables; node = node_of e }

-- it is the end of the same node, with the same tables and attachments
pub record IsSameEnd (old new : EndNode) : Type 0 where
  pub tables : new.tables ≡ old.tables
  pub ids : new.ids ≡ old.ids
  pub remote : new.remote ≡ old.remote
