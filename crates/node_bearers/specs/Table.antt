-- The bearers of an end, and the node that they are seen as.
use Rattle.std.specs.Prelude.{List, map}
use Rattle.link_base.specs.declared.names.Way.{Way}
use Rattle.rlc_model.specs.Sides.{flip}
use Rattle.node_model.specs.Names.{AtGnb}
use Rattle.node_model.specs.State.{Node, no_node}
use Rattle.node_bearers.specs.declared.bearer.Bearer.{Bearer}
use Rattle.node_bearers.specs.declared.bearers.Bearers.TheInside.{Inside}
use Rattle.node_bearers.specs.Bearer.{outgoing_of, incoming_of}
use Rattle.node_bearers.specs.Order.{IsInOrder}

-- a node of which only these bearers are known, where it sends in this way
abbrev pub node_with : Way → List Bearer → Node
node_with sends rows = record (no_node AtGnb) { outgoing = map (outgoing_of sends) rows; incoming = map (incoming_of (flip sends)) rows }

-- what callers see of the fields
abbrev pub node_of : Inside → Node
node_of a = node_with a.sends a.rows.items

-- the bearers are in order
abbrev pub AreBearers : Inside → Type 0
AreBearers a = IsInOrder a.rows.items
