-- The ends of bearers take part in a path switch (TS 38.323 clause 5.1.2).
use Rattle.std.specs.Prelude.{true, false, map, if◌then◌else◌}
use Rattle.link_base.specs.declared.names.Remote.{Remote}
use Rattle.pdcp_model.specs.Sender.{begins_wait}
use Rattle.node_model.specs.Names.{is_remote}
use Rattle.node_model.specs.State.{Node}
use Rattle.node_model.specs.Switching.{outgoing_after, incoming_after}
use Rattle.node_bearers.specs.declared.bearer.Bearer.{Bearer}

-- a bearer of the remote, once its end has applied a plan: its sender waits, and reports are held back
abbrev pub bearer_after : Remote → Bearer → Bearer
bearer_after remote b = if is_remote remote b.remote then record b { tx = begins_wait b.tx; wanted = false; held_back = true } else b

-- a bearer of the remote, once all nodes have: a report is wanted
abbrev pub bearer_closed : Remote → Bearer → Bearer
bearer_closed remote b = if is_remote remote b.remote then record b { wanted = true; held_back = false } else b

-- the ends of bearers of a node that has applied a plan of the remote
abbrev pub ends_after : Remote → Node → Node
ends_after remote n = record n { outgoing = map (outgoing_after remote) n.outgoing; incoming = map (incoming_after remote) n.incoming }
