-- A node applies a plan of a remote, and learns when all three have (TS 38.300 clause 16.12.6, TS 38.323 clause 5.1.2).
use Rattle.std.specs.Prelude.{ℕ, ◌+◌, Bool, true, false, not, ◌&&◌, ◌||◌, List, [], ◌++◌, length, map, filter, sum_by, Option, Some, None, is_some, if◌then◌else◌}
use Rattle.link_base.specs.declared.names.Remote.{Remote}
use Rattle.link_base.specs.declared.names.Goal.{Goal}
use Rattle.bearer_map.specs.declared.ids.Attachment.{Attachment}
use Rattle.bearer_map.specs.declared.settings.Settings.{Settings}
use Rattle.rlc_model.specs.Tx.{unconfirmed}
use Rattle.pdcp_model.specs.Sender.{begins_wait}
use Rattle.node_model.specs.declared.parcel.Parcel.{Parcel}
use Rattle.node_model.specs.Names.{is_remote, is_of}
use Rattle.rlc_model.specs.Sides.{Entity}
use Rattle.node_model.specs.State.{PortSide, Outgoing, Incoming, Node}
use Rattle.node_model.specs.Tables.{is_open_on}
use Rattle.node_model.specs.Opening.{new_entity, attachments}

-- the SDU in a slot leads to the remote
abbrev pub leads_to : Remote → Option Parcel → Bool
leads_to remote None = false
leads_to remote (Some parcel) = is_remote remote parcel.route.key.remote

-- a slot is emptied where it is one of the remote's own ports, or its SDU leads to the remote
abbrev pub is_purged : Remote → PortSide → Bool
is_purged remote s = is_of remote s.name || leads_to remote s.slot

-- a side of a port once its node has applied a plan of a remote. The remote's own ports are closed or opened anew, and their slots and queues
-- are emptied, as is each other slot whose SDU leads to the remote; Uu entities and Uu queues stay
abbrev pub side_after : Settings → Remote → Goal → ℕ → PortSide → PortSide
side_after s remote goal epoch side = record side {
  entity = if is_of remote side.name then (if is_open_on goal side.name then Some (new_entity s side.size epoch) else None) else side.entity;
  slot = if is_purged remote side then None else side.slot;
  queue = if is_of remote side.name then [] else side.queue;
}

-- 1 or 0
abbrev pub one_if : Bool → ℕ
one_if b = if b then 1 else 0

-- how many SDUs a transmitter has that aren't confirmed; none where the side is closed
abbrev pub unconfirmed_in : Option Entity → ℕ
unconfirmed_in None = 0
unconfirmed_in (Some e) = unconfirmed e.tx

-- how many SDUs the relay drops at a side: those in its slot and its queue, and those that its transmitter has and that aren't confirmed
abbrev pub dropped_at : Remote → PortSide → ℕ
dropped_at remote side = one_if (is_purged remote side && is_some side.slot) + (if is_of remote side.name then length side.queue + unconfirmed_in side.entity else 0)

-- a sender of the remote waits for a status report
abbrev pub outgoing_after : Remote → Outgoing → Outgoing
outgoing_after remote o = if is_remote remote o.key.remote then record o { sender = begins_wait o.sender } else o

-- no report about a key of the remote is made until all nodes have applied the plan
abbrev pub incoming_after : Remote → Incoming → Incoming
incoming_after remote i = if is_remote remote i.key.remote then record i { wanted = false; held_back = true } else i

-- the node's attachments, with the new one of the remote or none
abbrev pub attached_after : Remote → Goal → List Attachment → List Attachment
attached_after remote goal attached = filter (λ (a : Attachment). not (is_remote remote a.remote)) attached ++ attachments remote goal

-- a node applies a plan of a remote: the remote itself, the relay or the gNB
abbrev pub node_after : Settings → Remote → Goal → ℕ → Node → Node
node_after s remote goal epoch n = record n {
  ports = map (side_after s remote goal epoch) n.ports;
  attached = attached_after remote goal n.attached;
  outgoing = map (outgoing_after remote) n.outgoing;
  incoming = map (incoming_after remote) n.incoming;
}

-- how many SDUs a node drops that applies a plan of a remote
abbrev pub dropped : Remote → Node → ℕ
dropped remote n = sum_by (dropped_at remote) n.ports

-- once all nodes have applied a plan, a report about a key of the remote is wanted
abbrev pub wanting : Remote → Incoming → Incoming
wanting remote i = if is_remote remote i.key.remote then record i { wanted = true; held_back = false } else i

-- a node learns that all have applied a plan of a remote
abbrev pub node_closed : Remote → Node → Node
node_closed remote n = record n { incoming = map (wanting remote) n.incoming }
