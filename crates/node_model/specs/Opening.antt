-- Nodes at which nothing has happened.
use Rattle.std.specs.Prelude.{ℕ, Bool, true, false, List, [], ◌∷◌, ◌++◌, map, flat_map, filter, if◌then◌else◌, Some, None}
use Rattle.link_base.specs.declared.names.SnSize.{SnSize}
use Rattle.link_base.specs.declared.names.Remote.{Remote}
use Rattle.link_base.specs.declared.names.Goal.{Goal}
use Rattle.link_base.specs.declared.names.Goal.TheVariants.{Direct as ToDirect, Relay as ToRelay}
use Rattle.link_base.specs.declared.names.PortName.{PortName}
use Rattle.link_base.specs.declared.names.PortName.TheVariants.{Direct, Pc5, Uu}
use Rattle.link_base.specs.declared.names.Way.{Way}
use Rattle.link_base.specs.declared.names.Way.TheVariants.{Ul, Dl}
use Rattle.bearer_map.specs.declared.rows.RemoteRow.{RemoteRow}
use Rattle.bearer_map.specs.declared.rows.BearerRow.{BearerRow}
use Rattle.bearer_map.specs.declared.rows.Pc5Row.{Pc5Row}
use Rattle.bearer_map.specs.declared.rows.UuRow.{UuRow}
use Rattle.bearer_map.specs.declared.settings.Settings.{Settings}
use Rattle.bearer_map.specs.declared.ids.Attachment.{Attachment}
use Rattle.bearer_map.specs.Contents.{Contents}
use Rattle.bearer_map.specs.Ids.{attachment}
use Rattle.rlc_model.specs.Tx.{empty_tx}
use Rattle.rlc_model.specs.Rx.{empty_rx}
use Rattle.rlc_model.specs.Sides.{Entity}
use Rattle.pdcp_model.specs.Sender.{new_sender}
use Rattle.pdcp_model.specs.Receiver.{new_receiver}
use Rattle.node_model.specs.Names.{AtRemote, AtRelay, AtGnb, is_remote, key_of}
use Rattle.node_model.specs.State.{PortSide, Outgoing, Incoming, Node}
use Rattle.node_model.specs.Tables.{settings, first_count, is_open_on}

-- an entity that has sent and heard nothing (TS 38.322 clause 5.1.1)
abbrev pub new_entity : Settings → SnSize → ℕ → Entity
new_entity s size epoch = record { epoch = epoch; tx = empty_tx size s.poll_pdu s.poll_byte s.max_retx; rx = empty_rx size }

-- a side of a port, and whether it is open
abbrev pub new_side : Settings → PortName → SnSize → Bool → PortSide
new_side s name size is_open = record { name = name; size = size; entity = if is_open then Some (new_entity s size 0) else None; slot = None; queue = [] }

-- a side of a direct port, where this is its remote's path
abbrev pub direct_side : Settings → Goal → BearerRow → PortSide
direct_side s goal row = new_side s (Direct row.remote row.drb) row.direct (is_open_on goal (Direct row.remote row.drb))

-- a side of a PC5 port, where this is its remote's path
abbrev pub pc5_side : Settings → Goal → Pc5Row → PortSide
pc5_side s goal row = new_side s (Pc5 row.remote row.chan) row.size (is_open_on goal (Pc5 row.remote row.chan))

-- a side of a Uu port, which is always open
abbrev pub uu_side : Settings → UuRow → PortSide
uu_side s row = new_side s (Uu row.chan) row.size true

-- the bearers of a remote
abbrev pub bearers_of : Contents → Remote → List BearerRow
bearers_of t remote = filter (λ (row : BearerRow). is_remote remote row.remote) t.bearers

-- the PC5 channels of a remote
abbrev pub pc5s_of : Contents → Remote → List Pc5Row
pc5s_of t remote = filter (λ (row : Pc5Row). is_remote remote row.remote) t.pc5s

-- the sending end of a bearer in one way
abbrev pub new_outgoing : Way → BearerRow → Outgoing
new_outgoing way row = record { key = key_of row.remote row.drb way; sender = new_sender row.pdcp (first_count row way) }

-- the receiving end of a bearer in one way
abbrev pub new_incoming : Way → BearerRow → Incoming
new_incoming way row = record { key = key_of row.remote row.drb way; receiver = new_receiver row.pdcp (first_count row way); wanted = false; held_back = false; reported = 0 }

-- the attachment of a remote on this path
abbrev pub attachments : Remote → Goal → List Attachment
attachments remote ToDirect = []
attachments remote (ToRelay id) = attachment remote id ∷ []

-- a remote
abbrev pub new_remote : Contents → RemoteRow → Node
new_remote t row = record {
  name = AtRemote row.remote;
  ports = map (direct_side (settings t) row.goal) (bearers_of t row.remote) ++ map (pc5_side (settings t) row.goal) (pc5s_of t row.remote);
  attached = attachments row.remote row.goal;
  outgoing = map (new_outgoing Ul) (bearers_of t row.remote);
  incoming = map (new_incoming Dl) (bearers_of t row.remote);
}

-- the attachments of all remotes
abbrev pub all_attached : Contents → List Attachment
all_attached t = flat_map (λ (row : RemoteRow). attachments row.remote row.goal) t.remotes

-- the relay
abbrev pub new_relay : Contents → Node
new_relay t = record {
  name = AtRelay;
  ports = flat_map (λ (row : RemoteRow). map (pc5_side (settings t) row.goal) (pc5s_of t row.remote)) t.remotes ++ map (uu_side (settings t)) t.uus;
  attached = all_attached t;
  outgoing = [];
  incoming = [];
}

-- the gNB
abbrev pub new_gnb : Contents → Node
new_gnb t = record {
  name = AtGnb;
  ports = flat_map (λ (row : RemoteRow). map (direct_side (settings t) row.goal) (bearers_of t row.remote)) t.remotes ++ map (uu_side (settings t)) t.uus;
  attached = all_attached t;
  outgoing = map (new_outgoing Dl) t.bearers;
  incoming = map (new_incoming Ul) t.bearers;
}
