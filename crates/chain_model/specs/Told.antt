-- What a history tells, without any state of a node: where each node stands, which PDUs were sent, and which were heard.
use Rattle.std.specs.Prelude.{ℕ, ◌+◌, ◌==◌, Bool, true, false, not, ◌&&◌, ◌||◌, List, [], ◌∷◌, flat_map, find, Option, Some, None, option_map, unwrap_or, if◌then◌else◌}
use Rattle.std.specs.List.{list_any}
use Rattle.link_base.specs.declared.names.Remote.{Remote}
use Rattle.link_base.specs.declared.names.Goal.{Goal}
use Rattle.link_base.specs.declared.names.Goal.TheVariants.{Direct as ToDirect}
use Rattle.link_base.specs.declared.names.Node.{Node as NodeKind}
use Rattle.link_base.specs.declared.names.Node.TheVariants as kinds
use Rattle.link_base.specs.declared.names.PortName.{PortName}
use Rattle.link_base.specs.declared.names.PortName.TheVariants.{Direct, Pc5, Uu}
use Rattle.link_base.specs.declared.names.Side.{Side}
use Rattle.bearer_map.specs.declared.ids.Attachment.{Attachment}
use Rattle.bearer_map.specs.declared.rows.RemoteRow.{RemoteRow}
use Rattle.bearer_map.specs.Contents.{Contents}
use Rattle.rlc_model.specs.declared.hop.Pdu.{Pdu}
use Rattle.script_text.specs.declared.line.Line.{Line}
use Rattle.script_text.specs.declared.line.Line.TheVariants.{Grant, Deliver, Repeat, Plan as PlanLine, Apply}
use Rattle.script_text.specs.declared.event.Event.{Event}
use Rattle.script_text.specs.declared.event.Event.TheVariants.{Heard as HeardTicket}
use Rattle.script_text.specs.declared.reply.Reply.{Reply}
use Rattle.script_text.specs.declared.reply.Reply.TheVariants.{Ok, OkNumber, NoAir, NoPort, Gone, Stale, Held, Air}
use Rattle.script_text.specs.History.{Entry}
use Rattle.rlc_model.specs.Sides.{sender_of}
use Rattle.rlc_model.specs.Hop.{sent_from}
use Rattle.node_model.specs.Names.{NodeName, AtRemote, AtRelay, AtGnb, is_remote, owner}
use Rattle.node_model.specs.State.{Node, no_node}
use Rattle.node_model.specs.Opening.{attachments}

-- the path of a row of the tables
abbrev pub goal_of : RemoteRow → Goal
goal_of row = row.goal

-- the path of a remote at the start
abbrev pub first_goal : Contents → Remote → Goal
first_goal t remote = unwrap_or (option_map goal_of (find (λ (row : RemoteRow). is_remote remote row.remote) t.remotes)) ToDirect

-- the path that is asked for behind one more line
abbrev pub planned_by : Remote → Line → Reply → Goal → Goal
planned_by remote (PlanLine r goal) (OkNumber epoch) before = if is_remote remote r then goal else before
planned_by remote line reply before = before

-- the path that the last plan of a remote asked for, or its path at the start
abbrev pub last_goal : Contents → Remote → List Entry → Goal
last_goal t remote [] = first_goal t remote
last_goal t remote (e ∷ h) = planned_by remote e.line e.reply (last_goal t remote h)

-- whether two kinds of nodes are one
abbrev pub is_kind : NodeKind → NodeKind → Bool
is_kind kinds.Remote kinds.Remote = true
is_kind kinds.Relay kinds.Relay = true
is_kind kinds.Gnb kinds.Gnb = true
is_kind a b = false

-- the reply accepts
abbrev pub is_accepted : Reply → Bool
is_accepted Ok = true
is_accepted (OkNumber n) = true
is_accepted reply = false

-- a node of this kind has applied the remote's plan by this line
abbrev pub applies : NodeKind → Remote → Line → Reply → Bool
applies kind remote (Apply r k) reply = is_remote remote r && (is_kind kind k && is_accepted reply)
applies kind remote line reply = false

-- in which epoch of a remote a node stands: how many of its plans the node has applied
abbrev pub epoch_at : NodeKind → Remote → List Entry → ℕ
epoch_at kind remote [] = 0
epoch_at kind remote (e ∷ h) = if applies kind remote e.line e.reply then epoch_at kind remote h + 1 else epoch_at kind remote h

-- by which path of a remote a node stands
abbrev pub path_at : Contents → NodeKind → Remote → List Entry → Goal
path_at t kind remote [] = first_goal t remote
path_at t kind remote (e ∷ h) = if applies kind remote e.line e.reply then last_goal t remote h else path_at t kind remote h

-- the kind of a node
abbrev pub kind_of : NodeName → NodeKind
kind_of (AtRemote remote) = kinds.Remote
kind_of AtRelay = kinds.Relay
kind_of AtGnb = kinds.Gnb

-- the epoch in which a side of a port stands; Uu ports stand in epoch 0
abbrev pub side_epoch : Side → PortName → List Entry → ℕ
side_epoch at (Direct remote drb) h = epoch_at (kind_of (owner at (Direct remote drb))) remote h
side_epoch at (Pc5 remote chan) h = epoch_at (kind_of (owner at (Pc5 remote chan))) remote h
side_epoch at (Uu chan) h = 0

-- the local identities that a node attaches
abbrev pub attached_at : Contents → NodeName → List Entry → List Attachment
attached_at t (AtRemote remote) h = attachments remote (path_at t kinds.Remote remote h)
attached_at t AtRelay h = flat_map (λ (row : RemoteRow). attachments row.remote (path_at t kinds.Relay row.remote h)) t.remotes
attached_at t AtGnb h = flat_map (λ (row : RemoteRow). attachments row.remote (path_at t kinds.Gnb row.remote h)) t.remotes

-- a node of which only its attachments are known
abbrev pub known : Contents → NodeName → List Entry → Node
known t name h = record (no_node name) { attached = attached_at t name h }

-- what a ticket stands for behind one more line. The sending side stands in the epoch that the history before tells
abbrev pub entry_after : List Entry → Line → Reply → ℕ → Option Pdu → Option Pdu
entry_after h (Grant port way octets) (Air ticket status number bytes) t before =
    if ticket == t then Some (sent_from port (sender_of way) (side_epoch (sender_of way) port h) status number bytes) else before
entry_after h line reply t before = before

-- the PDU that a ticket stands for
abbrev pub air_entry : List Entry → ℕ → Option Pdu
air_entry [] t = None
air_entry (e ∷ h) t = entry_after h e.line e.reply t (air_entry h t)

-- a reply to a PDU that comes to a node says that it wasn't heard
abbrev pub is_unheard : Reply → Bool
is_unheard NoAir = true
is_unheard NoPort = true
is_unheard Gone = true
is_unheard (Stale number next) = true
is_unheard Held = true
is_unheard reply = false

-- a line has a ticket's PDU heard by itself
abbrev pub line_hears : Line → Reply → ℕ → Bool
line_hears (Deliver ticket) reply t = (ticket == t) && not (is_unheard reply)
line_hears (Repeat ticket) reply t = (ticket == t) && not (is_unheard reply)
line_hears line reply t = false

-- an event tells that a burst had a ticket's PDU heard
abbrev pub event_hears : ℕ → Event → Bool
event_hears t (HeardTicket ticket reply) = (ticket == t) && not (is_unheard reply)
event_hears t event = false

-- an entry has a ticket's PDU heard
abbrev pub hears_ticket : Entry → ℕ → Bool
hears_ticket e t = line_hears e.line e.reply t || list_any (event_hears t) e.events
