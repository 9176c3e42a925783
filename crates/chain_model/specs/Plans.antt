-- Path switches: a plan is opened, each of the three nodes applies it, and the last one closes it; and where a local identity is still in use (TS
-- 38.300 clause 16.12.6).
use Rattle.std.specs.Prelude.{◌+◌, Bool, true, false, not, ◌&&◌, ◌||◌, List, ◌++◌, map, find, Option, Some, None}
use Rattle.std.specs.List.{list_any}
use Rattle.link_base.specs.declared.names.LocalId.{LocalId}
use Rattle.link_base.specs.declared.names.Goal.{Goal}
use Rattle.link_base.specs.declared.names.Goal.TheVariants.{Direct as ToDirect, Relay as ToRelay}
use Rattle.link_base.specs.declared.names.Node.{Node as NodeKind}
use Rattle.link_base.specs.declared.names.Node.TheVariants as kinds
use Rattle.link_base.specs.declared.names.Place.{Place}
use Rattle.link_base.specs.declared.names.Place.TheVariants.{Attached, Planned, Slot, Queue, Uu as UuChan}
use Rattle.link_base.specs.declared.names.PortName.TheVariants.{Uu}
use Rattle.bearer_map.specs.declared.ids.Attachment.{Attachment}
use Rattle.bearer_map.specs.declared.rows.RemoteRow.{RemoteRow}
use Rattle.bearer_map.specs.declared.rows.UuRow.{UuRow}
use Rattle.node_model.specs.declared.parcel.Parcel.{Parcel}
use Rattle.node_model.specs.Names.{AtRelay, AtGnb, is_id, is_remote}
use Rattle.node_model.specs.State.{PortSide, Node, entity_at, slot_at, queue_at}
use Rattle.node_model.specs.Relaying.{ue_of}
pub use Rattle.node_model.specs.Standing.{tag_bears, kept_bears, entity_bears, slot_bears}
use Rattle.chain_model.specs.declared.plan.Plan.{Plan}
use Rattle.chain_model.specs.State.{Chain, node_at, plan_at}

-- whether a node of a kind has applied a plan
abbrev pub has_applied : Plan → NodeKind → Bool
has_applied p kinds.Remote = p.at_remote
has_applied p kinds.Relay = p.at_relay
has_applied p kinds.Gnb = p.at_gnb

-- the plan once a node of a kind has applied it
abbrev pub marks : Plan → NodeKind → Plan
marks p kinds.Remote = record p { at_remote = true }
marks p kinds.Relay = record p { at_relay = true }
marks p kinds.Gnb = record p { at_gnb = true }

-- a plan is open until all three have
abbrev pub is_open : Plan → Bool
is_open p = not (p.at_remote && (p.at_relay && p.at_gnb))

-- the next plan of a remote
abbrev pub next_plan : Plan → Goal → Plan
next_plan p goal = record p { goal = goal; epoch = p.epoch + 1; at_remote = false; at_relay = false; at_gnb = false }

-- the goal is the relay with this local identity
abbrev pub asks_for : LocalId → Goal → Bool
asks_for id ToDirect = false
asks_for id (ToRelay other) = is_id id other

-- a plan of the remote is open and asks for it
abbrev pub plan_asks : LocalId → Option Plan → Bool
plan_asks id None = false
plan_asks id (Some p) = is_open p && asks_for id p.goal

-- a local identity is in use at a place: a node attaches it to the remote; an open plan of the remote asks for it; an SDU in the slot or in the
-- queue of a port of the relay bears it; or an SDU does that a transmitter of the Uu channel has, at the relay or at the gNB
abbrev pub is_at : Chain → LocalId → Place → Bool
is_at c id (Attached remote) = list_any (λ (n : Node). list_any (λ (a : Attachment). is_remote remote a.remote && is_id id a.id) n.attached) c.nodes
is_at c id (Planned remote) = plan_asks id (plan_at c remote)
is_at c id (Slot port) = slot_bears id (slot_at (node_at c AtRelay) port)
is_at c id (Queue port) = list_any (λ (parcel : Parcel). is_id id (ue_of parcel)) (queue_at (node_at c AtRelay) port)
is_at c id (UuChan chan) = entity_bears id (entity_at (node_at c AtRelay) (Uu chan)) || entity_bears id (entity_at (node_at c AtGnb) (Uu chan))

-- where a local identity is looked for, in this order
abbrev pub places : Chain → List Place
places c =
    map (λ (row : RemoteRow). Attached row.remote) c.tables.remotes ++ map (λ (row : RemoteRow). Planned row.remote) c.tables.remotes
    ++ map (λ (s : PortSide). Slot s.name) (node_at c AtRelay).ports ++ map (λ (s : PortSide). Queue s.name) (node_at c AtRelay).ports
    ++ map (λ (row : UuRow). UuChan row.chan) c.tables.uus

-- the first place at which a local identity is in use
abbrev pub busy_place : Chain → Goal → Option Place
busy_place c ToDirect = None
busy_place c (ToRelay id) = find (is_at c id) (places c)
