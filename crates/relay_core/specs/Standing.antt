-- Where an SDU that bears a local identity stands at the relay (TS 38.351 clause 6.3.2).
use Rattle.std.specs.Prelude.{Bool, true, false, ◌&&◌, List, find, Option, Some, None, option_map}
use Rattle.std.specs.List.{list_any}
use Rattle.link_base.specs.declared.names.Chan.{Chan}
use Rattle.link_base.specs.declared.names.LocalId.{LocalId}
use Rattle.link_base.specs.declared.names.Place.{Place}
use Rattle.link_base.specs.declared.names.Place.TheVariants.{Slot, Queue, Uu as UuChan}
use Rattle.link_base.specs.declared.names.PortName.{PortName}
use Rattle.link_base.specs.declared.names.PortName.TheVariants.{Direct, Pc5, Uu}
use Rattle.rlc_model.specs.Tx.{Tx}
use Rattle.node_model.specs.declared.parcel.Parcel.{Parcel}
use Rattle.node_model.specs.Names.{is_id}
use Rattle.node_model.specs.State.{PortSide, Node}
use Rattle.node_model.specs.Relaying.{ue_of}
use Rattle.node_model.specs.Standing.{kept_bears, entity_bears, slot_bears}
use Rattle.relay_core.specs.declared.ports.IngressPort.{IngressPort}
use Rattle.relay_core.specs.declared.ports.EgressPort.{EgressPort}

-- an SDU of the relay bears the local identity
abbrev pub bears : LocalId → Parcel → Bool
bears id parcel = is_id id (ue_of parcel)

-- one in a transmitter does, where that is there
abbrev pub tx_bears : LocalId → Option Tx → Bool
tx_bears id None = false
tx_bears id (Some tx) = list_any (kept_bears id) tx.kept

-- the port is a Uu channel
abbrev pub is_uu : PortName → Bool
is_uu (Direct remote drb) = false
is_uu (Pc5 remote chan) = false
is_uu (Uu chan) = true

-- an SDU in the slot of a side bears it
abbrev pub in_slot : LocalId → PortSide → Bool
in_slot id s = slot_bears id s.slot

-- one in its queue does
abbrev pub in_queue : LocalId → PortSide → Bool
in_queue id s = list_any (bears id) s.queue

-- one that isn't confirmed in its transmitter does, and the side is that of a Uu channel
abbrev pub in_uu : LocalId → PortSide → Bool
in_uu id s = is_uu s.name && entity_bears id s.entity

-- the place of a Uu channel, of which no other port has one
abbrev pub uu_place : PortName → Option Place
uu_place (Direct remote drb) = None
uu_place (Pc5 remote chan) = None
uu_place (Uu chan) = Some (UuChan chan)

-- the first of two places that is there
abbrev pub first_place : Option Place → Option Place → Option Place
first_place None second = second
first_place (Some place) second = Some place

-- the place in the slot of the port that was found, if one was
abbrev pub slot_place : Option PortName → Option Place
slot_place None = None
slot_place (Some port) = Some (Slot port)

-- the place in its queue
abbrev pub queue_place : Option PortName → Option Place
queue_place None = None
queue_place (Some port) = Some (Queue port)

-- the place in its transmitter
abbrev pub tx_place : Option PortName → Option Place
tx_place None = None
tx_place (Some port) = uu_place port

-- the port of the first side that passes a test
abbrev pub first_port : (PortSide → Bool) → List PortSide → Option PortName
first_port test sides = option_map (λ (s : PortSide). s.name) (find test sides)

-- where an SDU of the node that bears the identity stands first: in a slot, in a queue, or unconfirmed in the transmitter of a Uu channel, each
-- in the order of ports
abbrev pub standing_place : LocalId → Node → Option Place
standing_place id n =
    first_place (slot_place (first_port (in_slot id) n.ports)) (first_place (queue_place (first_port (in_queue id) n.ports)) (tx_place (first_port (in_uu id) n.ports)))

-- an SDU in the slot of an ingress bears the identity
abbrev pub ingress_bears : LocalId → IngressPort → Bool
ingress_bears id i = slot_bears id i.slot

-- one in the queue of an egress does
abbrev pub queue_bears : LocalId → EgressPort → Bool
queue_bears id e = list_any (bears id) e.queue.parcels

-- one in the transmitter of an egress of a Uu channel does
abbrev pub uu_bears : LocalId → EgressPort → Bool
uu_bears id e = is_uu e.name && tx_bears id e.tx

-- the port of an egress
abbrev pub egress_name : EgressPort → PortName
egress_name e = e.name
