-- The ingresses and egresses of the relay's ports, and the sides of ports that they are.
use Rattle.std.specs.Prelude.{◌≡◌, ℕ, ◌≤◌, Bool, true, List, [], ◌∷◌, length, map, Option, Some, None, is_some, IfSome}
use Rattle.std.specs.List.{list_any, AllByRecursion}
use Rattle.link_base.specs.declared.limits.TheConstants.{LONGEST_RLC_SDU}
use Rattle.link_base.specs.declared.names.PortName.{PortName}
use Rattle.link_base.specs.declared.names.PortName.TheVariants.{Direct, Pc5, Uu}
use Rattle.link_base.specs.declared.names.Side.{Side}
use Rattle.link_base.specs.declared.names.Side.TheVariants.{Low, High}
use Rattle.srap_header.specs.Srap.{Srap, IsSrap}
use Rattle.rlc_model.specs.Rx.{Rx}
use Rattle.rlc_model.specs.Tx.{Tx}
use Rattle.rlc_model.specs.Sides.{Entity}
use Rattle.node_model.specs.declared.parcel.Parcel.{Parcel}
use Rattle.node_model.specs.Names.{is_port}
use Rattle.node_model.specs.State.{PortSide}
use Rattle.node_model.specs.Rows.{AreOrdered}
use Rattle.node_ports.specs.Order.{side_before}
use Rattle.relay_core.specs.declared.ports.IngressPort.{IngressPort}
use Rattle.relay_core.specs.declared.ports.EgressPort.{EgressPort}

-- the port of an ingress
abbrev pub ingress_name : IngressPort → PortName
ingress_name i = i.name

-- an entity by its receiving and its transmitting side, where both are there
abbrev pub entity_by : Option Rx → Option Tx → ℕ → Option Entity
entity_by (Some rx) (Some tx) epoch = Some (record { tx = tx; rx = rx; epoch = epoch })
entity_by rx tx epoch = None

-- the entity of the port whose ingress and egress these are, where it is open
abbrev pub entity_of : IngressPort → EgressPort → Option Entity
entity_of i e = entity_by i.rx e.tx i.epoch

-- the side of the port whose ingress and egress these are
abbrev pub side_of : IngressPort → EgressPort → PortSide
side_of i e = record { name = i.name; size = i.size; entity = entity_of i e; slot = i.slot; queue = e.queue.parcels }

-- the sides of the ports whose ingresses and egresses these are, place by place
abbrev pub sides_of : List IngressPort → List EgressPort → List PortSide
sides_of [] es = []
sides_of (i ∷ is) [] = []
sides_of (i ∷ is) (e ∷ es) = side_of i e ∷ sides_of is es

-- the side of a port that the relay has: the high one of PC5 ports, the low one of Uu ports. It has none of a direct port
abbrev pub relay_side : PortName → Side
relay_side (Direct remote drb) = Low
relay_side (Pc5 remote chan) = High
relay_side (Uu chan) = Low

-- the relay has a side of ports of this kind
abbrev pub IsOfRelay : PortName → Type 0
IsOfRelay (Direct remote drb) = ⊥
IsOfRelay (Pc5 remote chan) = Unit {0}
IsOfRelay (Uu chan) = Unit {0}

-- a port is among these
abbrev pub is_among : List PortName → PortName → Bool
is_among names port = list_any (is_port port) names

-- what an SDU that goes on has: it is a SRAP PDU, and no longer than the longest SDU of RLC
pub record GoesOnAs (sdu : List ℕ) : Type 0 where
  pub header : Srap
  pub is_srap : IsSrap header sdu
  pub long : length sdu ≤ LONGEST_RLC_SDU

-- an SDU in a queue
abbrev pub IsQueued : Parcel → Type 0
IsQueued parcel = GoesOnAs parcel.sdu

-- an SDU that came over this port and goes on over one of these
pub record IsHeardOver (names : List PortName) (port : PortName) (parcel : Parcel) : Type 0 where
  pub sdu : GoesOnAs parcel.sdu
  pub its : parcel.from ≡ port
  pub leads : is_among names parcel.route.egress ≡ true

-- an ingress and an egress are those of one port of the relay: both are open or closed, the queue has the capacity that the tables give, and SDUs in the slot
-- and in the queue are such as may be there
pub record ArePort (capacity : ℕ) (names : List PortName) (i : IngressPort) (e : EgressPort) : Type 0 where
  pub of_relay : IsOfRelay i.name
  pub name : e.name ≡ i.name
  pub opens : is_some e.tx ≡ is_some i.rx
  pub capacity_is : e.queue.capacity ≡ capacity
  pub in_slot : IfSome i.slot (IsHeardOver names i.name)
  pub in_queue : AllByRecursion IsQueued e.queue.parcels

-- of two lists the items at each place belong together
abbrev pub Pairwise : {A B : Type 0} → (A → B → Type 0) → List A → List B → Type 0
Pairwise P [] [] = Unit {0}
Pairwise P [] (y ∷ ys) = ⊥
Pairwise P (x ∷ xs) [] = ⊥
Pairwise P (x ∷ xs) (y ∷ ys) = P x y × Pairwise P xs ys

-- the ports of the relay, each once, in their order: a port stands in both lists at one place
pub record ArePorts (capacity : ℕ) (is : List IngressPort) (es : List EgressPort) : Type 0 where
  pub pairs : Pairwise (ArePort capacity (map ingress_name is)) is es
  pub ordered : AreOrdered side_before (sides_of is es)
