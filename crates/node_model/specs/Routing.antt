-- Where an SDU leads that a node's RLC receiver completed: to the PDCP entity of a bearer, on to the next hop, or nowhere (TS 38.351 clauses 5.2
-- and 5.3).
use Rattle.std.specs.Prelude.{◌≡◌, ◌⊎◌, ℕ, List, Some, Result, Ok, Err}
use Rattle.link_base.specs.declared.names.LocalId.{LocalId}
use Rattle.link_base.specs.declared.names.Key.{Key}
use Rattle.link_base.specs.declared.names.PortName.{PortName}
use Rattle.link_base.specs.declared.names.PortName.TheVariants.{Direct, Pc5, Uu}
use Rattle.link_base.specs.declared.names.Side.{Side}
use Rattle.link_base.specs.declared.names.Side.TheVariants.{Low, High}
use Rattle.link_base.specs.declared.discard.Discard.{Discard}
use Rattle.link_base.specs.declared.discard.Discard.TheVariants as discards
use Rattle.srap_header.specs.declared.pdu.SrapFault.{SrapFault}
use Rattle.srap_header.specs.declared.pdu.SrapFault.TheVariants as faults
use Rattle.srap_header.specs.Srap.{Srap, IsSrap, IsSrapFault}
use Rattle.bearer_map.specs.declared.routes.Route.{Route}
use Rattle.bearer_map.specs.declared.routes.RouteFault.{RouteFault}
use Rattle.bearer_map.specs.declared.routes.RouteFault.TheVariants.{UnknownUe, ForeignUe, UnknownBearer}
use Rattle.bearer_map.specs.Contents.{Contents}
use Rattle.bearer_map.specs.Routes.{UpRoute, DownRoute, GnbRoute, RemoteRoute}
use Rattle.rlc_model.specs.Sides.{flip, way_from}
use Rattle.node_model.specs.Names.{key_of}
use Rattle.node_model.specs.State.{Node, id_at}

-- to the PDCP entity of this key as this PDCP PDU, or on over the relay by this route
pub data Target : Type 0 where
  ToPdcp : (key : Key) (pdu : List ℕ) → Target
  Onward : (route : Route) → Target

-- why an SDU that is no SRAP PDU is discarded
abbrev pub srap_discard : SrapFault → Discard
srap_discard faults.Short = discards.Short
srap_discard faults.Control = discards.Control
srap_discard faults.NoBody = discards.NoBody

-- why an SDU without a route is discarded
abbrev pub route_discard : RouteFault → Discard
route_discard UnknownUe = discards.UnknownUe
route_discard ForeignUe = discards.ForeignUe
route_discard UnknownBearer = discards.UnknownBearer

-- where a route to a bearer of this end leads the PDCP PDU behind a SRAP header
abbrev pub EndsHere : (Result Key RouteFault → Type 0) → List ℕ → Result Target Discard → Type 0
EndsHere Routes pdu (Ok (ToPdcp key body)) = Routes (Ok key) × (body ≡ pdu)
EndsHere Routes pdu (Ok (Onward route)) = ⊥
EndsHere Routes pdu (Err discard) = (fault : RouteFault) × Routes (Err fault) × (discard ≡ route_discard fault)

-- where a route over the relay leads
abbrev pub GoesOn : (Result Route RouteFault → Type 0) → Result Target Discard → Type 0
GoesOn Routes (Ok (ToPdcp key body)) = ⊥
GoesOn Routes (Ok (Onward route)) = Routes (Ok route)
GoesOn Routes (Err discard) = (fault : RouteFault) × Routes (Err fault) × (discard ≡ route_discard fault)

-- where a SRAP header leads that came to this side of a port: at the low side of a PC5 port by the identity of the remote itself, at the
-- others by those that the node attaches
abbrev pub LeadsByHeader : Contents → Node → Side → PortName → Srap → Result Target Discard → Type 0
LeadsByHeader t n Low (Pc5 remote chan) v target = (own : LocalId) × (id_at n remote ≡ Some own) × EndsHere (RemoteRoute t.maps own.0 remote chan v.ue v.bearer) v.body target
LeadsByHeader t n High (Pc5 remote chan) v target = GoesOn (UpRoute t.maps n.attached remote chan v.ue v.bearer) target
LeadsByHeader t n Low (Uu chan) v target = GoesOn (DownRoute t.maps n.attached chan v.ue v.bearer) target
LeadsByHeader t n High (Uu chan) v target = EndsHere (GnbRoute t.maps n.attached chan v.ue v.bearer) v.body target
LeadsByHeader t n side (Direct remote drb) v target = ⊥

-- the same of octets that are to be a SRAP PDU
abbrev pub LeadsUnderSrap : Contents → Node → Side → PortName → List ℕ → Result Target Discard → Type 0
LeadsUnderSrap t n side port sdu target =
    ((v : Srap) × IsSrap v sdu × LeadsByHeader t n side port v target)
    ⊎ ((fault : SrapFault) × IsSrapFault sdu fault × (target ≡ Err (srap_discard fault)))

-- where an SDU leads that was completed at this side of a port. On a direct port it is a PDCP PDU of the port's bearer
abbrev pub Leads : Contents → Node → Side → PortName → List ℕ → Result Target Discard → Type 0
Leads t n side (Direct remote drb) sdu target = target ≡ Ok (ToPdcp (key_of remote drb (flip (way_from side))) sdu)
Leads t n side (Pc5 remote chan) sdu target = LeadsUnderSrap t n side (Pc5 remote chan) sdu target
Leads t n side (Uu chan) sdu target = LeadsUnderSrap t n side (Uu chan) sdu target
