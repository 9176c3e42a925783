-- To which bearer of an end an SDU leads (TS 38.351 clauses 5.2 and 5.3).
use Rattle.std.specs.Prelude.{◌≡◌, ℕ, List, Some, Result, Ok, Err}
use Rattle.link_base.specs.declared.discard.Discard.{Discard}
use Rattle.link_base.specs.declared.names.Key.{Key}
use Rattle.link_base.specs.declared.names.LocalId.{LocalId}
use Rattle.link_base.specs.declared.names.PortName.{PortName}
use Rattle.link_base.specs.declared.names.PortName.TheVariants.{Direct, Pc5, Uu}
use Rattle.bearer_map.specs.declared.ids.Attachment.{Attachment}
use Rattle.bearer_map.specs.declared.routes.RouteFault.{RouteFault}
use Rattle.bearer_map.specs.declared.rows.MapRow.{MapRow}
use Rattle.bearer_map.specs.Routes.{GnbRoute, RemoteRoute}
use Rattle.node_model.specs.Routing.{Target, ToPdcp}
use Rattle.node_model.specs.State.{id_in}
use Rattle.node_end.specs.declared.routing.Addressed.{Addressed}

-- a SRAP header with this UE ID and BEARER ID leads so from a channel of an end
abbrev pub RoutesHere : List MapRow → List Attachment → PortName → ℕ → ℕ → Result Key RouteFault → Type 0
RoutesHere maps attached (Direct remote drb) ue bearer result = ⊥
RoutesHere maps attached (Pc5 remote chan) ue bearer result = (own : LocalId) × (id_in attached remote ≡ Some own) × RemoteRoute maps own.0 remote chan ue bearer result
RoutesHere maps attached (Uu chan) ue bearer result = GnbRoute maps attached chan ue bearer result

-- where an SDU leads that is addressed so
abbrev pub target_of : Result Addressed Discard → Result Target Discard
target_of (Ok addressed) = Ok (ToPdcp addressed.key addressed.pdu.now)
target_of (Err discard) = Err discard

-- the port is a channel of the relay path
abbrev pub IsChannel : PortName → Type 0
IsChannel (Direct remote drb) = ⊥
IsChannel (Pc5 remote chan) = Unit {0}
IsChannel (Uu chan) = Unit {0}
