-- Where the relay sends an SDU on (TS 38.351 clauses 5.2 and 5.3).
use Rattle.std.specs.Prelude.{ℕ, List, Result, Ok, Err}
use Rattle.link_base.specs.declared.discard.Discard.{Discard}
use Rattle.link_base.specs.declared.names.PortName.{PortName}
use Rattle.link_base.specs.declared.names.PortName.TheVariants.{Direct, Pc5, Uu}
use Rattle.bearer_map.specs.declared.ids.Attachment.{Attachment}
use Rattle.bearer_map.specs.declared.routes.Route.{Route}
use Rattle.bearer_map.specs.declared.routes.RouteFault.{RouteFault}
use Rattle.bearer_map.specs.declared.rows.MapRow.{MapRow}
use Rattle.bearer_map.specs.Routes.{UpRoute, DownRoute}
use Rattle.node_model.specs.declared.answers.NodeHeard.{NodeHeard}
use Rattle.link_base.specs.declared.names.Side.{Side}
use Rattle.bearer_map.specs.Contents.{Contents}
use Rattle.node_model.specs.State.{PortSide, Node}
use Rattle.node_model.specs.Routing.{Target, Onward, Leads}
use Rattle.node_model.specs.Hearing.{Passes}

-- an SDU with this UE ID and BEARER ID goes on so from a port of the relay
abbrev pub GoesOnward : List MapRow → List Attachment → PortName → ℕ → ℕ → Result Route RouteFault → Type 0
GoesOnward maps attached (Direct remote drb) ue bearer result = ⊥
GoesOnward maps attached (Pc5 remote chan) ue bearer result = UpRoute maps attached remote chan ue bearer result
GoesOnward maps attached (Uu chan) ue bearer result = DownRoute maps attached chan ue bearer result

-- where an SDU leads that goes on by a route, or nowhere
abbrev pub leads_to : Result Route Discard → Result Target Discard
leads_to (Ok route) = Ok (Onward route)
leads_to (Err discard) = Err discard

-- what a node does with an SDU that was completed at this side of a port
abbrev pub PassesOn : Contents → Node → Side → PortSide → List ℕ → NodeHeard → Node → Type 0
PassesOn t old at side sdu answer new = (target : Result Target Discard) × Leads t old at side.name sdu target × Passes old side sdu target answer new
