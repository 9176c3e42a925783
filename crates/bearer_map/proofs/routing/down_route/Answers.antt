use Rattle.std.proofs.Common.{◌≡◌, List, subst}
use Rattle.bearer_map.specs.declared.rows.MapRow.{MapRow}
use Rattle.bearer_map.specs.Routes.{MapsBearer}
use Rattle.bearer_map.proofs.routing.down_route.Goals as goal

pub returns-in-None : goal.returns-in-None
returns-in-None c = (c.in-Some.remote, c.in-Some.ensures.found, subst (λ (rows : List MapRow). (row : MapRow) → MapsBearer rows c.in-Some.remote c.args.bearer row → row.uu ≡ c.args.from → ⊥) c.maps.ensures.rows c.in-None.ensures.none)
