use Rattle.std.proofs.Common.{◌≡◌, List, subst, rules}
use Rattle.bearer_map.specs.declared.rows.MapRow.{MapRow}
use Rattle.bearer_map.specs.Routes.{MapsBearer}
use Rattle.bearer_map.proofs.routing.remote_route.Goals as goal

pub returns-in-None : goal.returns-in-None
returns-in-None c = (search rules, subst (λ (rows : List MapRow). (row : MapRow) → MapsBearer rows c.args.from.0 c.args.bearer row → row.pc5 ≡ c.args.from.1 → ⊥) c.maps.ensures.rows c.in-None.ensures.none)
