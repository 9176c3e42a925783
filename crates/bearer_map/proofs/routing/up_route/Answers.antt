use Rattle.std.proofs.Common.{◌≡◌, List, subst, rules}
use Rattle.link_base.specs.declared.names.Remote.{Remote}
use Rattle.bearer_map.specs.declared.rows.MapRow.{MapRow}
use Rattle.bearer_map.specs.Ids.{IsAttached}
use Rattle.bearer_map.specs.Routes.{MapsBearer}
use Rattle.bearer_map.proofs.routing.up_route.Goals as goal

pub returns-in-None : goal.returns-in-None
returns-in-None c =
    let same : c.in-Some.remote ≡ c.args.from.0 = search rules in
    let found : IsAttached c.args.ids.now c.args.from.0 c.args.ue = subst (λ (r : Remote). IsAttached c.args.ids.now r c.args.ue) same c.in-Some.ensures.found in
    let none : (row : MapRow) → MapsBearer c.maps.result.now c.args.from.0 c.args.bearer row → row.pc5 ≡ c.args.from.1 → ⊥ = subst (λ (r : Remote). (row : MapRow) → MapsBearer c.maps.result.now r c.args.bearer row → row.pc5 ≡ c.args.from.1 → ⊥) same c.in-None.ensures.none in
    (found, subst (λ (rows : List MapRow). (row : MapRow) → MapsBearer rows c.args.from.0 c.args.bearer row → row.pc5 ≡ c.args.from.1 → ⊥) c.maps.ensures.rows none)
