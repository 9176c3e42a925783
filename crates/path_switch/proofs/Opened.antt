-- The plans right behind the tables are in the order of the tables' remotes.
use Rattle.std.proofs.Common.{◌≡◌, ◌<◌, true, List, [], ◌∷◌, map, refl, ap}
use Rattle.std.specs.List.{AllByRecursion}
use Rattle.std.proofs.lemmas.Bool.{lt-ltb}
use Rattle.link_base.specs.declared.names.Remote.{Remote}
use Rattle.bearer_map.specs.declared.rows.RemoteRow.{RemoteRow}
use Rattle.bearer_map.specs.Contents.{remote_rank}
use Rattle.bearer_map.specs.Order.{IsAscending}
use Rattle.node_model.specs.Rows.{AreOrdered}
use Rattle.chain_model.specs.State.{first_plan}
use Rattle.path_switch.specs.Plans.{is_before, plan_remote, row_remote}

behind : (row : RemoteRow) (rows : List RemoteRow) → AllByRecursion (λ other. remote_rank row < remote_rank other) rows
    → AllByRecursion (λ p. is_before (first_plan row) p ≡ true) (map first_plan rows)
behind row [] all = tt
behind row (other ∷ rows) all = (lt-ltb row.remote.0 other.remote.0 all.0, behind row rows all.1)

pub opened_in_order : (rows : List RemoteRow) → IsAscending remote_rank rows → AreOrdered is_before (map first_plan rows)
opened_in_order [] up = tt
opened_in_order (row ∷ rows) up = (behind row rows up.0, opened_in_order rows up.1)

-- each remote has its plan
pub opened_remotes : (rows : List RemoteRow) → map plan_remote (map first_plan rows) ≡ map row_remote rows
opened_remotes [] = refl
opened_remotes (row ∷ rows) = ap (λ (more : List Remote). row.remote ∷ more) (opened_remotes rows)
