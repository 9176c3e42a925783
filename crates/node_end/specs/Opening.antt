-- What an end asks of the tables.
use Rattle.std.specs.Prelude.{◌≡◌, ◌≤◌, true}
use Rattle.std.specs.List.{AllByRecursion}
use Rattle.bearer_map.specs.declared.rows.MapRow.{MapRow}
use Rattle.bearer_map.specs.Contents.{Contents}
use Rattle.node_model.specs.Tables.{has_bearer}

-- a bearer that is mapped to channels is declared, and BEARER ID, which is its identity minus 1, fits a SRAP header (TS 38.351 clause 6.2.2)
pub record IsRoute (t : Contents) (row : MapRow) : Type 0 where
  pub bearer : has_bearer t row.remote row.drb ≡ true
  pub from_1 : 1 ≤ row.drb.0
  pub to_32 : row.drb.0 ≤ 32

-- the same of each bearer that is mapped
abbrev pub HaveRoutes : Contents → Type 0
HaveRoutes t = AllByRecursion (IsRoute t) t.maps
