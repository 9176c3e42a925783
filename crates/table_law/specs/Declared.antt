-- What tables have that the lines of a script declare.
use Rattle.std.specs.Prelude.{◌≡◌, ℕ, ◌≤◌, true, Some, is_some}
use Rattle.std.specs.List.{AllByRecursion}
use Rattle.link_base.specs.declared.names.Drb.{Drb}
use Rattle.link_base.specs.declared.names.Goal.TheVariants.{Relay as ToRelay}
use Rattle.link_base.specs.declared.names.LocalId.{LocalId}
use Rattle.link_base.specs.declared.names.Remote.{Remote}
use Rattle.bearer_map.specs.declared.rows.BearerRow.{BearerRow}
use Rattle.bearer_map.specs.declared.rows.MapRow.{MapRow}
use Rattle.bearer_map.specs.declared.rows.Pc5Row.{Pc5Row}
use Rattle.bearer_map.specs.declared.rows.RemoteRow.{RemoteRow}
use Rattle.bearer_map.specs.declared.rows.UuRow.{UuRow}
use Rattle.bearer_map.specs.Contents.{Contents, remote_rank, bearer_rank, uu_rank, pc5_rank, map_rank}
use Rattle.bearer_map.specs.Ids.{AreIds}
use Rattle.bearer_map.specs.Order.{IsAscending}
use Rattle.node_bearers.specs.Calls.{HasCounts, HaveCounts}
use Rattle.node_model.specs.Opening.{all_attached}
use Rattle.node_model.specs.Tables.{has_remote, has_bearer, map_row}
use Rattle.chain_model.specs.Told.{first_goal}
use Rattle.relay_core.specs.Opening.{HasChannels, HaveChannels}

-- the number is one from low to high
abbrev pub IsFrom : ℕ → ℕ → ℕ → Type 0
IsFrom low high n = (low ≤ n) × (n ≤ high)

-- a remote has a name from 1 to 65,535
abbrev pub HasName : RemoteRow → Type 0
HasName row = IsFrom 1 65535 row.remote.0

-- a bearer is of a remote that is declared, has an identity from 1 to 32, and its first COUNTs are COUNTs
pub record IsBearer (t : Contents) (row : BearerRow) : Type 0 where
  pub remote : has_remote t row.remote ≡ true
  pub drb : IsFrom 1 32 row.drb.0
  pub counts : HasCounts row

-- a Uu channel has a name from 1 to 8
abbrev pub IsUu : UuRow → Type 0
IsUu row = IsFrom 1 8 row.chan.0

-- a PC5 channel is of a remote that is declared, and has a name from 1 to 8
pub record IsPc5 (t : Contents) (row : Pc5Row) : Type 0 where
  pub remote : has_remote t row.remote ≡ true
  pub chan : IsFrom 1 8 row.chan.0

-- a map row is the only one of its bearer; the bearer, its remote and both channels are declared, and their names are in their ranges
pub record IsMap (t : Contents) (row : MapRow) : Type 0 where
  pub only : map_row t row.remote row.drb ≡ Some row
  pub bearer : has_bearer t row.remote row.drb ≡ true
  pub channels : HasChannels t row
  pub drb : IsFrom 1 32 row.drb.0
  pub pc5 : IsFrom 1 8 row.pc5.0
  pub uu : IsFrom 1 8 row.uu.0

-- rows stand in the order of their names, so none of them twice; names are in their ranges; what a row names is declared; first COUNTs are COUNTs; each
-- map row is the only one of its bearer; and no two remotes begin with one local identity
pub record AreDeclared (t : Contents) : Type 0 where
  pub remotes_ascend : IsAscending remote_rank t.remotes
  pub bearers_ascend : IsAscending bearer_rank t.bearers
  pub uus_ascend : IsAscending uu_rank t.uus
  pub pc5s_ascend : IsAscending pc5_rank t.pc5s
  pub maps_ascend : IsAscending map_rank t.maps
  pub remotes : AllByRecursion HasName t.remotes
  pub bearers : AllByRecursion (IsBearer t) t.bearers
  pub uus : AllByRecursion IsUu t.uus
  pub pc5s : AllByRecursion (IsPc5 t) t.pc5s
  pub maps : AllByRecursion (IsMap t) t.maps
  pub counts : HaveCounts t
  pub channels : HaveChannels t
  pub ids : AreIds (all_attached t)
  pub paths : (remote other : Remote) (id : LocalId) → first_goal t remote ≡ ToRelay id → first_goal t other ≡ ToRelay id → remote ≡ other

-- each bearer of the remote has a map row
abbrev pub IsMapped : Contents → Remote → Type 0
IsMapped t remote = (drb : Drb) → has_bearer t remote drb ≡ true → is_some (map_row t remote drb) ≡ true
