-- What tables hold.
use Rattle.std.specs.Prelude.{ℕ, ◌+◌, ◌*◌, ◌≤◌, ◌==◌, List, [], length, count_by}
use Rattle.link_base.specs.declared.names.Key.{Key}
use Rattle.link_base.specs.declared.names.Remote.{Remote}
use Rattle.link_base.specs.declared.names.Way.{Way}
use Rattle.link_base.specs.declared.names.Way.TheVariants.{Ul, Dl}
use Rattle.bearer_map.specs.declared.settings.Choices.{Choices}
use Rattle.bearer_map.specs.declared.rows.RemoteRow.{RemoteRow}
use Rattle.bearer_map.specs.declared.rows.BearerRow.{BearerRow}
use Rattle.bearer_map.specs.declared.rows.UuRow.{UuRow}
use Rattle.bearer_map.specs.declared.rows.Pc5Row.{Pc5Row}
use Rattle.bearer_map.specs.declared.rows.MapRow.{MapRow}
use Rattle.bearer_map.specs.Settings.{no_choice}
use Rattle.bearer_map.specs.Order.{IsAscending}

-- the settings given, the rows, and the names of which a first COUNT or a path was given
pub record Contents : Type 0 where
  pub choices : Choices
  pub remotes : List RemoteRow
  pub bearers : List BearerRow
  pub uus : List UuRow
  pub pc5s : List Pc5Row
  pub maps : List MapRow
  pub starts : List Key
  pub paths : List Remote

-- tables in which nothing is declared
abbrev pub nothing : Contents
nothing = record { choices = no_choice; remotes = []; bearers = []; uus = []; pc5s = []; maps = []; starts = []; paths = [] }

-- names of bearers and channels of remotes in their order: by remote, then by bearer or channel
abbrev pub pair : ℕ → ℕ → ℕ
pair remote second = remote * 256 + second

-- uplink stands before downlink
abbrev pub way_rank : Way → ℕ
way_rank Ul = 0
way_rank Dl = 1

-- the order of remotes by their name
abbrev pub name_rank : Remote → ℕ
name_rank r = r.0

-- the order of keys: by bearer, uplink first
abbrev pub key_rank : Key → ℕ
key_rank k = pair k.remote.0 k.drb.0 * 2 + way_rank k.way

-- the order of the rows of remotes
abbrev pub remote_rank : RemoteRow → ℕ
remote_rank r = r.remote.0

-- the order of the rows of bearers
abbrev pub bearer_rank : BearerRow → ℕ
bearer_rank r = pair r.remote.0 r.drb.0

-- the order of the rows of Uu channels
abbrev pub uu_rank : UuRow → ℕ
uu_rank r = r.chan.0

-- the order of the rows of PC5 channels
abbrev pub pc5_rank : Pc5Row → ℕ
pc5_rank r = pair r.remote.0 r.chan.0

-- the order of the rows that map bearers to channels
abbrev pub map_rank : MapRow → ℕ
map_rank r = pair r.remote.0 r.drb.0

-- the bearers of a remote
abbrev pub bearers_of : ℕ → List BearerRow → ℕ
bearers_of remote rows = count_by (λ row. row.remote.0 == remote) rows

-- remotes in ascending order, each once, and at most eight
pub record AreRemotes (rows : List RemoteRow) : Type 0 where
  pub ascend : IsAscending remote_rank rows
  pub few : length rows ≤ 8

-- bearers in ascending order, each once, and at most eight of a remote
pub record AreBearers (rows : List BearerRow) : Type 0 where
  pub ascend : IsAscending bearer_rank rows
  pub few : (remote : ℕ) → bearers_of remote rows ≤ 8

-- each kind of rows is in ascending order of their names, no name stands twice, and the limits are kept
pub record IsTables (remotes : List RemoteRow) (bearers : List BearerRow) (uus : List UuRow) (pc5s : List Pc5Row) (maps : List MapRow) : Type 0 where
  pub are_remotes : AreRemotes remotes
  pub are_bearers : AreBearers bearers
  pub uus_ascend : IsAscending uu_rank uus
  pub pc5s_ascend : IsAscending pc5_rank pc5s
  pub maps_ascend : IsAscending map_rank maps
