-- What the tables say of bearers, ports and paths.
use Rattle.std.specs.Prelude.{ℕ, ◌==◌, Bool, true, false, ◌&&◌, List, [], ◌∷◌, flat_map, find, Option}
use Rattle.std.specs.List.{list_any}
use Rattle.link_base.specs.declared.names.Remote.{Remote}
use Rattle.link_base.specs.declared.names.Drb.{Drb}
use Rattle.link_base.specs.declared.names.Goal.{Goal}
use Rattle.link_base.specs.declared.names.Goal.TheVariants.{Direct as ToDirect, Relay as ToRelay}
use Rattle.link_base.specs.declared.names.Key.{Key}
use Rattle.link_base.specs.declared.names.PortName.{PortName}
use Rattle.link_base.specs.declared.names.PortName.TheVariants.{Direct, Pc5, Uu}
use Rattle.link_base.specs.declared.names.Way.{Way}
use Rattle.link_base.specs.declared.names.Way.TheVariants.{Ul, Dl}
use Rattle.bearer_map.specs.declared.rows.BearerRow.{BearerRow}
use Rattle.bearer_map.specs.declared.rows.MapRow.{MapRow}
use Rattle.bearer_map.specs.declared.settings.Settings.{Settings}
use Rattle.bearer_map.specs.Settings.{settings_of}
use Rattle.bearer_map.specs.Contents.{Contents}
use Rattle.bearer_map.specs.Lines.{has_each_map}
use Rattle.node_model.specs.Names.{key_of, is_remote}

-- the settings of the tables
abbrev pub settings : Contents → Settings
settings t = settings_of t.choices

-- the tables have this remote
abbrev pub has_remote : Contents → Remote → Bool
has_remote t remote = list_any (λ row. is_remote remote row.remote) t.remotes

-- the tables have this bearer
abbrev pub has_bearer : Contents → Remote → Drb → Bool
has_bearer t remote drb = list_any (λ (row : BearerRow). is_remote remote row.remote && (drb.0 == row.drb.0)) t.bearers

-- the two keys of a bearer
abbrev pub keys_of_row : BearerRow → List Key
keys_of_row row = key_of row.remote row.drb Ul ∷ key_of row.remote row.drb Dl ∷ []

-- all keys, in their order
abbrev pub keys : Contents → List Key
keys t = flat_map keys_of_row t.bearers

-- the first COUNT of a bearer in one way
abbrev pub first_count : BearerRow → Way → ℕ
first_count row Ul = row.first_ul
first_count row Dl = row.first_dl

-- the channels of a bearer on the relay path
abbrev pub map_row : Contents → Remote → Drb → Option MapRow
map_row t remote drb = find (λ (row : MapRow). is_remote remote row.remote && (drb.0 == row.drb.0)) t.maps

-- the port of a bearer's first hop in a way on the relay path
abbrev pub relay_port : Way → MapRow → PortName
relay_port Ul row = Pc5 row.remote row.pc5
relay_port Dl row = Uu row.uu

-- the remote may go there: for the relay each of its bearers needs its channels
abbrev pub has_path : Contents → Remote → Goal → Bool
has_path t remote ToDirect = true
has_path t remote (ToRelay id) = has_each_map remote t.bearers t.maps

-- a port of a remote is open while its path is this: direct ports on the direct path, PC5 ports on the relay path
abbrev pub is_open_on : Goal → PortName → Bool
is_open_on ToDirect (Direct r d) = true
is_open_on (ToRelay id) (Pc5 r c) = true
is_open_on goal port = false
