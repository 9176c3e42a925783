-- What each table line gives: the first of its refusals that holds, or the tables behind it.
use Rattle.std.specs.Prelude.{◌≡◌, ℕ, ◌==◌, Bool, not, true, false, ◌&&◌, ◌||◌, List, length, map, nat_le, Result, Ok, Err, IsOk, is_some, if◌then◌else◌}
use Rattle.std.specs.List.{list_any, list_all}
use Rattle.link_base.specs.declared.names.Key.{Key}
use Rattle.link_base.specs.declared.names.Remote.{Remote}
use Rattle.link_base.specs.declared.names.Way.{Way}
use Rattle.link_base.specs.declared.names.Way.TheVariants.{Ul, Dl}
use Rattle.link_base.specs.declared.names.Goal.{Goal}
use Rattle.link_base.specs.declared.names.Goal.TheVariants.{Direct, Relay}
use Rattle.link_base.specs.declared.names.SnSize.{SnSize}
use Rattle.link_base.specs.declared.names.SnSize.TheVariants.{S12, S18}
use Rattle.bearer_map.specs.declared.settings.SetName.{SetName}
use Rattle.bearer_map.specs.declared.rows.RemoteRow.{RemoteRow}
use Rattle.bearer_map.specs.declared.rows.BearerRow.{BearerRow}
use Rattle.bearer_map.specs.declared.rows.MapRow.{MapRow}
use Rattle.bearer_map.specs.declared.rows.TableFault.{TableFault}
use Rattle.bearer_map.specs.declared.rows.TableFault.TheVariants.{Range, Twice, Unknown, Limit, NoMap, Memory}
use Rattle.bearer_map.specs.Settings.{is_within, is_setting, choice_of, choose}
use Rattle.bearer_map.specs.Order.{has_row, in_order}
use Rattle.bearer_map.specs.Contents.{Contents, pair, name_rank, key_rank, remote_rank, bearer_rank, uu_rank, pc5_rank, map_rank, bearers_of}

-- What a call answers and leaves where this is what its line gives. Memory may be wanting for what the line gives.
abbrev pub Follows : Result Unit TableFault → Contents → Contents → Result Contents TableFault → Type 0
Follows (Ok done) old new line = line ≡ Ok new
Follows (Err Memory) old new line = IsOk line × (new ≡ old)
Follows (Err fault) old new line = (line ≡ Err fault) × (new ≡ old)

-- the ranges of names
abbrev pub is_remote : ℕ → Bool
is_remote n = is_within 1 65535 n

-- a bearer has a name from 1 to 32
abbrev pub is_drb : ℕ → Bool
is_drb n = is_within 1 32 n

-- a channel has a name from 1 to 8
abbrev pub is_chan : ℕ → Bool
is_chan n = is_within 1 8 n

-- a sequence number has 12 or 18 bits
abbrev pub is_size : ℕ → Bool
is_size n = (n == 12) || (n == 18)

-- the size of sequence numbers of so many bits
abbrev pub sn_size_of : ℕ → SnSize
sn_size_of n = if n == 12 then S12 else S18

-- a setting
abbrev pub set_line : Contents → SetName → ℕ → Result Contents TableFault
set_line t name value =
    if not (is_setting name value) then Err Range
    else if is_some (choice_of name t.choices) then Err Twice
    else Ok (record t { choices = choose name value t.choices })

-- a remote, which begins on its direct path
abbrev pub remote_line : Contents → ℕ → Result Contents TableFault
remote_line t remote =
    if not (is_remote remote) then Err Range
    else if has_row remote_rank t.remotes remote then Err Twice
    else if nat_le 8 (length t.remotes) then Err Limit
    else Ok (record t { remotes = in_order remote_rank (record { remote = record { 0 = remote }; goal = Direct }) t.remotes })

-- a bearer of a remote, whose first COUNTs are 0
abbrev pub bearer_line : Contents → ℕ → ℕ → ℕ → ℕ → Result Contents TableFault
bearer_line t remote drb pdcp direct =
    if not (is_remote remote && is_drb drb && is_size pdcp && is_size direct) then Err Range
    else if has_row bearer_rank t.bearers (pair remote drb) then Err Twice
    else if not (has_row remote_rank t.remotes remote) then Err Unknown
    else if nat_le 8 (bearers_of remote t.bearers) then Err Limit
    else Ok (record t { bearers = in_order bearer_rank (record { remote = record { 0 = remote }; drb = record { 0 = drb }; pdcp = sn_size_of pdcp; direct = sn_size_of direct; first_ul = 0; first_dl = 0 }) t.bearers })

-- a Uu channel
abbrev pub uu_line : Contents → ℕ → ℕ → Result Contents TableFault
uu_line t chan size =
    if not (is_chan chan && is_size size) then Err Range
    else if has_row uu_rank t.uus chan then Err Twice
    else Ok (record t { uus = in_order uu_rank (record { chan = record { 0 = chan }; size = sn_size_of size }) t.uus })

-- a PC5 channel of a remote
abbrev pub pc5_line : Contents → ℕ → ℕ → ℕ → Result Contents TableFault
pc5_line t remote chan size =
    if not (is_remote remote && is_chan chan && is_size size) then Err Range
    else if has_row pc5_rank t.pc5s (pair remote chan) then Err Twice
    else if not (has_row remote_rank t.remotes remote) then Err Unknown
    else Ok (record t { pc5s = in_order pc5_rank (record { remote = record { 0 = remote }; chan = record { 0 = chan }; size = sn_size_of size }) t.pc5s })

-- the channels of a bearer; a bearer or a PC5 channel that is declared has a remote that is
abbrev pub map_line : Contents → ℕ → ℕ → ℕ → ℕ → Result Contents TableFault
map_line t remote drb pc5 uu =
    if not (is_remote remote && is_drb drb && is_chan pc5 && is_chan uu) then Err Range
    else if has_row map_rank t.maps (pair remote drb) then Err Twice
    else if not (has_row remote_rank t.remotes remote && has_row bearer_rank t.bearers (pair remote drb) && has_row pc5_rank t.pc5s (pair remote pc5) && has_row uu_rank t.uus uu) then Err Unknown
    else Ok (record t { maps = in_order map_rank (record { remote = record { 0 = remote }; drb = record { 0 = drb }; pc5 = record { 0 = pc5 }; uu = record { 0 = uu } }) t.maps })

-- the key of this name
abbrev pub named_key : ℕ → ℕ → Way → Key
named_key remote drb way = record { remote = record { 0 = remote }; drb = record { 0 = drb }; way = way }

-- a bearer's row with the first COUNT of one way
abbrev pub with_first : Way → ℕ → BearerRow → BearerRow
with_first Ul first row = record row { first_ul = first }
with_first Dl first row = record row { first_dl = first }

-- the same, where it is the row of the key's bearer
abbrev pub begins_at : Key → ℕ → BearerRow → BearerRow
begins_at key first row = if bearer_rank row == pair key.remote.0 key.drb.0 then with_first key.way first row else row

-- the first COUNT of a key
abbrev pub start_line : Contents → ℕ → ℕ → Way → ℕ → Result Contents TableFault
start_line t remote drb way first =
    if not (is_remote remote && is_drb drb && nat_le first 4294967294) then Err Range
    else if has_row key_rank t.starts (key_rank (named_key remote drb way)) then Err Twice
    else if not (has_row remote_rank t.remotes remote && has_row bearer_rank t.bearers (pair remote drb)) then Err Unknown
    else Ok (record t { bearers = map (begins_at (named_key remote drb way) first) t.bearers; starts = in_order key_rank (named_key remote drb way) t.starts })

-- the goal is the relay with this local identity
abbrev pub goes_by : ℕ → Goal → Bool
goes_by id Direct = false
goes_by id (Relay other) = other.0 == id

-- a remote has this local identity in its path
abbrev pub is_taken : Goal → List RemoteRow → Bool
is_taken Direct rows = false
is_taken (Relay id) rows = list_any (λ row. goes_by id.0 row.goal) rows

-- a remote's row with its path at the start, where it is the row of this remote
abbrev pub goes_to : Remote → Goal → RemoteRow → RemoteRow
goes_to remote goal row = if row.remote.0 == remote.0 then record row { goal = goal } else row

-- the path of a remote at the start
abbrev pub path_line : Contents → ℕ → Goal → Result Contents TableFault
path_line t remote goal =
    if not (is_remote remote) then Err Range
    else if has_row name_rank t.paths remote || is_taken goal t.remotes then Err Twice
    else if not (has_row remote_rank t.remotes remote) then Err Unknown
    else Ok (record t { remotes = map (goes_to (record { 0 = remote }) goal) t.remotes; paths = in_order name_rank (record { 0 = remote }) t.paths })

-- a remote begins on its direct path
abbrev pub begins_direct : Goal → Bool
begins_direct Direct = true
begins_direct (Relay id) = false

-- each bearer of the remote has a map row
abbrev pub has_each_map : Remote → List BearerRow → List MapRow → Bool
has_each_map remote bearers maps = list_all (λ row. not (row.remote.0 == remote.0) || has_row map_rank maps (bearer_rank row)) bearers

-- each remote that begins on the relay has a map row for each of its bearers
abbrev pub is_mapped : List RemoteRow → List BearerRow → List MapRow → Bool
is_mapped remotes bearers maps = list_all (λ row. begins_direct row.goal || has_each_map row.remote bearers maps) remotes

-- the end of the tables
abbrev pub go_line : Contents → Result Unit TableFault
go_line t = if is_mapped t.remotes t.bearers t.maps then Ok tt else Err NoMap
