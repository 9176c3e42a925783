-- How many bits the sequence numbers of a port's RLC entities have, as the tables say.
use Rattle.std.specs.Prelude.{◌==◌, ◌&&◌, find, option_map, unwrap_or}
use Rattle.link_base.specs.declared.names.SnSize.{SnSize}
use Rattle.link_base.specs.declared.names.SnSize.TheVariants.{S12}
use Rattle.link_base.specs.declared.names.PortName.{PortName}
use Rattle.link_base.specs.declared.names.PortName.TheVariants.{Direct, Pc5, Uu}
use Rattle.bearer_map.specs.declared.rows.BearerRow.{BearerRow}
use Rattle.bearer_map.specs.declared.rows.Pc5Row.{Pc5Row}
use Rattle.bearer_map.specs.declared.rows.UuRow.{UuRow}
use Rattle.bearer_map.specs.Contents.{Contents}
use Rattle.node_model.specs.Names.{is_remote}

-- the size of the SNs of a bearer's direct port
abbrev pub direct_size : BearerRow → SnSize
direct_size row = row.direct

-- the size of the SNs of a PC5 port
abbrev pub pc5_size : Pc5Row → SnSize
pc5_size row = row.size

-- the size of the SNs of a Uu port
abbrev pub uu_size : UuRow → SnSize
uu_size row = row.size

-- the size of the SNs of a port; that of 12 bits stands for one that the tables don't have
abbrev pub port_size : Contents → PortName → SnSize
port_size t (Direct remote drb) = unwrap_or (option_map direct_size (find (λ (row : BearerRow). is_remote remote row.remote && (drb.0 == row.drb.0)) t.bearers)) S12
port_size t (Pc5 remote chan) = unwrap_or (option_map pc5_size (find (λ (row : Pc5Row). is_remote remote row.remote && (chan.0 == row.chan.0)) t.pc5s)) S12
port_size t (Uu chan) = unwrap_or (option_map uu_size (find (λ (row : UuRow). chan.0 == row.chan.0) t.uus)) S12
