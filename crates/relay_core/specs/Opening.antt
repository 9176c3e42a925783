-- The relay's ports at which nothing has happened.
use Rattle.std.specs.Prelude.{◌≡◌, ℕ, true, ◌==◌, ◌&&◌, List, [], ◌++◌, map, filter, flat_map, Some, None, if◌then◌else◌}
use Rattle.std.specs.List.{list_any, AllByRecursion}
use Rattle.link_base.specs.declared.names.Goal.{Goal}
use Rattle.link_base.specs.declared.names.PortName.TheVariants.{Pc5, Uu}
use Rattle.bearer_map.specs.declared.rows.RemoteRow.{RemoteRow}
use Rattle.bearer_map.specs.declared.rows.Pc5Row.{Pc5Row}
use Rattle.bearer_map.specs.declared.rows.UuRow.{UuRow}
use Rattle.bearer_map.specs.declared.rows.MapRow.{MapRow}
use Rattle.bearer_map.specs.declared.settings.Settings.{Settings}
use Rattle.bearer_map.specs.Contents.{Contents, remote_rank, pc5_rank, uu_rank}
use Rattle.bearer_map.specs.Order.{IsAscending}
use Rattle.rlc_model.specs.Rx.{empty_rx}
use Rattle.rlc_model.specs.Tx.{empty_tx}
use Rattle.node_model.specs.Names.{is_remote}
use Rattle.node_model.specs.State.{PortSide}
use Rattle.node_model.specs.Tables.{has_remote, is_open_on}
use Rattle.node_model.specs.Opening.{new_side}
use Rattle.relay_core.specs.declared.opening.NewPort.{NewPort}
use Rattle.relay_core.specs.declared.ports.IngressPort.{IngressPort}
use Rattle.relay_core.specs.declared.ports.EgressPort.{EgressPort}

-- a PC5 port of a remote with this path
abbrev pub new_pc5 : Goal → Pc5Row → NewPort
new_pc5 goal row = record { name = Pc5 row.remote row.chan; size = row.size; is_open = is_open_on goal (Pc5 row.remote row.chan) }

-- a Uu port
abbrev pub new_uu : UuRow → NewPort
new_uu row = record { name = Uu row.chan; size = row.size; is_open = true }

-- the PC5 ports of a remote
abbrev pub new_pc5s : List Pc5Row → RemoteRow → List NewPort
new_pc5s pc5s row = map (new_pc5 row.goal) (filter (λ (p : Pc5Row). is_remote row.remote p.remote) pc5s)

-- the ports that the tables give the relay, in their order
abbrev pub new_ports : Contents → List NewPort
new_ports t = flat_map (new_pc5s t.pc5s) t.remotes ++ map new_uu t.uus

-- the ingress of a new port
abbrev pub new_ingress : NewPort → IngressPort
new_ingress p = record { name = p.name; size = p.size; epoch = 0; rx = if p.is_open then Some (empty_rx p.size) else None; slot = None }

-- the egress of a new port
abbrev pub new_egress : Settings → NewPort → EgressPort
new_egress s p = record {
  name = p.name;
  tx = if p.is_open then Some (empty_tx p.size s.poll_pdu s.poll_byte s.max_retx) else None;
  queue = record { parcels = []; capacity = s.queue };
}

-- the side of a new port
abbrev pub new_port_side : Settings → NewPort → PortSide
new_port_side s p = new_side s p.name p.size p.is_open

-- the rows of the ports stand in order
pub record AreInOrder (t : Contents) : Type 0 where
  pub remotes : IsAscending remote_rank t.remotes
  pub pc5s : IsAscending pc5_rank t.pc5s
  pub uus : IsAscending uu_rank t.uus

-- the channels to which a bearer is mapped are declared, and so is its remote
pub record HasChannels (t : Contents) (row : MapRow) : Type 0 where
  pub remote : has_remote t row.remote ≡ true
  pub pc5 : list_any (λ (p : Pc5Row). is_remote row.remote p.remote && (row.pc5.0 == p.chan.0)) t.pc5s ≡ true
  pub uu : list_any (λ (u : UuRow). row.uu.0 == u.chan.0) t.uus ≡ true

-- each bearer that is mapped has channels that are declared
abbrev pub HaveChannels : Contents → Type 0
HaveChannels t = AllByRecursion (HasChannels t) t.maps
