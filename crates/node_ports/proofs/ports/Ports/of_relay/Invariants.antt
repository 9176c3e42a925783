use Rattle.std.proofs.Common.{◌≡◌, map, take}
use Rattle.std.specs.List.{flat_map}
use Rattle.bearer_map.specs.declared.rows.RemoteRow.{RemoteRow}
use Rattle.node_model.specs.Opening.{pc5_side, pc5s_of}
use Rattle.node_ports.proofs.ports.Ports.of_relay.Given as goal

abbrev pub invariant-loop-row : goal.invariant-loop-row
invariant-loop-row l = l.sides.items ≡ flat_map (λ (row : RemoteRow). map (pc5_side l.settings row.goal) (pc5s_of l.tables row.remote)) (take l.row-index l.row-items)
