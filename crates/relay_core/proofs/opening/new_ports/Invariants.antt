use Rattle.std.proofs.Common.{◌≡◌, take}
use Rattle.std.specs.List.{flat_map}
use Rattle.relay_core.specs.Opening.{new_pc5s}
use Rattle.relay_core.proofs.opening.new_ports.Given as goal

abbrev pub invariant-loop-row : goal.invariant-loop-row
invariant-loop-row l = l.ports.items ≡ flat_map (new_pc5s l.tables.pc5s) (take l.row-index l.row-items)
