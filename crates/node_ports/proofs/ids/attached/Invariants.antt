use Rattle.std.proofs.Common.{◌≡◌, take}
use Rattle.std.specs.List.{flat_map}
use Rattle.node_ports.proofs.Identities.{of_row}
use Rattle.node_ports.proofs.ids.attached.Given as goal

abbrev pub invariant-loop-row : goal.invariant-loop-row
invariant-loop-row l = l.ids ≡ flat_map of_row (take l.row-index l.row-items)
