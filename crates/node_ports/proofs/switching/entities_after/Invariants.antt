use Rattle.std.proofs.Common.{◌≡◌, map, take}
use Rattle.node_ports.specs.Switching.{entity_after}
use Rattle.node_ports.proofs.switching.entities_after.Given as goal

abbrev pub invariant-loop-side : goal.invariant-loop-side
invariant-loop-side l = l.entities.items ≡ map (entity_after l.settings l.remote l.goal l.epoch) (take l.side-index l.sides)
