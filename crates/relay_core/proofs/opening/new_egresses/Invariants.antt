use Rattle.std.proofs.Common.{◌≡◌, map, take}
use Rattle.relay_core.specs.Opening.{new_egress}
use Rattle.relay_core.proofs.opening.new_egresses.Given as goal

abbrev pub invariant-loop-port : goal.invariant-loop-port
invariant-loop-port l = l.egresses.items ≡ map (new_egress l.settings) (take l.port-index l.ports)
