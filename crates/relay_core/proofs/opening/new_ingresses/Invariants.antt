use Rattle.std.proofs.Common.{◌≡◌, map, take}
use Rattle.relay_core.specs.Opening.{new_ingress}
use Rattle.relay_core.proofs.opening.new_ingresses.Given as goal

abbrev pub invariant-loop-port : goal.invariant-loop-port
invariant-loop-port l = l.ingresses.items ≡ map new_ingress (take l.port-index l.ports)
