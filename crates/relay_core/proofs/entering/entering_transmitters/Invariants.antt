use Rattle.std.proofs.Common.{◌≡◌, map, take}
use Rattle.relay_core.specs.Switching.{entering_tx}
use Rattle.relay_core.proofs.entering.entering_transmitters.Given as goal

abbrev pub invariant-loop-port : goal.invariant-loop-port
invariant-loop-port l = l.transmitters.items ≡ map (entering_tx l.settings l.remote) (take l.port-index l.ports)
