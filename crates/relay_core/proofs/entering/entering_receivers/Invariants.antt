use Rattle.std.proofs.Common.{◌≡◌, map, take}
use Rattle.relay_core.specs.Switching.{entering_rx}
use Rattle.relay_core.proofs.entering.entering_receivers.Given as goal

abbrev pub invariant-loop-port : goal.invariant-loop-port
invariant-loop-port l = l.receivers.items ≡ map (entering_rx l.remote) (take l.port-index l.ports)
