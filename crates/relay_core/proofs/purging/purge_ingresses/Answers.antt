use Rattle.std.proofs.Common.{arith}
use Rattle.relay_core.specs.Switching.{purged_ingress}
use Rattle.relay_core.proofs.Walk.{all_changed}
use Rattle.relay_core.proofs.purging.purge_ingresses.Goals as goal

pub returns-clause-purged : goal.returns-clause-purged
returns-clause-purged c = all_changed (purged_ingress c.args.remote) c.args.ports.now c.loop-port.ports c.loop-port.port-index (omega arith) c.loop-port.invariant.0
