use Rattle.relay_core.specs.Switching.{opened_ingress}
use Rattle.relay_core.proofs.Giving.{AreGiven}
use Rattle.relay_core.proofs.entering.open_ingresses.Given as goal

abbrev pub invariant-loop-place : goal.invariant-loop-place
invariant-loop-place l = AreGiven (opened_ingress l.epoch) l.fn.ports l.ports l.fn.receivers l.receivers l.place
