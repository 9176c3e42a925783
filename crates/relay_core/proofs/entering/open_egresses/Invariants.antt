use Rattle.relay_core.specs.Switching.{opened_egress}
use Rattle.relay_core.proofs.Giving.{AreGiven}
use Rattle.relay_core.proofs.entering.open_egresses.Given as goal

abbrev pub invariant-loop-place : goal.invariant-loop-place
invariant-loop-place l = AreGiven opened_egress l.fn.ports l.ports l.fn.transmitters l.transmitters l.place
