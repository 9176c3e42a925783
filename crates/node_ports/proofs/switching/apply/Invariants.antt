use Rattle.node_ports.proofs.Applied.{AreApplied}
use Rattle.node_ports.proofs.switching.apply.Given as goal

abbrev pub invariant-loop-place : goal.invariant-loop-place
invariant-loop-place l = AreApplied l.remote l.fn.sides l.sides l.fn.entities l.entities l.place
