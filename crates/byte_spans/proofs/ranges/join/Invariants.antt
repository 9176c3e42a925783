use Rattle.byte_spans.proofs.Joining.{IsJoining}
use Rattle.byte_spans.proofs.ranges.join.Given as goal

abbrev pub invariant-loop-stop : goal.invariant-loop-stop
invariant-loop-stop l = IsJoining l.ranges l.first l.fn.range l.stop l.joined
