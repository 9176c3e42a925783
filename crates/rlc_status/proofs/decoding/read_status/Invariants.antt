use Rattle.std.proofs.Common.{length}
use Rattle.rlc_status.proofs.Reading.{HasRead}
use Rattle.rlc_status.proofs.decoding.read_status.Given as goal

abbrev pub invariant-loop-more : goal.invariant-loop-more
invariant-loop-more l = HasRead l.size l.ack l.nacks l.more l.rest l.bytes

abbrev pub decreases-loop-more : goal.decreases-loop-more
decreases-loop-more l = length l.rest
