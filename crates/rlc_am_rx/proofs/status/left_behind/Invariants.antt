use Rattle.std.proofs.Common.{◌≡◌, ◌+◌, take}
use Rattle.rlc_status.specs.Format.{nacks_len}
use Rattle.rlc_am_rx.proofs.status.left_behind.Given as goal

abbrev pub invariant-loop-nack : goal.invariant-loop-nack
invariant-loop-nack l = l.left + nacks_len l.size (take l.nack-index l.nacks) ≡ l.octets
