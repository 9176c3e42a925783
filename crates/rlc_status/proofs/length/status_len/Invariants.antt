use Rattle.std.proofs.Common.{◌≡◌, ◌+◌, ◌*◌, ◌≤◌, take}
use Rattle.rlc_status.specs.Format as format
use Rattle.rlc_status.proofs.length.status_len.Given as goal

abbrev pub invariant-loop-nack : goal.invariant-loop-nack
invariant-loop-nack l = record {
  so_far : l.len ≡ 3 + format.nacks_len l.size (take l.nack-index l.nacks);
  bound : l.len ≤ 3 + 8 * l.nack-index;
}
