use Rattle.std.proofs.Common.{◌≡◌, ◌++◌, length}
use Rattle.rlc_status.specs.Format.{nacks_of, status_bytes, AllFit}
use Rattle.rlc_status.proofs.encoding.encode_status.Given as goal

abbrev pub invariant-loop-rest : goal.invariant-loop-rest
invariant-loop-rest l = record {
  so_far : l.bytes ++ nacks_of l.size l.rest ≡ status_bytes l.size l.status;
  fit : AllFit l.size l.rest;
}

abbrev pub decreases-loop-rest : goal.decreases-loop-rest
decreases-loop-rest l = length l.rest
