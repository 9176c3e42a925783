use Rattle.std.proofs.Common.{◌≤◌, ◌-◌}
use Rattle.rlc_am_rx.specs.Assembly.{got_of_pieces}
use Rattle.rlc_am_rx.proofs.Writing.{GapsSoFar}
use Rattle.rlc_am_rx.proofs.assembly.Assembly.add_inner_gaps.Given as goal

abbrev pub invariant-loop-start : goal.invariant-loop-start
invariant-loop-start l = record {
  within : l.from ≤ l.end;
  so_far : GapsSoFar l.sn (got_of_pieces l.self) l.from l.initial.nacks.items l.nacks.items;
}

abbrev pub decreases-loop-start : goal.decreases-loop-start
decreases-loop-start l = l.end - l.from
