use Rattle.bearer_map.proofs.Walk.{IsWalk}
use Rattle.node_bearers.specs.Switching.{bearer_after}
use Rattle.node_bearers.proofs.switching.apply.Given as goal

abbrev pub invariant-loop-row : goal.invariant-loop-row
invariant-loop-row l = IsWalk (bearer_after l.remote) l.fn.rows l.rows l.row-index
