use Rattle.bearer_map.proofs.Walk.{IsWalk}
use Rattle.node_bearers.specs.Switching.{bearer_closed}
use Rattle.node_bearers.proofs.switching.finish.Given as goal

abbrev pub invariant-loop-row : goal.invariant-loop-row
invariant-loop-row l = IsWalk (bearer_closed l.remote) l.fn.rows l.rows l.row-index
