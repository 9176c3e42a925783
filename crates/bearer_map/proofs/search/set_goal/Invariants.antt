use Rattle.bearer_map.specs.Lines.{goes_to}
use Rattle.bearer_map.proofs.Walk.{IsWalk}
use Rattle.bearer_map.proofs.search.set_goal.Given as goal

abbrev pub invariant-loop-row : goal.invariant-loop-row
invariant-loop-row l = IsWalk (goes_to l.remote l.goal) l.fn.rows l.rows l.row-index
