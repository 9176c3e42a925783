use Rattle.bearer_map.specs.Lines.{begins_at}
use Rattle.bearer_map.proofs.Walk.{IsWalk}
use Rattle.bearer_map.proofs.search.begin_at.Given as goal

abbrev pub invariant-loop-row : goal.invariant-loop-row
invariant-loop-row l = IsWalk (begins_at l.key l.first) l.fn.rows l.rows l.row-index
