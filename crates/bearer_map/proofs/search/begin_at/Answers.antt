use Rattle.std.proofs.Common.{arith}
use Rattle.bearer_map.specs.Lines.{begins_at}
use Rattle.bearer_map.proofs.Walk.{walk_goes, walk_ends}
use Rattle.bearer_map.proofs.search.begin_at.Goals as goal

pub loop-row-preserved : goal.loop-row-preserved
loop-row-preserved c = walk_goes (begins_at c.args.key c.args.first) c.args.rows.now c.loop-row.rows c.loop-row.row-index _ _ (omega arith) c.begins_at.ensures c.loop-row.invariant

pub returns : goal.returns
returns c = walk_ends (begins_at c.args.key c.args.first) c.args.rows.now c.loop-row.rows c.loop-row.row-index (omega arith) c.loop-row.invariant
