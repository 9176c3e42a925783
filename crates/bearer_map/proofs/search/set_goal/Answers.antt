use Rattle.std.proofs.Common.{arith}
use Rattle.bearer_map.specs.Lines.{goes_to}
use Rattle.bearer_map.proofs.Walk.{walk_goes, walk_ends}
use Rattle.bearer_map.proofs.search.set_goal.Goals as goal

pub loop-row-preserved : goal.loop-row-preserved
loop-row-preserved c = walk_goes (goes_to c.args.remote c.args.goal) c.args.rows.now c.loop-row.rows c.loop-row.row-index _ _ (omega arith) c.goes_to.ensures c.loop-row.invariant

pub returns : goal.returns
returns c = walk_ends (goes_to c.args.remote c.args.goal) c.args.rows.now c.loop-row.rows c.loop-row.row-index (omega arith) c.loop-row.invariant
