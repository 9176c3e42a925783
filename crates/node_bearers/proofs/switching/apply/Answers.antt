use Rattle.std.proofs.Common.{arith}
use Rattle.bearer_map.proofs.Walk.{walk_goes, walk_ends}
use Rattle.node_bearers.specs.Switching.{bearer_after}
use Rattle.node_bearers.proofs.switching.apply.Goals as goal

pub loop-row-preserved : goal.loop-row-preserved
loop-row-preserved c = walk_goes (bearer_after c.args.remote) c.args.rows.now c.loop-row.rows c.loop-row.row-index _ _ (omega arith) c.apply.ensures c.loop-row.invariant

pub returns : goal.returns
returns c = walk_ends (bearer_after c.args.remote) c.args.rows.now c.loop-row.rows c.loop-row.row-index (omega arith) c.loop-row.invariant
