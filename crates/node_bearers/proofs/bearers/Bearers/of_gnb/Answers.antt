use Rattle.std.proofs.Common.{◌≡◌, IfOk, Result, Ok, Err, ◌∙◌}
use Rattle.link_base.specs.declared.names.Way.TheVariants.{Dl}
use Rattle.link_base.specs.declared.memory.Memory.{Memory}
use Rattle.node_model.specs.State.{Node}
use Rattle.node_bearers.proofs.Opening.{opened, if_same}
use Rattle.node_bearers.proofs.bearers.Bearers.of_gnb.Goals as goal

pub returns : goal.returns
returns c = if_same c.open.result _ _ (opened Dl c.args.tables.now.bearers) (rw c.bearers.ensures.rows at c.open.ensures)
