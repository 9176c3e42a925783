use Rattle.std.proofs.Common.{map, sym, ◌∙◌, ap, subst}
use Rattle.bearer_map.specs.Contents.{AreRemotes}
use Rattle.node_model.specs.Rows.{AreOrdered}
use Rattle.path_switch.specs.Plans.{is_before, plan_remote, row_remote}
use Rattle.path_switch.proofs.Opened.{opened_in_order, opened_remotes}
use Rattle.path_switch.proofs.plans.Plans.new.Goals as goal

pub invariant_of-result : goal.invariant_of-result
invariant_of-result c =
    let are : AreRemotes c.remotes.result.now = subst AreRemotes (sym c.remotes.ensures.rows) c.remotes.ensures.order in
    subst (AreOrdered is_before) (sym c.in_ok-first_plans.ensures) (opened_in_order c.remotes.result.now are.ascend)

pub returns-clause-rows : goal.returns-clause-rows
returns-clause-rows c = ap (map plan_remote) c.in_ok-first_plans.ensures ∙ opened_remotes c.remotes.result.now ∙ ap (map row_remote) c.remotes.ensures.rows
