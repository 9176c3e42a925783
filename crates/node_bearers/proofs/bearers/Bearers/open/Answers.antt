use Rattle.std.proofs.Common.{List, map, sym, ◌∙◌, ap, subst}
use Rattle.std.specs.List.{AllByRecursion}
use Rattle.std.proofs.lemmas.List.{take_all}
use Rattle.bearer_map.specs.declared.rows.BearerRow.{BearerRow}
use Rattle.bearer_map.specs.Contents.{bearer_rank}
use Rattle.node_bearers.specs.declared.bearer.Bearer.{Bearer}
use Rattle.node_bearers.specs.Bearer.{rank, new_bearer}
use Rattle.node_bearers.specs.Order.{IsSmall, IsInOrder}
use Rattle.node_bearers.proofs.Opening.{one_more, all_push, ascending_seen}
use Rattle.node_bearers.proofs.bearers.Bearers.open.Goals as goal

pub loop-row-preserved : goal.loop-row-preserved
loop-row-preserved c = record {
  rows = one_more (new_bearer c.args.sends) c.args.table.now c.loop-row.row-index _ c.loop-row.rows.items _ _ c.loop-row-test.true c.in_ok-push.ensures.items c.loop-row.invariant.rows c.in_ok-new.ensures.value;
  small = subst (λ (rows : List Bearer). AllByRecursion IsSmall rows) (sym c.in_ok-push.ensures.items) (all_push IsSmall c.loop-row.rows.items c.in_ok-new.field-0 c.loop-row.invariant.small
      (subst (λ (b : Bearer). IsSmall b) (sym c.in_ok-new.ensures.value) c.in_ok-new.ensures.octet));
}

pub invariant_of-result : goal.invariant_of-result
invariant_of-result c =
    let all = take_all c.loop-row.row-index c.args.table.now c.loop-row-test.false in
    let rows = c.loop-row.invariant.rows ∙ ap (λ (t : List BearerRow). map (new_bearer c.args.sends) t) all in
    record {
      ascend = rw rows (ascending_seen rank (new_bearer c.args.sends) c.args.table.now c.requires.order);
      small = c.loop-row.invariant.small;
    }
