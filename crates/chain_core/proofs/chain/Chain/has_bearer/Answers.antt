use Rattle.std.proofs.Common.{◌≡◌, false, List, sym, ◌∙◌, subst, arith, rules}
use Rattle.std.specs.List.{list_any}
use Rattle.std.proofs.lemmas.List.Sorted.{IsPartitionPoint-from_clause}
use Rattle.bearer_map.specs.declared.rows.BearerRow.{BearerRow}
use Rattle.bearer_map.specs.Contents.{bearer_rank}
use Rattle.bearer_map.specs.Order.{IsAscending}
use Rattle.chain_core.proofs.Bearers.{is_below, is_row, parted, none_here, is_here}
use Rattle.chain_core.proofs.Told.{no_row}
use Rattle.chain_core.proofs.chain.Chain.has_bearer.Goals as goal

pub returns-then-place-rows : goal.returns-then-place-rows
returns-then-place-rows c =
    let rows = c.bearers-rows.result.now in
    let a = c.args in
    let up : IsAscending bearer_rank rows = subst (λ (xs : List BearerRow). IsAscending bearer_rank xs) (sym c.bearers-rows.ensures.rows) c.bearers-rows.ensures.order.ascend in
    let point = IsPartitionPoint-from_clause (is_below a.remote a.drb rows up) rows c.partition_point-place.result c.partition_point-place.ensures.partitioned
    (parted a.remote a.drb rows up) (λ x r f called. search rules) in
    let none : list_any (is_row a.remote a.drb rows up) rows ≡ false = none_here a.remote a.drb rows up c.partition_point-place.result point (λ d lt. absurd (omega (arith, lt, c.if-place-rows.true))) in
    rw (← c.self.view_is, ← c.tables.ensures, ← c.bearers-rows.ensures.rows) (sym none)

pub returns : goal.returns
returns c =
    let rows = c.bearers-rows.result.now in
    let a = c.args in
    let up : IsAscending bearer_rank rows = subst (λ (xs : List BearerRow). IsAscending bearer_rank xs) (sym c.bearers-rows.ensures.rows) c.bearers-rows.ensures.order.ascend in
    let point = IsPartitionPoint-from_clause (is_below a.remote a.drb rows up) rows c.partition_point-place.result c.partition_point-place.ensures.partitioned
    (parted a.remote a.drb rows up) (λ x r f called. search rules) in
    rw (← c.self.view_is, ← c.tables.ensures, ← c.bearers-rows.ensures.rows)
    (c.is_row.ensures ∙ is_here a.remote a.drb rows up c.partition_point-place.result no_row point (omega (arith, c.if-place-rows.false)))
