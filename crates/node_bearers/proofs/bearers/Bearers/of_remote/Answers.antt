use Rattle.std.proofs.Common.{◌≡◌, map, IfOk, sym, subst}
use Rattle.std.specs.Prelude.{filter}
use Rattle.std.proofs.lemmas.List.Elements.{All-filter}
use Rattle.link_base.specs.declared.names.Way.TheVariants.{Ul}
use Rattle.link_base.specs.declared.names.Remote.{Remote}
use Rattle.bearer_map.specs.declared.rows.BearerRow.{BearerRow}
use Rattle.bearer_map.specs.Contents.{bearer_rank}
use Rattle.node_model.specs.Names.{is_remote}
use Rattle.node_model.specs.State.{Node}
use Rattle.node_bearers.specs.Bearer.{new_bearer}
use Rattle.node_bearers.specs.Table.{node_with}
use Rattle.node_bearers.specs.Calls.{HasCounts}
use Rattle.node_bearers.proofs.Opening.{ascending_filter, opened, if_same}
use Rattle.node_bearers.proofs.bearers.Bearers.of_remote.Goals as goal

pub open-requires-clause-order : goal.open-requires-clause-order
open-requires-clause-order c =
    let remote = c.args.remote in
    rw (c.deref.ensures.value, c.in_ok-own.ensures, c.bearers.ensures.rows) (ascending_filter bearer_rank (λ (row : BearerRow). is_remote remote row.remote) c.args.tables.now.bearers c.bearers.ensures.order.ascend)

pub open-requires-clause-counts : goal.open-requires-clause-counts
open-requires-clause-counts c =
    let remote = c.args.remote in
    rw (c.deref.ensures.value, c.in_ok-own.ensures, c.bearers.ensures.rows) (All-filter (λ (row : BearerRow). is_remote remote row.remote) HasCounts c.args.tables.now.bearers c.requires)

pub returns : goal.returns
returns c = λ row is.
    let rows = c.args.tables.now.bearers in
    let own = rw (c.deref.ensures.value, c.in_ok-own.ensures, c.bearers.ensures.rows) at c.open.ensures in
    if_same c.open.result _ _ (opened Ul (filter (λ (r : BearerRow). is_remote row.remote r.remote) rows))
    (subst (λ (remote : Remote). IfOk c.open.result (λ (n : Node). n ≡ node_with Ul (map (new_bearer Ul) (filter (λ (r : BearerRow). is_remote remote r.remote) rows)))) (sym is) own)
