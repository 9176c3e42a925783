use Rattle.std.proofs.Common.{◌≡◌, List, ◌++◌, map, sym, ◌∙◌, ap, subst}
use Rattle.std.specs.List.{filter}
use Rattle.bearer_map.specs.declared.rows.BearerRow.{BearerRow}
use Rattle.bearer_map.specs.declared.rows.Pc5Row.{Pc5Row}
use Rattle.bearer_map.specs.Contents.{bearer_rank, pc5_rank}
use Rattle.bearer_map.specs.Order.{IsAscending}
use Rattle.node_model.specs.Names.{is_remote}
use Rattle.node_model.specs.Opening.{direct_side, pc5_side}
use Rattle.node_model.specs.Rows.{AreOrdered}
use Rattle.node_model.specs.State.{PortSide}
use Rattle.node_ports.specs.Order.{side_before}
use Rattle.node_ports.proofs.Opened.{remote_ordered}
use Rattle.node_ports.proofs.ports.Ports.of_remote.Goals as goal

pub invariant_of-result : goal.invariant_of-result
invariant_of-result c =
    let s = c.settings-settings.result in
    let row = c.args.row in
    let direct : List PortSide = map (direct_side s row.goal) (filter (λ (b : BearerRow). is_remote row.remote b.remote) c.bearers.result.now) in
    let pc5 : List PortSide = map (pc5_side s row.goal) (filter (λ (p : Pc5Row). is_remote row.remote p.remote) c.pc5s.result.now) in
    let is : c.add_pc5.new.sides.items ≡ direct ++ pc5 =
    c.in_ok-add_pc5.ensures ∙ ap (λ (xs : List PortSide). xs ++ pc5) (c.in_ok-add_direct.ensures ∙ ap (λ (xs : List PortSide). xs ++ direct) c.new-sides.ensures.items) in
    subst (AreOrdered side_before) (sym is) (remote_ordered s
    c.bearers.result.now (subst (IsAscending bearer_rank) (sym c.bearers.ensures.rows) c.bearers.ensures.order.ascend)
    c.pc5s.result.now (subst (IsAscending pc5_rank) (sym c.pc5s.ensures.rows) c.pc5s.ensures.order) row)
