use Rattle.std.proofs.Common.{◌≡◌, ◌≤◌, List, length, ◌++◌, map, sym, ◌∙◌, ap, subst, arith}
use Rattle.std.specs.List.{flat_map}
use Rattle.std.proofs.lemmas.List.{take_all}
use Rattle.bearer_map.specs.declared.rows.RemoteRow.{RemoteRow}
use Rattle.bearer_map.specs.Contents.{remote_rank, uu_rank}
use Rattle.bearer_map.specs.Order.{IsAscending}
use Rattle.node_model.specs.Opening.{pc5_side, pc5s_of, uu_side}
use Rattle.node_model.specs.Rows.{AreOrdered}
use Rattle.node_model.specs.State.{PortSide}
use Rattle.node_ports.specs.Order.{side_before}
use Rattle.node_ports.proofs.Opened.{relay_ordered}
use Rattle.node_ports.proofs.ports.Ports.of_relay.Goals as goal

pub invariant_of-result : goal.invariant_of-result
invariant_of-result c =
    let s = c.settings-settings.result in
    let rows : List RemoteRow = c.remotes-row-items.result.now in
    let of : List RemoteRow → List PortSide = flat_map (λ (row : RemoteRow). map (pc5_side s row.goal) (pc5s_of c.args.tables.now row.remote)) in
    let uus : List PortSide = map (uu_side s) c.uus.result.now in
    let end : length rows ≤ c.loop-row.row-index = omega arith in
    let is : c.add_uu.new.sides.items ≡ of rows ++ uus = c.in_ok-add_uu.ensures ∙ ap (λ (xs : List PortSide). xs ++ uus) (c.loop-row.invariant ∙ ap of (take_all c.loop-row.row-index rows end)) in
    subst (AreOrdered side_before) (sym is) (relay_ordered s
    rows (subst (IsAscending remote_rank) (sym c.remotes-row-items.ensures.rows) c.remotes-row-items.ensures.order.ascend)
    c.uus.result.now (subst (IsAscending uu_rank) (sym c.uus.ensures.rows) c.uus.ensures.order)
    c.args.tables.now.pc5s c.pc5s-pc5s.ensures.order)
