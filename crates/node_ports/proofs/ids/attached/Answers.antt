use Rattle.std.proofs.Common.{ℕ, List, length, get_or, sym, subst, ◌<◌}
use Rattle.std.proofs.lemmas.List.{get_or_default}
use Rattle.link_base.specs.declared.names.Goal.TheVariants.{Direct}
use Rattle.bearer_map.specs.declared.ids.Attachment.{Attachment}
use Rattle.bearer_map.specs.declared.rows.RemoteRow.{RemoteRow}
use Rattle.bearer_map.specs.Contents.{remote_rank}
use Rattle.bearer_map.specs.Ids.{AreIds, IsAttached}
use Rattle.bearer_map.specs.Order.{IsAscending}
use Rattle.std.specs.List.{flat_map}
use Rattle.node_ports.proofs.Identities.{of_row, remote_free, id_free}
use Rattle.node_ports.proofs.ids.attached.Goals as goal

pub attach-requires-clause-remote : goal.attach-requires-clause-remote
attach-requires-clause-remote c =
    let rows = c.remotes-row-items.result.now in
    let none : RemoteRow = record { remote = record { 0 = 0 }; goal = Direct } in
    let row : RemoteRow = get_or rows c.loop-row.row-index none in
    let up : IsAscending remote_rank rows = subst (IsAscending remote_rank) (sym c.remotes-row-items.ensures.rows) c.remotes-row-items.ensures.order.ascend in
    λ other has. remote_free rows up c.loop-row.row-index row c.loop-row-test.true (get_or_default rows c.loop-row.row-index none row c.loop-row-test.true) other
    (subst (λ (ids : List Attachment). IsAttached ids row.remote other) c.loop-row.invariant has)

pub attach-requires-clause-id : goal.attach-requires-clause-id
attach-requires-clause-id c =
    let rows = c.remotes-row-items.result.now in
    let none : RemoteRow = record { remote = record { 0 = 0 }; goal = Direct } in
    let row : RemoteRow = get_or rows c.loop-row.row-index none in
    let up : IsAscending remote_rank rows = subst (IsAscending remote_rank) (sym c.remotes-row-items.ensures.rows) c.remotes-row-items.ensures.order.ascend in
    let ids : AreIds (flat_map of_row rows) = subst (λ (rs : List RemoteRow). AreIds (flat_map of_row rs)) (sym c.remotes-row-items.ensures.rows) c.requires in
    λ other has. id_free rows up ids c.loop-row.row-index row c.in-Relay.id c.loop-row-test.true (get_or_default rows c.loop-row.row-index none row c.loop-row-test.true) c.in-Relay.is other
    (subst (λ (as_ : List Attachment). IsAttached as_ other c.in-Relay.id.0) c.loop-row.invariant has)
