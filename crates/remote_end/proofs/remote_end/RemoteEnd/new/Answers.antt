use Rattle.std.proofs.Common.{sym, ◌∙◌, ap}
use Rattle.bearer_map.specs.declared.rows.RemoteRow.{RemoteRow}
use Rattle.node_model.specs.State.{TabledNode, Node}
use Rattle.node_model.specs.Opening.{new_remote}
use Rattle.remote_end.proofs.Rows.{some_is}
use Rattle.remote_end.proofs.remote_end.RemoteEnd.new.Goals as goal

pub returns-clause-node : goal.returns-clause-node
returns-clause-node c = λ row is.
    let found = rw c.remotes.ensures.rows at (sym c.row_of.ensures ∙ c.in-Some.is) in
    ap (λ (end : TabledNode). end.node) c.in_ok-end.ensures ∙ ap (new_remote c.args.tables.now) (some_is c.in-Some.row row (sym found ∙ is))
