use Rattle.std.proofs.Common.{sym, ◌∙◌, ap}
use Rattle.node_model.specs.State.{Outgoing}
use Rattle.node_model.specs.Feeding.{out_key}
use Rattle.node_bearers.specs.Bearer.{outgoing_of}
use Rattle.node_bearers.proofs.Table.{names_at, sent}
use Rattle.pdcp_model.specs.Sender.{has_next}
use Rattle.node_bearers.proofs.bearers.Bearers.has_next_at.Goals as goal

pub returns : goal.returns
returns c =
    let a = c.self.inside in
    rw (← c.self.view_is) (λ key is. c.has_next.ensures ∙ ap (λ (o : Outgoing). has_next o.sender) (sym (sent key a.sends c.index.result.now a.rows.items c.args.place c.self.invariant c.index.ensures (names_at (outgoing_of a.sends) out_key key a.rows.items c.args.place is))))
