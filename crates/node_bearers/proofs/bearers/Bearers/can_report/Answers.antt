use Rattle.std.proofs.Common.{sym, ◌∙◌, ap}
use Rattle.rlc_model.specs.Sides.{flip}
use Rattle.node_model.specs.State.{Incoming}
use Rattle.node_model.specs.Feeding.{in_key}
use Rattle.node_bearers.specs.Bearer.{incoming_of}
use Rattle.node_bearers.proofs.Table.{names_at, received}
use Rattle.pdcp_model.specs.Receiver.{can_report}
use Rattle.node_bearers.proofs.bearers.Bearers.can_report.Goals as goal

pub returns : goal.returns
returns c =
    let a = c.self.inside in
    rw (← c.self.view_is) (λ key is. c.can_report.ensures ∙ ap (λ (i : Incoming). can_report i.receiver) (sym (received key a.sends c.index.result.now a.rows.items c.args.place c.self.invariant c.index.ensures (names_at (incoming_of (flip a.sends)) in_key key a.rows.items c.args.place is))))
