use Rattle.std.proofs.Common.{◌<◌, length, sym, ◌∙◌, ap, subst}
use Rattle.rlc_model.specs.Sides.{flip}
use Rattle.pdcp_model.specs.Receiver.{Receiver, can_report}
use Rattle.pdcp_rx.specs.Reporting.{SpellsReport}
use Rattle.node_model.specs.State.{Incoming}
use Rattle.node_model.specs.Feeding.{in_key}
use Rattle.node_bearers.specs.Bearer.{bearer_key, incoming_of}
use Rattle.node_bearers.proofs.Table.{within, names_at, named_at, received}
use Rattle.node_bearers.proofs.bearers.Bearers.make_report.Goals as goal

pub make_report-requires : goal.make_report-requires
make_report-requires c =
    let a = c.self.inside in
    let rows = a.rows.items in
    let place = c.args.place in
    let b = c.index.result.now in
    let see = incoming_of (flip a.sends) in
    let key = bearer_key (flip a.sends) b in
    let lt = within see rows place (rw (← c.self.view_is) at c.requires.place) in
    let is = named_at see in_key b rows place lt c.index.ensures in
    let can = (rw (← c.self.view_is) at c.requires.can) key is in
    sym (ap (λ (i : Incoming). can_report i.receiver) (received key a.sends b rows place c.self.invariant c.index.ensures (names_at see in_key key rows place is))) ∙ can

pub returns : goal.returns
returns c =
    let a = c.self.inside in
    rw (← c.self.view_is) (λ key is.
    subst (λ (i : Incoming). SpellsReport i.receiver c.in_ok-report.report)
    (sym (received key a.sends c.index.result.now a.rows.items c.args.place c.self.invariant c.index.ensures (names_at (incoming_of (flip a.sends)) in_key key a.rows.items c.args.place is)))
    c.in_ok-report.ensures)
