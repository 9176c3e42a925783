use Rattle.std.proofs.Common.{sym, ◌∙◌, ap}
use Rattle.rlc_model.specs.Sides.{flip}
use Rattle.node_model.specs.Feeding.{in_key}
use Rattle.node_bearers.specs.Bearer.{incoming_of}
use Rattle.node_bearers.proofs.Table.{names_at, received}
use Rattle.node_bearers.specs.Calls.{is_wanted}
use Rattle.node_bearers.proofs.bearers.Bearers.wants_report_at.Goals as goal

pub returns : goal.returns
returns c =
    let a = c.self.inside in
    rw (← c.self.view_is) (λ key is. c.wants_report.ensures (flip a.sends) ∙ ap (is_wanted c.args.every c.args.on_relay) (sym (received key a.sends c.index.result.now a.rows.items c.args.place c.self.invariant c.index.ensures (names_at (incoming_of (flip a.sends)) in_key key a.rows.items c.args.place is))))
