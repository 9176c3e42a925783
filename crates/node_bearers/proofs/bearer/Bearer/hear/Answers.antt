use Rattle.std.proofs.Common.{ℕ, inl, inr, refl, ◌∙◌, ap}
use Rattle.link_base.specs.declared.names.Key.{Key}
use Rattle.pdcp_model.specs.Sender.{Sender}
use Rattle.node_model.specs.declared.answers.NodeHeard.TheVariants as answers
use Rattle.node_model.specs.Names.{back}
use Rattle.node_bearers.specs.Hearing.HearsAt.{data_pdu, report, neither}
use Rattle.node_bearers.proofs.bearer.Bearer.hear.Goals as goal

pub returns-in_ok-heard-in-Ok-Sdu-clause-ok : goal.returns-in_ok-heard-in-Ok-Sdu-clause-ok
returns-in_ok-heard-in-Ok-Sdu-clause-ok c =
    let read = rw (c.size.ensures, c.in-Ok-Sdu.field-0-is) at c.in-Ok-Sdu.ensures.read in
    data_pdu c.in-Ok-Sdu.sn c.in-Ok-Sdu.body.now _ _ read c.in_ok-heard-in-Ok-Sdu.ensures.ok c.heard_as.ensures refl

pub returns-in-Ok-clause-ok : goal.returns-in-Ok-clause-ok
returns-in-Ok-clause-ok c =
    let read = rw (c.size.ensures, c.in-Ok-Report.field-0-is) at c.in-Ok-Report.ensures.read in
    let key = ap (λ (k : Key). answers.Report k c.confirmed-confirmed.result) c.back.ensures in
    let confirmed = ap (λ (n : ℕ). answers.Report (back c.args.key) n) c.confirmed-confirmed.ensures in
    report c.in-Ok-Report.fmc c.in-Ok-Report.map.now read
    (inl (c.in-Ok.ensures.within, key ∙ confirmed, ap (λ (tx : Sender). record c.args.self.now { tx = tx }) c.in-Ok.ensures.ok))

pub returns-in-Err-hear_report-clause-ok : goal.returns-in-Err-hear_report-clause-ok
returns-in-Err-hear_report-clause-ok c =
    let read = rw (c.size.ensures, c.in-Ok-Report.field-0-is) at c.in-Ok-Report.ensures.read in
    report c.in-Ok-Report.fmc c.in-Ok-Report.map.now read (inr (c.in-Err-hear_report.ensures.beyond.0, refl, ap (λ (tx : Sender). record c.args.self.now { tx = tx }) c.in-Err-hear_report.ensures.err))

pub returns-in-Err-clause-ok : goal.returns-in-Err-clause-ok
returns-in-Err-clause-ok c =
    let fault = rw c.size.ensures at c.in-Err.ensures.fault in
    neither c.in-Err.fault fault (ap answers.Discard c.discard_of.ensures) refl
