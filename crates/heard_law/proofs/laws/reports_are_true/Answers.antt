use Rattle.heard_law.proofs.Reporting.{reports_are_true}
use Rattle.heard_law.proofs.laws.reports_are_true.Goals as goal

pub returns : goal.returns
returns c = reports_are_true c.laws_of_hops.ensures
