use Rattle.pdcp_law.proofs.Reported.{tests_reports}
use Rattle.pdcp_law.proofs.receiver_laws.reports_are_decided.Goals as goal

pub returns : goal.returns
returns c = tests_reports
