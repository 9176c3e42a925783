use Rattle.pdcp_law.proofs.Reported.{reports_what_was_heard}
use Rattle.pdcp_law.proofs.receiver_laws.reports_name_what_was_heard.Goals as goal

pub returns : goal.returns
returns c = reports_what_was_heard
