use Rattle.item_chain.proofs.Reports.{reports_tell_all}
use Rattle.item_chain.proofs.run_laws.reports_tell_all.Goals as goal

pub returns : goal.returns
returns c = reports_tell_all
