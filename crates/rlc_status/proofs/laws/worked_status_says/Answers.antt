use Rattle.rlc_status.proofs.Says.{worked_says}
use Rattle.rlc_status.proofs.laws.worked_status_says.Goals as goal

pub returns : goal.returns
returns c = worked_says
