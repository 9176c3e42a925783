use Rattle.rlc_status.proofs.Faults.{no_fault}
use Rattle.rlc_status.proofs.laws.no_fault.Goals as goal

pub returns : goal.returns
returns c = no_fault
