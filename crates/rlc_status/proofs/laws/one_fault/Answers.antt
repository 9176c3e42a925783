use Rattle.rlc_status.proofs.Faults.{one_fault}
use Rattle.rlc_status.proofs.laws.one_fault.Goals as goal

pub returns : goal.returns
returns c = one_fault
