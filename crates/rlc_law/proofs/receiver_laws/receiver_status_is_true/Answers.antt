use Rattle.rlc_law.proofs.Elements.{written_status_is_true}
use Rattle.rlc_law.proofs.receiver_laws.receiver_status_is_true.Goals as goal

pub returns : goal.returns
returns c = written_status_is_true
