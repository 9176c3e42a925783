use Rattle.rlc_law.proofs.Moving.{moves_on}
use Rattle.rlc_law.proofs.port_laws.port_goes_on.Goals as goal

pub returns : goal.returns
returns c = moves_on
