use Rattle.rlc_law.proofs.Hearing.{hear_moves}
use Rattle.rlc_law.proofs.port_laws.hearing_moves_one_hop.Goals as goal

pub returns : goal.returns
returns c = hear_moves
