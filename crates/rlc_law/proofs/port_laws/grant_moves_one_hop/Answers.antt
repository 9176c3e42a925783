use Rattle.rlc_law.proofs.Moving.{grant_moves}
use Rattle.rlc_law.proofs.port_laws.grant_moves_one_hop.Goals as goal

pub returns : goal.returns
returns c = grant_moves
