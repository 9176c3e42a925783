use Rattle.rlc_law.proofs.Moving.{give_moves, expire_moves}
use Rattle.rlc_law.proofs.port_laws.side_moves_one_hop.Goals as goal

pub returns-clause-gives : goal.returns-clause-gives
returns-clause-gives c = give_moves

pub returns-clause-expires : goal.returns-clause-expires
returns-clause-expires c = expire_moves
