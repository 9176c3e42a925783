use Rattle.rlc_law.proofs.Safety.{sends_pieces}
use Rattle.rlc_law.proofs.Order.{sends_in_order}
use Rattle.rlc_law.proofs.hop_laws.pdus_are_pieces.Goals as goal

pub returns-clause-pieces : goal.returns-clause-pieces
returns-clause-pieces c = sends_pieces

pub returns-clause-order : goal.returns-clause-order
returns-clause-order c = sends_in_order
