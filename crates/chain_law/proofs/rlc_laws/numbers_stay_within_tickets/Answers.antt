use Rattle.chain_law.proofs.Laws.{numbers_stay_within_tickets}
use Rattle.chain_law.proofs.rlc_laws.numbers_stay_within_tickets.Goals as goal

pub returns : goal.returns
returns c = numbers_stay_within_tickets c.laws_of_ports.ensures
