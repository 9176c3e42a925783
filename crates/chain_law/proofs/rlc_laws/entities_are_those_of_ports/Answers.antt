use Rattle.chain_law.proofs.Laws.{entities_are_those_of_ports}
use Rattle.chain_law.proofs.rlc_laws.entities_are_those_of_ports.Goals as goal

pub returns : goal.returns
returns c = entities_are_those_of_ports c.laws_of_ports.ensures
