use Rattle.chain_law.proofs.Laws.{hears_what_was_given}
use Rattle.chain_law.proofs.rlc_laws.what_is_heard_was_given.Goals as goal

pub returns : goal.returns
returns c = hears_what_was_given c.laws_of_ports.ensures
