use Rattle.rlc_law.proofs.Safety.{makes_true, stays_true}
use Rattle.rlc_law.proofs.hop_laws.status_is_true.Goals as goal

pub returns-clause-made : goal.returns-clause-made
returns-clause-made c = makes_true

pub returns-clause-stays : goal.returns-clause-stays
returns-clause-stays c = stays_true
