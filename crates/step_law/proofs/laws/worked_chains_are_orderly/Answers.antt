use Rattle.step_law.proofs.Opening.{worked_chains_are_orderly as are_orderly}
use Rattle.step_law.proofs.laws.worked_chains_are_orderly.Goals as goal

pub returns : goal.returns
returns c = are_orderly
