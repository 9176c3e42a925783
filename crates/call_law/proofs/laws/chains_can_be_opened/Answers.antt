use Rattle.call_law.proofs.Declared.{chains_open}
use Rattle.call_law.proofs.laws.chains_can_be_opened.Goals as goal

pub returns : goal.returns
returns c = chains_open c.laws_of_runs.ensures
