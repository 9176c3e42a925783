use Rattle.call_law.proofs.Stepping.{steps}
use Rattle.call_law.proofs.laws.steps_can_be_carried_out.Goals as goal

pub returns : goal.returns
returns c = steps c.laws_of_runs.ensures
