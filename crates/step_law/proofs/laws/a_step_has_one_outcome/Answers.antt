use Rattle.step_law.proofs.Steps.{one_step, steps_alike}
use Rattle.step_law.proofs.laws.a_step_has_one_outcome.Goals as goal

pub returns-clause-one : goal.returns-clause-one
returns-clause-one c = one_step c.hearing_has_one_outcome.ensures.alike

pub returns-clause-alike : goal.returns-clause-alike
returns-clause-alike c = steps_alike c.hearing_has_one_outcome.ensures.alike
