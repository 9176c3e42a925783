use Rattle.orderly_law.proofs.Outcomes.{runs_have_one_outcome as have_one_outcome}
use Rattle.orderly_law.proofs.laws.runs_have_one_outcome.Goals as goal

pub returns : goal.returns
returns c = have_one_outcome c.a_step_has_one_outcome.ensures.alike c.runs_keep_chains_orderly.ensures
