use Rattle.carried_law.proofs.Carrying.{runs_carry}
use Rattle.carried_law.proofs.laws.runs_are_carried.Goals as goal

pub returns : goal.returns
returns c = runs_carry c.laws_of_hops.ensures c.laws_of_ends.ensures
