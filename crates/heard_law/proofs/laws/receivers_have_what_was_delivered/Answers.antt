use Rattle.heard_law.proofs.Runs.{receivers_have}
use Rattle.heard_law.proofs.laws.receivers_have_what_was_delivered.Goals as goal

pub returns : goal.returns
returns c = receivers_have c.laws_of_hops.ensures
