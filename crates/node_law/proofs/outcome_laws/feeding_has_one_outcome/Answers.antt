use Rattle.node_law.proofs.Feeding.{one_feeding}
use Rattle.node_law.proofs.FeedingAlike.{feeds_alike}
use Rattle.node_law.proofs.outcome_laws.feeding_has_one_outcome.Goals as goal

pub returns-clause-one : goal.returns-clause-one
returns-clause-one c = one_feeding

pub returns-clause-alike : goal.returns-clause-alike
returns-clause-alike c = feeds_alike
