use Rattle.node_law.proofs.Relaying.{one_push, one_pull}
use Rattle.node_law.proofs.outcome_laws.relaying_has_one_outcome.Goals as goal

pub returns-clause-push : goal.returns-clause-push
returns-clause-push c = one_push

pub returns-clause-pull : goal.returns-clause-pull
returns-clause-pull c = one_pull
