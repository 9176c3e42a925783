use Rattle.pdcp_law.proofs.Outcome.{one_hearing, some_hearing}
use Rattle.pdcp_law.proofs.receiver_laws.hearing_has_one_answer.Goals as goal

pub returns-clause-one : goal.returns-clause-one
returns-clause-one c = one_hearing

pub returns-clause-some : goal.returns-clause-some
returns-clause-some c = some_hearing
