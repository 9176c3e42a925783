use Rattle.rlc_model.proofs.Asked.{asks_for_missing}
use Rattle.rlc_model.proofs.Again.{sends_missing}
use Rattle.rlc_model.proofs.laws.a_lost_sdu_is_sent_again.Goals as goal

pub returns-clause-asks : goal.returns-clause-asks
returns-clause-asks c = asks_for_missing

pub returns-clause-sends : goal.returns-clause-sends
returns-clause-sends c = sends_missing
