use Rattle.rlc_law.proofs.Delivered.{completes_heard, heard_as_given, holds_heard, knows_heard_end, hears_sent}
use Rattle.rlc_law.proofs.hop_laws.what_is_complete_was_heard.Goals as goal

pub returns-clause-sent : goal.returns-clause-sent
returns-clause-sent c = hears_sent

pub returns-clause-complete : goal.returns-clause-complete
returns-clause-complete c = completes_heard

pub returns-clause-as_given : goal.returns-clause-as_given
returns-clause-as_given c = heard_as_given

pub returns-clause-holds : goal.returns-clause-holds
returns-clause-holds c = holds_heard

pub returns-clause-ends : goal.returns-clause-ends
returns-clause-ends c = knows_heard_end
