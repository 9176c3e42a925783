use Rattle.chain_law.proofs.Calls.{hearing_keeps, granting_keeps, expiry_keeps}
use Rattle.chain_law.proofs.call_laws.calls_keep_what_was_given.Goals as goal

pub returns-clause-hearing : goal.returns-clause-hearing
returns-clause-hearing c = hearing_keeps

pub returns-clause-granting : goal.returns-clause-granting
returns-clause-granting c = granting_keeps

pub returns-clause-expiry : goal.returns-clause-expiry
returns-clause-expiry c = expiry_keeps
