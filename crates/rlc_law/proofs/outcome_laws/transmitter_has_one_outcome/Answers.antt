use Rattle.rlc_law.proofs.OneTransmitter.{one_giving, one_grant}
use Rattle.rlc_law.proofs.OneStatus.{one_status_hearing, one_poll_expiry}
use Rattle.rlc_law.proofs.outcome_laws.transmitter_has_one_outcome.Goals as goal

pub returns-clause-giving : goal.returns-clause-giving
returns-clause-giving c = one_giving

pub returns-clause-grant : goal.returns-clause-grant
returns-clause-grant c = one_grant

pub returns-clause-status : goal.returns-clause-status
returns-clause-status c = one_status_hearing

pub returns-clause-expiry : goal.returns-clause-expiry
returns-clause-expiry c = one_poll_expiry
