use Rattle.rlc_rest.proofs.Pdus.{data_falls}
use Rattle.rlc_rest.proofs.Statuses.{status_falls}
use Rattle.rlc_rest.proofs.Timers.{poll_falls, prohibit_falls}
use Rattle.rlc_rest.proofs.laws.what_is_left_falls.Goals as goal

pub returns-clause-data_pdu : goal.returns-clause-data_pdu
returns-clause-data_pdu c = data_falls

pub returns-clause-status : goal.returns-clause-status
returns-clause-status c = status_falls

pub returns-clause-poll : goal.returns-clause-poll
returns-clause-poll c = poll_falls

pub returns-clause-prohibit : goal.returns-clause-prohibit
returns-clause-prohibit c = prohibit_falls
