use Rattle.rlc_law.proofs.OneReceiver.{one_hearing, one_reassembly_expiry}
use Rattle.rlc_law.proofs.OneReport.{one_report}
use Rattle.rlc_law.proofs.outcome_laws.receiver_has_one_outcome.Goals as goal

pub returns-clause-hearing : goal.returns-clause-hearing
returns-clause-hearing c = one_hearing

pub returns-clause-report : goal.returns-clause-report
returns-clause-report c = one_report

pub returns-clause-expiry : goal.returns-clause-expiry
returns-clause-expiry c = one_reassembly_expiry
