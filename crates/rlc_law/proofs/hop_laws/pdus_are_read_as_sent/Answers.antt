use Rattle.rlc_law.proofs.Safety.{reads_own_number, reads_own_ack, none_outside}
use Rattle.rlc_law.proofs.Sending.{none_beyond}
use Rattle.rlc_law.proofs.hop_laws.pdus_are_read_as_sent.Goals as goal

pub returns-clause-number : goal.returns-clause-number
returns-clause-number c = reads_own_number

pub returns-clause-ack : goal.returns-clause-ack
returns-clause-ack c = reads_own_ack

pub returns-clause-none_outside : goal.returns-clause-none_outside
returns-clause-none_outside c = none_outside

pub returns-clause-none_beyond : goal.returns-clause-none_beyond
returns-clause-none_beyond c = none_beyond
