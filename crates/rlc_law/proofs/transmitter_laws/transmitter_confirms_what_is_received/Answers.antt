use Rattle.rlc_law.proofs.Transmitter.{confirms_received, stays_confirmed}
use Rattle.rlc_law.proofs.transmitter_laws.transmitter_confirms_what_is_received.Goals as goal

pub returns-clause-received : goal.returns-clause-received
returns-clause-received c = confirms_received

pub returns-clause-stays : goal.returns-clause-stays
returns-clause-stays c = stays_confirmed
