use Rattle.rlc_law.proofs.Transmitter.{sends_within}
use Rattle.rlc_law.proofs.transmitter_laws.transmitter_sends_within_its_grant.Goals as goal

pub returns : goal.returns
returns c = sends_within
