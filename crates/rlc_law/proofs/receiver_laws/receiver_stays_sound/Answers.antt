use Rattle.rlc_law.proofs.Receiver.{starts_sound, stays_sound}
use Rattle.rlc_law.proofs.receiver_laws.receiver_stays_sound.Goals as goal

pub returns-clause-starts : goal.returns-clause-starts
returns-clause-starts c = starts_sound

pub returns-clause-stays : goal.returns-clause-stays
returns-clause-stays c = stays_sound
