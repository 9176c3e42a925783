use Rattle.std.proofs.Common.{subst}
use Rattle.rlc_law.specs.Receiver.{IsSound}
use Rattle.rlc_am_rx.proofs.receiver.AmRx.highest_status.Goals as goal

pub returns-clause-sound : goal.returns-clause-sound
returns-clause-sound c = subst IsSound c.self.view_is c.self.invariant.sound
