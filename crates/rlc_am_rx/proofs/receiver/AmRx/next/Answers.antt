use Rattle.std.proofs.Common.{sym}
use Rattle.rlc_am_rx.proofs.State.{next_at}
use Rattle.rlc_am_rx.proofs.receiver.AmRx.next.Goals as goal

pub returns : goal.returns
returns c = sym (next_at c.self.inside c.args.self.now c.self.invariant c.self.view_is)
