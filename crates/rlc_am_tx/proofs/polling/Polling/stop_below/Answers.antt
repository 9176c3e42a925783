use Rattle.std.proofs.Common.{refl}
use Rattle.rlc_am_tx.specs.Polling.{stops}
use Rattle.rlc_am_tx.proofs.polling.Polling.stop_below.Goals as goal

pub returns-then-poll_sn-ack : goal.returns-then-poll_sn-ack
returns-then-poll_sn-ack c = stops c.in-Some.poll_sn c.in-Some.is c.if-poll_sn-ack.true refl
