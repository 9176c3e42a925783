use Rattle.std.proofs.Common.{List, Option, ◌<◌, subst}
use Rattle.rlc_model.specs.Tx.{Kept}
use Rattle.rlc_am_tx.specs.Buffer.{IsInOrder}
use Rattle.rlc_am_tx.proofs.Order.{count_more}
use Rattle.rlc_am_tx.proofs.buffer.TxBuffer.sent_count.Goals as goal

pub returns-then-sent_len-gt0-clause-count : goal.returns-then-sent_len-gt0-clause-count
returns-then-sent_len-gt0-clause-count c =
    let u = c.self.inside.unsent in
    count_more c.args.self.now u (subst (λ (l : List (Option Kept)). IsInOrder l u) c.self.view_is c.self.invariant.tidy.order) (subst (λ m. 0 < m) c.sent_len.ensures c.if-sent_len-gt0.true)
