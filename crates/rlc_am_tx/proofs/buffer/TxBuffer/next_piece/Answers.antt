use Rattle.std.proofs.Common.{List, Option, subst}
use Rattle.rlc_model.specs.Tx.{Kept}
use Rattle.rlc_am_tx.specs.Buffer.{IsInOrder}
use Rattle.rlc_am_tx.proofs.Nexts.{pending_next, pending_inside, unsent_next}
use Rattle.rlc_am_tx.proofs.buffer.TxBuffer.next_piece.Goals as goal

pub returns-in-Some-clause-next : goal.returns-in-Some-clause-next
returns-in-Some-clause-next c = pending_next c.args.self.now c.in-Some.piece c.in-Some.ensures.some

pub returns-in-Some-clause-inside : goal.returns-in-Some-clause-inside
returns-in-Some-clause-inside c = pending_inside c.args.self.now c.self.inside.unsent c.in-Some.piece (subst (λ (l : List (Option Kept)). IsInOrder l c.self.inside.unsent) c.self.view_is c.self.invariant.tidy.order) c.in-Some.ensures.some

pub returns-clause-next : goal.returns-clause-next
returns-clause-next c = unsent_next c.args.self.now c.unsent_piece.result c.in_default.ensures.none c.unsent_piece.ensures.some
