use Rattle.std.proofs.Common.{List, Option, IfSome, IfNone, sym, ◌∙◌, subst}
use Rattle.std.proofs.lemmas.Bool.{false≢true}
use Rattle.rlc_model.specs.Tx.{Kept}
use Rattle.rlc_am_tx.specs.Buffer.{kept_from, NonePending}
use Rattle.rlc_am_tx.specs.Pieces.{IsPendingPiece}
use Rattle.rlc_am_tx.proofs.Nexts.{some_first, none_first}
use Rattle.rlc_am_tx.proofs.Waiting.{pending_first, below_pending, below_least}
use Rattle.rlc_am_tx.proofs.buffer.TxBuffer.lowest_pending.Goals as goal

pub returns-in-Some-clause-some : goal.returns-in-Some-clause-some
returns-in-Some-clause-some c =
    let a = c.self.inside in
    subst (λ (l : List (Option Kept)). IsPendingPiece l c.in-Some.piece) c.self.view_is (pending_first (kept_from a.next_ack a.kept_sdus.items) a.next_ack c.in-Some.piece c.in-Some.ensures.some (below_pending a.next_ack a.kept_sdus.items))

pub returns-clause-some : goal.returns-clause-some
returns-clause-some c =
    let a = c.self.inside in
    let l = kept_from a.next_ack a.kept_sdus.items in
    let n = c.in_ok-number.number.now in
    subst (λ (x : List (Option Kept)). IfSome c.pending_piece-2.result (IsPendingPiece x)) c.self.view_is
    (some_first l n c.pending_piece-2.result c.pending_piece-2.ensures.some (below_least l a.next_ack a.waiting n c.self.invariant.tidy.waiting (λ h. false≢true (sym (c.in_default.ensures.none h.0) ∙ h.1)) c.in_ok-number.ensures.least))

pub returns-clause-none : goal.returns-clause-none
returns-clause-none c =
    let a = c.self.inside in
    let l = kept_from a.next_ack a.kept_sdus.items in
    let n = c.in_ok-number.number.now in
    subst (λ (x : List (Option Kept)). IfNone c.pending_piece-2.result (NonePending x)) c.self.view_is
    (none_first l n c.pending_piece-2.result c.pending_piece-2.ensures.none (c.self.invariant.tidy.waiting.only n c.in_ok-number.ensures.member))
