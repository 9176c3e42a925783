-- The laws, from the invariant.
use Rattle.std.proofs.Common.{ℕ, ◌+◌, List, sym, ◌∙◌, subst, arith}
use Rattle.std.proofs.lemmas.Bool.{false≢true}
use Rattle.rlc_pdu.specs.Amd.{Amd}
use Rattle.rlc_model.specs.Pdu.{IsPiece, end_of}
use Rattle.rlc_model.specs.Tx.{tx_next_ack}
use Rattle.rlc_model.specs.Rx.{Rx, got, held_at, rx_next, IsConflict, other_length, held_past, past_length, no_last}
use Rattle.rlc_law.specs.Laws.{SendsPieces, CompletesAsGiven, CompletesOnce, ConfirmsComplete, ReadsOwnNumber, ReadsOwnAck, MakesTrue, StaysTrue, NoneOutside, GivesInOrder, KeepsGiven}
use Rattle.rlc_law.proofs.Bytes.{held_some}
use Rattle.rlc_law.proofs.Elements.{written_status_is_true}
use Rattle.rlc_law.proofs.Base.{near_one, done_below}
use Rattle.rlc_law.proofs.Invariant.{at, RxFits}
use Rattle.rlc_law.proofs.Inductive.{own_number, own_ack, reaches_inv}

pub sends_pieces : SendsPieces
sends_pieces h run d among = let is = (reaches_inv h run).pdus d among in (is.number, is.sn, is.piece, is.fits)

pub completes_as_given : CompletesAsGiven
completes_as_given h run u among =
    let inv = reaches_inv h run in
    let is = inv.completed.each u among in
    (omega (arith, done_below h.rx u.number is.0, inv.rx.long), is.1)

pub completes_once : CompletesOnce
completes_once h run = (reaches_inv h run).completed.once

pub confirms_complete : ConfirmsComplete
confirms_complete h run n lt is =
    let inv = reaches_inv h run in
    let done = inv.confirms n (omega (arith, inv.tx.long)) is in
    (done, inv.completed.all n done)

pub reads_own_number : ReadsOwnNumber
reads_own_number h run d among fresh =
    let near = own_number h (reaches_inv h run) d among fresh in
    (near, λ c other. near_one h.rx.size d.view.sn (rx_next h.rx) c d.number other near)

pub reads_own_ack : ReadsOwnAck
reads_own_ack h run t among fresh =
    let near = own_ack h (reaches_inv h run) t among fresh in
    (near, λ c other. near_one h.tx.size t.status.ack (tx_next_ack h.tx + 1) c t.ack other near)

pub makes_true : MakesTrue
makes_true h run n a s r m = let is = written_status_is_true h.rx (reaches_inv h run).sound n a s r m in (is.0, is.1, is.4)

pub stays_true : StaysTrue
stays_true h run t among = ((reaches_inv h run).statuses t among).received

pub gives_in_order : GivesInOrder
gives_in_order h run = let inv = reaches_inv h run in (inv.tx.long, inv.sdus)

pub keeps_given : KeepsGiven
keeps_given h run = (reaches_inv h run).tx.sdu

-- a piece of the SDU given is not in conflict
pub no_conflict : (r : Rx) (given : List (List ℕ)) (x : ℕ) (v : Amd) → RxFits r given → IsPiece (at given x) v → IsConflict (got r x) v → ⊥
no_conflict r given x v rx piece (other_length l ends is ne) = ne (rx.len x l is ∙ sym (piece.last.0 ends))
no_conflict r given x v rx piece (held_past p ends past held) =
    let b = held_some (held_at (got r x) p) held in
    absurd (omega (arith, (rx.held x p b.0 b.1).0, piece.last.0 ends))
no_conflict r given x v rx piece (past_length l is past) = absurd (omega (arith, rx.len x l is, piece.within))
no_conflict r given x v rx piece (no_last goes_on is) = false≢true (sym goes_on ∙ piece.last.1 (rx.len x (end_of v) is))

pub none_outside : NoneOutside
none_outside h run d among fresh r =
    let inv = reaches_inv h run in
    let near = own_number h inv d among fresh in (
      λ hears. hears.0 d.number near,
      λ hears. no_conflict h.rx h.given hears.0 d.view inv.rx
          (subst (λ (n : ℕ). IsPiece (at h.given n) d.view) (near_one h.rx.size d.view.sn (rx_next h.rx) d.number hears.0 near hears.1) (inv.pdus d among).piece) hears.3,
    )
