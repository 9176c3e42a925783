use Rattle.std.proofs.Common.{◌≡◌, ◌↔◌, ◌-◌, ◌<◌, true, not, Bool, set, length, List, Option, None, sym, ◌∙◌, ap, subst, arith, get_or-set_same}
use Rattle.std.specs.Ordering.{nat_cmp}
use Rattle.std.specs.BTreeSet.{contains}
use Rattle.std.proofs.lemmas.List.{get_or_default, length-set, set-get_or}
use Rattle.rlc_model.specs.Tx.{Kept, at, is_unsent}
use Rattle.rlc_pdu.specs.Amd.{amd_bytes}
use Rattle.rlc_am_tx.specs.Buffer.{kept_from, sdu_of, sent_of, IsPending}
use Rattle.rlc_am_tx.specs.Sending.{plain_piece}
use Rattle.rlc_am_tx.specs.Inside.{IsTidy}
use Rattle.rlc_am_tx.specs.Pieces.{IsNextPiece, MarksKept, MarksSent, MovesUnsent}
use Rattle.rlc_am_tx.proofs.Marked.{next_item, next_slot, marked_tidy, marked_sent, tidy_few}
use Rattle.rlc_am_tx.proofs.buffer.TxBuffer.send.Goals as goal

pub index_mut-requires : goal.index_mut-requires
index_mut-requires c =
    let a = c.self.inside in
    let next = subst (λ (l : List (Option Kept)). IsNextPiece l c.args.piece.now) (sym c.self.view_is) c.requires.next in
    omega (arith, (next_item a.next_ack a.kept_sdus.items c.args.piece.now next).0)

pub send_piece-requires-clause-some : goal.send_piece-requires-clause-some
send_piece-requires-clause-some c none =
    let a = c.self.inside in
    let next = subst (λ (l : List (Option Kept)). IsNextPiece l c.args.piece.now) (sym c.self.view_is) c.requires.next in
    let kept_sdu = next_item a.next_ack a.kept_sdus.items c.args.piece.now next in
    kept_sdu.1 (get_or_default a.kept_sdus.items (c.args.piece.now.number - a.next_ack) None c.index_mut.result.now kept_sdu.0 ∙ sym c.index_mut.ensures.value ∙ none)

pub send_piece-requires-clause-within : goal.send_piece-requires-clause-within
send_piece-requires-clause-within c =
    let a = c.self.inside in
    let next = subst (λ (l : List (Option Kept)). IsNextPiece l c.args.piece.now) (sym c.self.view_is) c.requires.next in
    let lt = (next_item a.next_ack a.kept_sdus.items c.args.piece.now next).0 in
    let here : c.index_mut.result.now ≡ at c.args.self.now c.args.piece.now.number =
    c.index_mut.ensures.value ∙ sym (get_or_default a.kept_sdus.items (c.args.piece.now.number - a.next_ack) None c.index_mut.result.now lt) ∙ next_slot a.next_ack a.kept_sdus.items c.args.piece.now next ∙ ap (λ (l : List (Option Kept)). at l c.args.piece.now.number) c.self.view_is in
    omega (arith, c.requires.within, c.requires.inside.within, ap (λ (o : Option Kept). length (sdu_of o)) here)

pub send_piece-requires-clause-long : goal.send_piece-requires-clause-long
send_piece-requires-clause-long c =
    let a = c.self.inside in
    let next = subst (λ (l : List (Option Kept)). IsNextPiece l c.args.piece.now) (sym c.self.view_is) c.requires.next in
    let lt = (next_item a.next_ack a.kept_sdus.items c.args.piece.now next).0 in
    let here : c.index_mut.result.now ≡ at c.args.self.now c.args.piece.now.number =
    c.index_mut.ensures.value ∙ sym (get_or_default a.kept_sdus.items (c.args.piece.now.number - a.next_ack) None c.index_mut.result.now lt) ∙ next_slot a.next_ack a.kept_sdus.items c.args.piece.now next ∙ ap (λ (l : List (Option Kept)). at l c.args.piece.now.number) c.self.view_is in
    omega (arith, c.requires.inside.long, ap (λ (o : Option Kept). length (sdu_of o)) here)

pub invariant_of-self : goal.invariant_of-self
invariant_of-self c =
    let a = c.self.inside in
    let i = c.args.piece.now.number - a.next_ack in
    let new = c.send_piece.new.kept_sdu in
    let same : set a.kept_sdus.items i new ≡ a.kept_sdus.items = ap (set a.kept_sdus.items i) (c.in_err-sent.ensures.err ∙ c.index_mut.ensures.value) ∙ set-get_or a.kept_sdus.items i c.index_mut.result.now in
    record {
      tidy = subst (λ (l : List (Option Kept)). IsTidy a.next_ack l a.unconfirmed a.unsent (λ n. contains nat_cmp a.waiting n ≡ true)) (sym same) c.self.invariant.tidy;
      names = c.self.invariant.names;
      room = omega (arith, length-set a.kept_sdus.items i new, c.self.invariant.room);
    }

pub index-requires : goal.index-requires
index-requires c =
    let a = c.self.inside in
    let next = subst (λ (l : List (Option Kept)). IsNextPiece l c.args.piece.now) (sym c.self.view_is) c.requires.next in
    omega (arith, (next_item a.next_ack a.kept_sdus.items c.args.piece.now next).0)

-- the buffer behind it
tidy : (c : goal.After-leave_idle) → IsTidy c.self.inside.next_ack (set c.self.inside.kept_sdus.items (c.args.piece.now.number - c.self.inside.next_ack) c.send_piece.new.kept_sdu) c.self.inside.unconfirmed c.unsent_behind-self-inside.result (λ n. contains nat_cmp c.leave_idle.new.waiting n ≡ true)
tidy c =
    let a = c.self.inside in
    let piece = c.args.piece.now in
    let i = piece.number - a.next_ack in
    let new = c.send_piece.new.kept_sdu in
    let next = subst (λ (l : List (Option Kept)). IsNextPiece l piece) (sym c.self.view_is) c.requires.next in
    let kept_sdu = next_item a.next_ack a.kept_sdus.items piece next in
    let here : c.index_mut.result.now ≡ at a.kept_sdus.items i = c.index_mut.ensures.value ∙ sym (get_or_default a.kept_sdus.items i None c.index_mut.result.now kept_sdu.0) in
    let marks : MarksKept (at a.kept_sdus.items i) piece.from c.args.end new = subst (λ (o : Option Kept). MarksKept o piece.from c.args.end new) here c.in_ok-sent.ensures.ok in
    let moves : MovesUnsent a.unsent piece.number (not (is_unsent new)) c.unsent_behind-self-inside.result = subst (λ (b : Bool). MovesUnsent a.unsent piece.number b c.unsent_behind-self-inside.result) c.in_ok-sent.ensures.whole c.unsent_behind-self-inside.ensures in
    let in_new : i < length (set a.kept_sdus.items i new) = omega (arith, kept_sdu.0, length-set a.kept_sdus.items i new) in
    let now : c.index.result.now ≡ new = c.index.ensures ∙ sym (get_or_default (set a.kept_sdus.items i new) i None c.index.result.now in_new) ∙ get_or-set_same a.kept_sdus.items i new None kept_sdu.0 in
    marked_tidy a.next_ack a.kept_sdus.items a.unconfirmed a.unsent (λ n. contains nat_cmp a.waiting n ≡ true) piece c.args.end new (λ n. contains nat_cmp c.leave_idle.new.waiting n ≡ true) c.self.invariant.tidy next c.requires.some c.requires.within marks
    (λ n. subst (λ (o : Option Kept). contains nat_cmp c.leave_idle.new.waiting n ≡ true ↔ (contains nat_cmp a.waiting n ≡ true) × (n ≡ piece.number → IsPending o)) now (c.leave_idle.ensures n))
    c.unsent_behind-self-inside.result moves

pub invariant_of-self-2 : goal.invariant_of-self-2
invariant_of-self-2 c = record {
  tidy = tidy c;
  names = c.self.invariant.names;
  room = omega (arith, length-set c.self.inside.kept_sdus.items (c.args.piece.now.number - c.self.inside.next_ack) c.send_piece.new.kept_sdu, c.self.invariant.room);
}

pub returns-clause-ok : goal.returns-clause-ok
returns-clause-ok c =
    let a = c.self.inside in
    let piece = c.args.piece.now in
    let i = piece.number - a.next_ack in
    let new = c.send_piece.new.kept_sdu in
    let next = subst (λ (l : List (Option Kept)). IsNextPiece l piece) (sym c.self.view_is) c.requires.next in
    let kept_sdu = next_item a.next_ack a.kept_sdus.items piece next in
    let here : c.index_mut.result.now ≡ at a.kept_sdus.items i = c.index_mut.ensures.value ∙ sym (get_or_default a.kept_sdus.items i None c.index_mut.result.now kept_sdu.0) in
    let marks : MarksKept (at a.kept_sdus.items i) piece.from c.args.end new = subst (λ (o : Option Kept). MarksKept o piece.from c.args.end new) here c.in_ok-sent.ensures.ok in
    let after = kept_from a.next_ack (set a.kept_sdus.items i new) in
    let now : c.index.result.now ≡ new = c.index.ensures ∙ sym (get_or_default (set a.kept_sdus.items i new) i None c.index.result.now (omega (arith, kept_sdu.0, length-set a.kept_sdus.items i new))) ∙ get_or-set_same a.kept_sdus.items i new None kept_sdu.0 in
    subst (λ (l : List (Option Kept)). MarksSent l piece.number piece.from c.args.end after) c.self.view_is
    (marked_sent a.next_ack a.kept_sdus.items a.unconfirmed a.unsent (λ n. contains nat_cmp a.waiting n ≡ true) piece c.args.end new (λ n. contains nat_cmp c.leave_idle.new.waiting n ≡ true) c.self.invariant.tidy next c.requires.some c.requires.within marks
    (λ n. subst (λ (o : Option Kept). contains nat_cmp c.leave_idle.new.waiting n ≡ true ↔ (contains nat_cmp a.waiting n ≡ true) × (n ≡ piece.number → IsPending o)) now (c.leave_idle.ensures n)))

pub returns-clause-few : goal.returns-clause-few
returns-clause-few c = tidy_few c.self.inside.next_ack (set c.self.inside.kept_sdus.items (c.args.piece.now.number - c.self.inside.next_ack) c.send_piece.new.kept_sdu) c.self.inside.unconfirmed c.unsent_behind-self-inside.result (λ n. contains nat_cmp c.leave_idle.new.waiting n ≡ true) (tidy c)

-- the slot of the piece
slot : (c : goal.After-leave_idle) → c.index_mut.result.now ≡ at c.args.self.now c.args.piece.now.number
slot c =
    let a = c.self.inside in
    let next = subst (λ (l : List (Option Kept)). IsNextPiece l c.args.piece.now) (sym c.self.view_is) c.requires.next in
    let lt = (next_item a.next_ack a.kept_sdus.items c.args.piece.now next).0 in
    c.index_mut.ensures.value ∙ sym (get_or_default a.kept_sdus.items (c.args.piece.now.number - a.next_ack) None c.index_mut.result.now lt) ∙ next_slot a.next_ack a.kept_sdus.items c.args.piece.now next ∙ ap (λ (l : List (Option Kept)). at l c.args.piece.now.number) c.self.view_is

pub returns-clause-spelt : goal.returns-clause-spelt
returns-clause-spelt c = subst (λ (o : Option Kept). c.in_ok-sent.sent.bytes ≡ amd_bytes c.args.size (plain_piece c.args.size o c.args.piece.now c.args.end)) (slot c) c.in_ok-sent.ensures.spelt

pub returns-clause-fresh : goal.returns-clause-fresh
returns-clause-fresh c = c.in_ok-sent.ensures.fresh ∙ ap (λ (o : Option Kept). c.args.end - sent_of o) (slot c)
