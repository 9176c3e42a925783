use Rattle.std.proofs.Common.{true, false, ◌∙◌, sym, ap, arith}
use Rattle.rlc_pdu.specs.Amd.{amd_of}
use Rattle.rlc_model.specs.Rx.{IsConflict}
use Rattle.rlc_model.specs.Rx.IsConflict.{held_past}
use Rattle.rlc_am_rx.specs.Assembly.{Pieces, got_of_pieces}
use Rattle.rlc_am_rx.proofs.Held.{is_true_where, agrees_unknown, end_agrees, inner_agrees}
use Rattle.rlc_am_rx.proofs.assembly.Assembly.conflicts.Goals as goal

pub returns-in-None : goal.returns-in-None
returns-in-None c =
    is_true_where false (IsConflict (got_of_pieces c.args.self.now) (amd_of c.args.pdu.now))
    (agrees_unknown (got_of_pieces c.args.self.now) (amd_of c.args.pdu.now)
    (λ e p ge. c.if-holds_past.ensures e p (omega (arith, c.end_of-to.ensures, ge)))
    (sym (ap (λ (h : Pieces). h.len) c.self.view_is) ∙ c.in-None.is))

pub returns-then-is_end : goal.returns-then-is_end
returns-then-is_end c =
    rw c.end_of-to.ensures
    (end_agrees (got_of_pieces c.args.self.now) (amd_of c.args.pdu.now) (λ e p ge. c.if-holds_past.ensures e p (omega (arith, c.end_of-to.ensures, ge)))
    c.in-Some.length (sym (ap (λ (h : Pieces). h.len) c.self.view_is) ∙ c.in-Some.is)
    (sym c.is_end.ensures ∙ c.if-is_end.true))

pub returns-else-is_end : goal.returns-else-is_end
returns-else-is_end c =
    rw c.end_of-to.ensures
    (inner_agrees (got_of_pieces c.args.self.now) (amd_of c.args.pdu.now)
    (λ e p ge. c.if-holds_past.ensures e p (omega (arith, c.end_of-to.ensures, ge)))
    c.in-Some.length (sym (ap (λ (h : Pieces). h.len) c.self.view_is) ∙ c.in-Some.is)
    (sym c.is_end.ensures ∙ c.if-is_end.false))

pub returns-then-holds_past : goal.returns-then-holds_past
returns-then-holds_past c =
    let h = c.if-holds_past.ensures in
    is_true_where true (IsConflict (got_of_pieces c.args.self.now) (amd_of c.args.pdu.now)) (held_past h.1.0 h.0 (omega (arith, h.1.1, c.end_of-to.ensures)) h.1.2)
