use Rattle.std.proofs.Common.{false, ◌∙◌, ◌≤◌, ap, arith}
use Rattle.rlc_pdu.specs.Amd.{amd_of}
use Rattle.rlc_model.specs.Rx.{rx_next, IsRepeat}
use Rattle.rlc_am_rx.proofs.Held.{is_true_where}
use Rattle.rlc_am_rx.specs.Reassembly.{got_of}
use Rattle.rlc_am_rx.proofs.State.{next_at}
use Rattle.rlc_am_rx.proofs.Repeats.{repeat_where, nothing_repeated}
use Rattle.rlc_am_rx.proofs.receiver.AmRx.is_repeat.Goals as goal

pub entry-requires : goal.entry-requires
entry-requires c = omega (arith, c.if-number-self.false, next_at c.self.inside c.args.self.now c.self.invariant c.self.view_is)

pub returns-in_default : goal.returns-in_default
returns-in_default c =
    let from : rx_next c.args.self.now ≤ c.args.number = omega (arith, c.if-number-self.false, next_at c.self.inside c.args.self.now c.self.invariant c.self.view_is) in
    is_true_where false (IsRepeat c.args.self.now c.args.number (amd_of c.args.pdu.now)) (nothing_repeated c.args.self.now c.args.number (amd_of c.args.pdu.now) from c.in_default.ensures.none c.requires.some)

pub returns-in-Untouched : goal.returns-in-Untouched
returns-in-Untouched c =
    let from : rx_next c.args.self.now ≤ c.args.number = omega (arith, c.if-number-self.false, next_at c.self.inside c.args.self.now c.self.invariant c.self.view_is) in
    is_true_where false (IsRepeat c.args.self.now c.args.number (amd_of c.args.pdu.now))
    (nothing_repeated c.args.self.now c.args.number (amd_of c.args.pdu.now) from (c.in-Some.ensures.some ∙ ap got_of c.in-Untouched.is) c.requires.some)

pub returns-in-Partly : goal.returns-in-Partly
returns-in-Partly c =
    let from : rx_next c.args.self.now ≤ c.args.number = omega (arith, c.if-number-self.false, next_at c.self.inside c.args.self.now c.self.invariant c.self.view_is) in
    repeat_where c.args.self.now c.args.number (amd_of c.args.pdu.now) c.in-Partly.assembly.value c.is_repeat.result from
    (c.in-Some.ensures.some ∙ ap got_of c.in-Partly.is) (rw (← c.deref.ensures) c.is_repeat.ensures)
