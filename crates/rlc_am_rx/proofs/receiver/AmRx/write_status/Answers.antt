use Rattle.std.proofs.Common.{◌%◌, ◌∙◌, ℕ, ap, refl, subst, arith}
use Rattle.link_base.specs.SequenceNumbers.{modulus}
use Rattle.rlc_law.specs.Receiver.{IsSound}
use Rattle.rlc_law.proofs.Elements.{written_status_is_true}
use Rattle.rlc_model.specs.Made.{prohibited, WritesNacks}
use Rattle.rlc_model.specs.Rx.{Rx, rx_next}
use Rattle.rlc_am_rx.proofs.receiver.AmRx.write_status.Goals as goal

pub returns-clause-truth : goal.returns-clause-truth
returns-clause-truth c =
    let r = c.args.self.now in
    let written = c.in_ok-written.written in
    written_status_is_true r (subst IsSound c.self.view_is c.self.invariant.sound) c.args.n written.ack (record { ack = c.sn_of.result; nacks = written.nacks }) (prohibited r) (record {
      due = c.requires;
      room = omega (arith, c.in-Some.ensures);
      ack = c.sn_of.ensures ∙ ap (λ (q : Rx). written.ack % modulus q.size) c.self.view_is;
      writes = subst (λ (k : ℕ). WritesNacks r k (rx_next r) written.nacks written.ack)
          (omega (arith, c.in-Some.ensures)) c.in_ok-written.ensures.ok;
      after = refl;
    })
