use Rattle.std.proofs.Common.{◌≡◌, ◌↔◌, List, true, false, nat_lt, subst, refl, sym, ◌∙◌, arith}
use Rattle.std.proofs.lemmas.Bool.{false≢true}
use Rattle.std.proofs.lemmas.Bool.Decides.{nat_tests}
use Rattle.rlc_status.specs.declared.status.Nack.{Nack}
use Rattle.rlc_status.specs.Says.{Some_has, NamesNumber}
use Rattle.rlc_model.specs.Retransmission.{SpeaksBeyond}
use Rattle.rlc_am_tx.specs.Elements.{IsWrong}
use Rattle.rlc_am_tx.proofs.BeyondAll.{wrong_beyond, all_sent, named_is}
use Rattle.rlc_am_tx.proofs.beyond.is_beyond.Goals as goal

pub returns-then-ack-sent_count : goal.returns-then-ack-sent_count
returns-then-ack-sent_count c = (λ h. SpeaksBeyond.above c.sent_count.result c.sent_count.ensures.count c.if-ack-sent_count.true, λ b. refl)

pub returns-then-any_wrong : goal.returns-then-any_wrong
returns-then-any_wrong c = (
  λ h. wrong_beyond c.args.size c.args.buffer.now c.args.status.now c.args.ack (subst (λ (nacks : List Nack). Some_has (IsWrong c.args.size c.args.buffer.now c.args.ack) nacks) c.as_slice-nacks.ensures (c.if-any_wrong.ensures.0 refl)),
  λ b. refl,
)

pub returns-then-unsent-ack : goal.returns-then-unsent-ack
returns-then-unsent-ack c =
    let l = c.args.buffer.now in
    let u = c.unsent-unsent.result in
    named_is c.args.size l c.args.status.now c.args.ack u c.sent_count.result c.unsent-unsent.ensures c.sent_count.ensures.count c.if-ack-sent_count.false
    (subst (λ (nacks : List Nack). Some_has (IsWrong c.args.size l c.args.ack) nacks → ⊥) c.as_slice-nacks.ensures (λ wrong. false≢true (c.if-any_wrong.ensures.1 wrong)))
    c.names.result c.if-unsent-ack.true
    (subst (λ (nacks : List Nack). c.names.result ≡ true ↔ Some_has (λ e. NamesNumber c.args.size c.args.ack e u) nacks) c.as_slice-nacks.ensures c.names.ensures)

pub returns-else-unsent-ack : goal.returns-else-unsent-ack
returns-else-unsent-ack c =
    let l = c.args.buffer.now in
    let u = c.unsent-unsent.result in
    let b : nat_lt u c.args.ack ≡ false = grind (arith, nat_tests) in (
      λ h. absurd (false≢true (sym b ∙ h)),
      λ speaks. absurd (all_sent c.args.size l c.args.status.now c.args.ack u c.sent_count.result c.unsent-unsent.ensures c.sent_count.ensures.count c.if-ack-sent_count.false
          (subst (λ (nacks : List Nack). Some_has (IsWrong c.args.size l c.args.ack) nacks → ⊥) c.as_slice-nacks.ensures (λ wrong. false≢true (c.if-any_wrong.ensures.1 wrong))) c.if-unsent-ack.false speaks),
    )
