use Rattle.std.proofs.Common.{◌≡◌, inl, inr, ◌+◌, ◌≤◌, refl, ap, subst, arith}
use Rattle.std.specs.Option.{is_none}
use Rattle.std.proofs.lemmas.Bool.{cases_lt, false≢true}
use Rattle.std.proofs.lemmas.List.Sums.{prefix_len-le-length}
use Rattle.link_base.specs.SequenceNumbers.{Near}
use Rattle.rlc_model.specs.Tx.{Tx, tx_next_ack, tx_next, IsSentCount}
use Rattle.rlc_model.specs.Retransmission.{IsBeyond, beyond_at, SpeaksBeyond}
use Rattle.rlc_model.specs.Calls.{StatusTakesMemory}
use Rattle.rlc_am_tx.specs.Transmitter.{transmitter_of}
use Rattle.rlc_am_tx.proofs.Failing.{on_err}
use Rattle.rlc_am_tx.proofs.Invariant.{not_beyond}
use Rattle.rlc_am_tx.proofs.Order.{count_within}
use Rattle.rlc_am_tx.proofs.am_tx.AmTx.hear_status.Goals as goal

pub near-requires-clause-base : goal.near-requires-clause-base
near-requires-clause-base c = omega (arith, c.next_ack-next.ensures.value, ap tx_next c.self.view_is, c.requires.small, prefix_len-le-length is_none c.self.inside.buffer)

pub returns-then-is_beyond-clause-ok : goal.returns-then-is_beyond-clause-ok
returns-then-is_beyond-clause-ok c =
    let a = c.self.inside in
    let st = c.args.status.now in
    let ack = c.in-Some.ack in
    let near : Near a.size st.ack (tx_next_ack (transmitter_of a) + 1) ack = subst (λ m. Near a.size st.ack (m + 1) ack) c.next_ack-next.ensures.value c.in-Some.ensures.near in
    (subst (λ (t : Tx). IsBeyond t st) c.self.view_is (beyond_at ack near (c.if-is_beyond.ensures.0 refl)), refl, subst (λ (t : Tx). IsSentCount t c.sent_count-sent.result) c.self.view_is c.sent_count-sent.ensures.count, refl)

pub returns-then-ack-next-clause-ok : goal.returns-then-ack-next-clause-ok
returns-then-ack-next-clause-ok c =
    let a = c.self.inside in
    let st = c.args.status.now in
    let ack = c.in-Some.ack in
    let near : Near a.size st.ack (tx_next_ack (transmitter_of a) + 1) ack = subst (λ m. Near a.size st.ack (m + 1) ack) c.next_ack-next.ensures.value c.in-Some.ensures.near in
    let fine : SpeaksBeyond a.size a.buffer st ack → ⊥ = λ b. false≢true (c.if-is_beyond.ensures.1 b) in (
      subst (λ (t : Tx). IsBeyond t st → ⊥) c.self.view_is (not_beyond (transmitter_of a) st ack near fine),
      subst (λ (t : Tx). Near t.size st.ack (tx_next_ack t + 1) ack) c.self.view_is near,
      subst (λ (t : Tx). c.next_ack-next.result ≡ tx_next_ack t) c.self.view_is c.next_ack-next.ensures.value,
      c.if-ack-next.true,
      refl,
    )

pub acknowledge-requires-clause-near : goal.acknowledge-requires-clause-near
acknowledge-requires-clause-near c =
    let a = c.self.inside in
    let st = c.args.status.now in
    let ack = c.in-Some.ack in
    let near : Near a.size st.ack (tx_next_ack (transmitter_of a) + 1) ack = subst (λ m. Near a.size st.ack (m + 1) ack) c.next_ack-next.ensures.value c.in-Some.ensures.near in
    subst (λ (t : Tx). Near t.size st.ack (tx_next_ack t + 1) ack) c.self.view_is near

pub acknowledge-requires-clause-from : goal.acknowledge-requires-clause-from
acknowledge-requires-clause-from c = omega (arith, ap tx_next_ack c.self.view_is, c.next_ack-next.ensures.value, c.if-ack-next.false)

pub acknowledge-requires-clause-within : goal.acknowledge-requires-clause-within
acknowledge-requires-clause-within c =
    let a = c.self.inside in
    let sent = c.sent_count-sent.result in
    elim (cases_lt sent c.in-Some.ack) [
      | inl lt ↦ absurd (false≢true (c.if-is_beyond.ensures.1 (SpeaksBeyond.above sent c.sent_count-sent.ensures.count lt)))
      | inr le ↦ omega (arith, le, count_within a.buffer sent c.sent_count-sent.ensures.count, ap tx_next c.self.view_is)
    ]

pub acknowledge-requires-clause-fine : goal.acknowledge-requires-clause-fine
acknowledge-requires-clause-fine c =
    let a = c.self.inside in
    let st = c.args.status.now in
    let ack = c.in-Some.ack in
    let near : Near a.size st.ack (tx_next_ack (transmitter_of a) + 1) ack = subst (λ m. Near a.size st.ack (m + 1) ack) c.next_ack-next.ensures.value c.in-Some.ensures.near in
    subst (λ (t : Tx). IsBeyond t st → ⊥) c.self.view_is (not_beyond (transmitter_of a) st ack near (λ b. false≢true (c.if-is_beyond.ensures.1 b)))

pub returns-in_err-answer-clause-memory : goal.returns-in_err-answer-clause-memory
returns-in_err-answer-clause-memory c =
    let a = c.self.inside in
    let t = c.args.self.now in
    let st = c.args.status.now in
    let ack = c.in-Some.ack in
    let near : Near a.size st.ack (tx_next_ack (transmitter_of a) + 1) ack = subst (λ m. Near a.size st.ack (m + 1) ack) c.next_ack-next.ensures.value c.in-Some.ensures.near in
    let current : tx_next_ack t ≤ ack = omega (arith, ap tx_next_ack c.self.view_is, c.next_ack-next.ensures.value, c.if-ack-next.false) in
    on_err c.from_residual.result (StatusTakesMemory t st) (record {
      fine = subst (λ (x : Tx). IsBeyond x st → ⊥) c.self.view_is (not_beyond (transmitter_of a) st ack near (λ b. false≢true (c.if-is_beyond.ensures.1 b)));
      a = ack;
      ack = subst (λ (x : Tx). Near x.size st.ack (tx_next_ack x + 1) ack) c.self.view_is near;
      current = current;
      grows = c.in_err-answer.ensures.memory;
    })
