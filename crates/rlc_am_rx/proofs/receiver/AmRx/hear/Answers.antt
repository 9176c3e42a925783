use Rattle.std.proofs.Common.{refl}
use Rattle.std.proofs.lemmas.Bool.{false≢true}
use Rattle.rlc_am_rx.proofs.Hearing.{hears_if_placed}
use Rattle.rlc_am_rx.proofs.Placed.{on_err}
use Rattle.rlc_am_rx.proofs.receiver.AmRx.hear.Goals as goal

pub returns-then-conflicts-clause-ok : goal.returns-then-conflicts-clause-ok
returns-then-conflicts-clause-ok c =
    (c.in-Some.number, rw (← c.size.ensures, ← c.next.ensures) c.in-Some.ensures.near, λ h. false≢true (c.if-is_repeat.ensures.1 h), c.if-conflicts.ensures.0 refl, c.poll_at_once-then-conflicts.ensures)

pub place-requires-clause-near : goal.place-requires-clause-near
place-requires-clause-near c = rw (← c.size.ensures, ← c.next.ensures) c.in-Some.ensures.near

pub returns-clause-ok : goal.returns-clause-ok
returns-clause-ok c =
    hears_if_placed c.args.self.now c.args.pdu.now c.in-Some.number _ _ (rw (← c.size.ensures, ← c.next.ensures) c.in-Some.ensures.near)
    (λ h. false≢true (c.if-is_repeat.ensures.1 h)) (λ h. false≢true (c.if-conflicts.ensures.1 h)) c.place.ensures.ok

pub returns-clause-memory : goal.returns-clause-memory
returns-clause-memory c = on_err c.place.result _ (record {
  number = c.in-Some.number;
  near = rw (← c.size.ensures, ← c.next.ensures) c.in-Some.ensures.near;
  news = λ h. false≢true (c.if-is_repeat.ensures.1 h);
  agrees = λ h. false≢true (c.if-conflicts.ensures.1 h);
})
