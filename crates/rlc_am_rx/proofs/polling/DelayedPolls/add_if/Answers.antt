use Rattle.std.proofs.lemmas.Map.Keys.{IsStrictlyIncreasing-from_sorted}
use Rattle.rlc_am_rx.proofs.Numbers.{adds}
use Rattle.rlc_am_rx.proofs.polling.DelayedPolls.add_if.Goals as goal

pub invariant_of-self-then-poll : goal.invariant_of-self-then-poll
invariant_of-self-then-poll c = IsStrictlyIncreasing-from_sorted _ c.in_ok-insert.ensures.ordered

pub returns-in_ok-insert-clause-adds : goal.returns-in_ok-insert-clause-adds
returns-in_ok-insert-clause-adds c = rw (← c.self.view_is)
    (adds c.self.inside.numbers c.insert.new.self c.args.number c.args.poll c.if-poll.true c.in_ok-insert.ensures.updates)

pub returns-in_ok-insert-clause-rises : goal.returns-in_ok-insert-clause-rises
returns-in_ok-insert-clause-rises c = (IsStrictlyIncreasing-from_sorted _ c.in_ok-insert.ensures.ordered, rw (← c.self.view_is) c.self.invariant)
