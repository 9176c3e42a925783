use Rattle.std.proofs.lemmas.Map.Keys.{IsStrictlyIncreasing-from_sorted}
use Rattle.rlc_am_rx.proofs.Numbers.{drops_one}
use Rattle.rlc_am_rx.proofs.polling.DelayedPolls.take_back.Goals as goal

pub invariant_of-self : goal.invariant_of-self
invariant_of-self c = IsStrictlyIncreasing-from_sorted _ c.remove.ensures.ordered

pub returns-then-fresh-clause-back : goal.returns-then-fresh-clause-back
returns-then-fresh-clause-back c = rw (c.if-fresh.true, ← c.self.view_is)
    (drops_one c.self.inside.numbers c.remove.new.self c.args.number c.remove.ensures.updates)

pub returns-then-fresh-clause-rises : goal.returns-then-fresh-clause-rises
returns-then-fresh-clause-rises c = IsStrictlyIncreasing-from_sorted _ c.remove.ensures.ordered
