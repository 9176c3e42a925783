use Rattle.std.proofs.lemmas.Map.Keys.{IsStrictlyIncreasing-from_sorted}
use Rattle.rlc_am_rx.proofs.polling.DelayedPolls.pop_below.Goals as goal

pub invariant_of-self : goal.invariant_of-self
invariant_of-self c = IsStrictlyIncreasing-from_sorted _ c.pop_first.ensures.ordered

pub returns-clause-rises : goal.returns-clause-rises
returns-clause-rises c = IsStrictlyIncreasing-from_sorted _ c.pop_first.ensures.ordered
