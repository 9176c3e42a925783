use Rattle.carried_law.proofs.TheLaws.{numbers_begin_in_order}
use Rattle.carried_law.proofs.laws.sent_numbers_begin_in_order.Goals as goal

pub returns : goal.returns
returns c = numbers_begin_in_order c.laws_of_hops.ensures
