use Rattle.item_chain.proofs.TheLaws.{lines_go_by_item_steps}
use Rattle.item_chain.proofs.laws.lines_go_by_item_steps.Goals as goal

pub returns : goal.returns
returns c = lines_go_by_item_steps c.laws_of_pdus.ensures
