use Rattle.item_run.proofs.TheLaws.{lines_are_honest}
use Rattle.item_run.proofs.laws.standing_lines_are_honest.Goals as goal

pub returns : goal.returns
returns c = lines_are_honest c.laws_of_pdus.ensures
