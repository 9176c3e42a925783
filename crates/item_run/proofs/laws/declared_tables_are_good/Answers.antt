use Rattle.item_run.proofs.TheLaws.{declared_tables_are_good}
use Rattle.item_run.proofs.laws.declared_tables_are_good.Goals as goal

pub returns : goal.returns
returns c = declared_tables_are_good c.laws_of_tables.ensures
