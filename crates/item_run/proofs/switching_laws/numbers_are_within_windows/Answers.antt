use Rattle.item_run.proofs.SwitchingLaws.{runs_in_windows}
use Rattle.item_run.proofs.switching_laws.numbers_are_within_windows.Goals as goal

pub returns : goal.returns
returns c = runs_in_windows c.laws_of_books.ensures c.laws_of_tables.ensures c.runs_stand.ensures.lines c.laws_of_pdus.ensures
