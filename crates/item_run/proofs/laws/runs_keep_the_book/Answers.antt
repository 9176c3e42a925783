use Rattle.item_run.proofs.TheLaws.{runs_are_honest, runs_keep_books}
use Rattle.item_run.proofs.laws.runs_keep_the_book.Goals as goal

pub returns-clause-honest : goal.returns-clause-honest
returns-clause-honest c = runs_are_honest c.laws_of_books.ensures c.laws_of_tables.ensures c.runs_stand.ensures.lines c.laws_of_pdus.ensures

pub returns-clause-book : goal.returns-clause-book
returns-clause-book c = runs_keep_books c.laws_of_books.ensures c.laws_of_tables.ensures c.runs_stand.ensures.lines c.laws_of_pdus.ensures
