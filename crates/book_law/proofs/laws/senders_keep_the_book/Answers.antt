use Rattle.book_law.specs.Laws.{KeepsBook}
use Rattle.book_law.proofs.TheLaws.{keeps_book, of_runs}
use Rattle.book_law.proofs.laws.senders_keep_the_book.Goals as goal

pub returns-clause-lines : goal.returns-clause-lines
returns-clause-lines c = keeps_book

pub returns-clause-runs : goal.returns-clause-runs
returns-clause-runs c = of_runs KeepsBook keeps_book
