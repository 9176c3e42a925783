use Rattle.book_law.proofs.TheLaws.{honest_run, honest_runs}
use Rattle.book_law.proofs.laws.an_honest_run_keeps_the_book.Goals as goal

pub returns-clause-lines : goal.returns-clause-lines
returns-clause-lines c = honest_run

pub returns-clause-runs : goal.returns-clause-runs
returns-clause-runs c = honest_runs
