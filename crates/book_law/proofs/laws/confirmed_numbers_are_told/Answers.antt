use Rattle.book_law.specs.Laws.{TellsConfirmed}
use Rattle.book_law.proofs.TheLaws.{tells_confirmed, of_runs}
use Rattle.book_law.proofs.laws.confirmed_numbers_are_told.Goals as goal

pub returns-clause-lines : goal.returns-clause-lines
returns-clause-lines c = tells_confirmed

pub returns-clause-runs : goal.returns-clause-runs
returns-clause-runs c = of_runs TellsConfirmed tells_confirmed
