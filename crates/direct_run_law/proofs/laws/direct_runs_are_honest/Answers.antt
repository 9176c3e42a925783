use Rattle.direct_run_law.proofs.TheLaws.{runs_are_honest}
use Rattle.direct_run_law.proofs.laws.direct_runs_are_honest.Goals as goal

pub returns : goal.returns
returns c = runs_are_honest c.laws_of_books.ensures.books c.laws_of_hops.ensures.hops c.laws_of_hops.ensures.calls c.laws_of_books.ensures.pdus
