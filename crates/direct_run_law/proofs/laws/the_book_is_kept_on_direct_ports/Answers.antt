use Rattle.direct_run_law.proofs.TheLaws.{runs_keep_book}
use Rattle.direct_run_law.proofs.laws.the_book_is_kept_on_direct_ports.Goals as goal

pub returns : goal.returns
returns c = runs_keep_book c.laws_of_books.ensures.books c.laws_of_hops.ensures.hops c.laws_of_hops.ensures.calls c.laws_of_books.ensures.pdus
