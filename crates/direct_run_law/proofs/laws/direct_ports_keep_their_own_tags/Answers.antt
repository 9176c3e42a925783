use Rattle.direct_run_law.proofs.TheLaws.{ports_keep_own_tags}
use Rattle.direct_run_law.proofs.laws.direct_ports_keep_their_own_tags.Goals as goal

pub returns : goal.returns
returns c = ports_keep_own_tags c.laws_of_books.ensures.books c.laws_of_hops.ensures.hops c.laws_of_hops.ensures.calls c.laws_of_books.ensures.pdus
