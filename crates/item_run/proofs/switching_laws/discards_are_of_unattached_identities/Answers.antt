use Rattle.item_run.proofs.TheLaws.{runs_discard_unattached}
use Rattle.item_run.proofs.switching_laws.discards_are_of_unattached_identities.Goals as goal

pub returns : goal.returns
returns c = runs_discard_unattached c.laws_of_books.ensures c.laws_of_tables.ensures c.runs_stand.ensures.lines c.laws_of_pdus.ensures
