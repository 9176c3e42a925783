use Rattle.item_run.proofs.SwitchingLaws.{applies_find_free}
use Rattle.item_run.proofs.switching_laws.applies_find_identities_free.Goals as goal

pub returns : goal.returns
returns c = applies_find_free c.laws_of_books.ensures c.laws_of_tables.ensures c.runs_stand.ensures.lines c.laws_of_pdus.ensures c.histories_tell_the_chain.ensures.lines
