use Rattle.item_run.proofs.SwitchingLaws.{plans_find_unborne}
use Rattle.item_run.proofs.switching_laws.plans_find_identities_free.Goals as goal

pub returns : goal.returns
returns c = plans_find_unborne c.laws_of_books.ensures c.laws_of_tables.ensures c.runs_stand.ensures.lines c.laws_of_pdus.ensures
