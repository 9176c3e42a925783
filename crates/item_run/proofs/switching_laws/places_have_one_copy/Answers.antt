use Rattle.item_run.proofs.SwitchingLaws.{runs_have_one_copy}
use Rattle.item_run.proofs.switching_laws.places_have_one_copy.Goals as goal

pub returns : goal.returns
returns c = runs_have_one_copy c.laws_of_books.ensures c.laws_of_tables.ensures c.runs_stand.ensures.lines c.laws_of_pdus.ensures c.laws_of_hops.ensures
    c.laws_of_ends.ensures c.runs_stand.ensures.memory
