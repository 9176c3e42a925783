use Rattle.item_run.proofs.TheLaws.{runs_have_sound_replies}
use Rattle.item_run.proofs.laws.replies_that_never_come.Goals as goal

pub returns : goal.returns
returns c = runs_have_sound_replies c.laws_of_books.ensures c.laws_of_tables.ensures c.runs_stand.ensures.lines c.laws_of_pdus.ensures
