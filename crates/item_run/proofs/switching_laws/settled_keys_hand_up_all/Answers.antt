use Rattle.item_run.proofs.TheLaws.{settled_keys_hand_up_all}
use Rattle.item_run.proofs.switching_laws.settled_keys_hand_up_all.Goals as goal

pub returns : goal.returns
returns c = settled_keys_hand_up_all c.laws_of_books.ensures c.laws_of_tables.ensures c.runs_stand.ensures.lines c.laws_of_pdus.ensures
