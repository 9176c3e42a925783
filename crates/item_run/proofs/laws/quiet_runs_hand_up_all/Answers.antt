use Rattle.item_run.proofs.TheLaws.{runs_hand_up_all}
use Rattle.item_run.proofs.laws.quiet_runs_hand_up_all.Goals as goal

pub returns : goal.returns
returns c = runs_hand_up_all c.laws_of_books.ensures c.settled_keys_hand_up_all.ensures
