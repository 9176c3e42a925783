use Rattle.book_law.proofs.TheLaws.{hand_ups_are_told, runs_tell_hand_ups}
use Rattle.book_law.proofs.laws.hand_ups_are_told.Goals as goal

pub returns-clause-lines : goal.returns-clause-lines
returns-clause-lines c = hand_ups_are_told

pub returns-clause-runs : goal.returns-clause-runs
returns-clause-runs c = runs_tell_hand_ups
