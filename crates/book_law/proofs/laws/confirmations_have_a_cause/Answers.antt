use Rattle.book_law.proofs.TheLaws.{causes}
use Rattle.book_law.proofs.laws.confirmations_have_a_cause.Goals as goal

pub returns : goal.returns
returns c = causes
