use Rattle.heard_law.proofs.Delivering.{delivers_what_comes}
use Rattle.heard_law.proofs.laws.what_comes_is_delivered.Goals as goal

pub returns : goal.returns
returns c = delivers_what_comes c.what_is_heard_was_given.ensures
