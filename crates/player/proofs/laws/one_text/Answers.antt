use Rattle.player.proofs.OneTrace.{one_text}
use Rattle.player.proofs.laws.one_text.Goals as goal

pub returns : goal.returns
returns c = one_text c.runs_have_one_outcome.ensures
