use Rattle.player.proofs.OneEnding.{one_ending}
use Rattle.player.proofs.laws.one_ending.Goals as goal

pub returns : goal.returns
returns c = one_ending
