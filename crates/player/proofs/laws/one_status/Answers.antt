use Rattle.player.proofs.OneEnding.{one_status}
use Rattle.player.proofs.laws.one_status.Goals as goal

pub returns : goal.returns
returns c = one_status
