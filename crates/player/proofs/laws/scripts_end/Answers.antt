use Rattle.player.proofs.Complete.{scripts_end}
use Rattle.player.proofs.laws.scripts_end.Goals as goal

pub returns : goal.returns
returns c = scripts_end
