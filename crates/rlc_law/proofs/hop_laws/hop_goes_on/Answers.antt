use Rattle.rlc_law.proofs.Runs.{reaches_more}
use Rattle.rlc_law.proofs.hop_laws.hop_goes_on.Goals as goal

pub returns : goal.returns
returns c = reaches_more
