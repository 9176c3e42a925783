use Rattle.rlc_rest.proofs.HandedUp.{sdus_counted}
use Rattle.rlc_rest.proofs.laws.sdus_are_counted.Goals as goal

pub returns : goal.returns
returns c = sdus_counted
