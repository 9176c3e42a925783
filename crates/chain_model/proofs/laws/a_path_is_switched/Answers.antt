use Rattle.chain_model.proofs.Switched.{switches_path}
use Rattle.chain_model.proofs.laws.a_path_is_switched.Goals as goal

pub returns : goal.returns
returns c = switches_path
