use Rattle.chain_model.proofs.OverDirect.{goes_direct}
use Rattle.chain_model.proofs.laws.an_sdu_goes_direct.Goals as goal

pub returns : goal.returns
returns c = goes_direct
