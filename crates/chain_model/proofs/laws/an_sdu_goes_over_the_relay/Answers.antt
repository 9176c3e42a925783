use Rattle.chain_model.proofs.OverRelay.{goes_over_relay}
use Rattle.chain_model.proofs.laws.an_sdu_goes_over_the_relay.Goals as goal

pub returns : goal.returns
returns c = goes_over_relay
