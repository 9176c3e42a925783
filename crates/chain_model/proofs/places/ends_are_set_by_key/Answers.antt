use Rattle.chain_model.proofs.Lookups.{sets_senders, sets_receivers}
use Rattle.chain_model.proofs.places.ends_are_set_by_key.Goals as goal

pub returns-clause-senders : goal.returns-clause-senders
returns-clause-senders c = sets_senders

pub returns-clause-receivers : goal.returns-clause-receivers
returns-clause-receivers c = sets_receivers
