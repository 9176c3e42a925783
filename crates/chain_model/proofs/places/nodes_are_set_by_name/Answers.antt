use Rattle.chain_model.proofs.Lookups.{sets_nodes}
use Rattle.chain_model.proofs.places.nodes_are_set_by_name.Goals as goal

pub returns : goal.returns
returns c = sets_nodes
