use Rattle.node_model.proofs.ByName.{ports_apart, keys_apart, nodes_apart}
use Rattle.node_model.proofs.places.names_are_told_apart.Goals as goal

pub returns-clause-ports : goal.returns-clause-ports
returns-clause-ports c = ports_apart

pub returns-clause-keys : goal.returns-clause-keys
returns-clause-keys c = keys_apart

pub returns-clause-nodes : goal.returns-clause-nodes
returns-clause-nodes c = nodes_apart
