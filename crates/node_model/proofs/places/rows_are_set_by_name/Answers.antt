use Rattle.node_model.proofs.ByName.{sides_set, outgoing_set, incoming_set, nodes_set}
use Rattle.node_model.proofs.places.rows_are_set_by_name.Goals as goal

pub returns-clause-sides : goal.returns-clause-sides
returns-clause-sides c = sides_set

pub returns-clause-outgoing : goal.returns-clause-outgoing
returns-clause-outgoing c = outgoing_set

pub returns-clause-incoming : goal.returns-clause-incoming
returns-clause-incoming c = incoming_set

pub returns-clause-nodes : goal.returns-clause-nodes
returns-clause-nodes c = nodes_set
