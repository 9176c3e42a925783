use Rattle.node_model.specs.State.{PortSide, Outgoing, Incoming}
use Rattle.node_model.proofs.Rows.{ordered_rows}
use Rattle.node_model.proofs.laws.one_row_has_a_name.Goals as goal

pub returns-clause-sides : goal.returns-clause-sides
returns-clause-sides c = ordered_rows PortSide

pub returns-clause-outgoing : goal.returns-clause-outgoing
returns-clause-outgoing c = ordered_rows Outgoing

pub returns-clause-incoming : goal.returns-clause-incoming
returns-clause-incoming c = ordered_rows Incoming
