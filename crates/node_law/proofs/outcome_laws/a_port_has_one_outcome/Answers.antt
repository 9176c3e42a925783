use Rattle.node_law.proofs.AtPorts.{one_port_grant, one_port_expiry}
use Rattle.node_law.proofs.outcome_laws.a_port_has_one_outcome.Goals as goal

pub returns-clause-grant : goal.returns-clause-grant
returns-clause-grant c = one_port_grant

pub returns-clause-expiry : goal.returns-clause-expiry
returns-clause-expiry c = one_port_expiry
