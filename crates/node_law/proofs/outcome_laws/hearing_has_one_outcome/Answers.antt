use Rattle.node_law.proofs.Hearing.{one_node_hearing, nodes_hear}
use Rattle.node_law.proofs.outcome_laws.hearing_has_one_outcome.Goals as goal

pub returns-clause-one : goal.returns-clause-one
returns-clause-one c = one_node_hearing c.an_sdu_leads_to_one_target.ensures c.a_pdcp_pdu_has_one_answer.ensures

pub returns-clause-alike : goal.returns-clause-alike
returns-clause-alike c = nodes_hear c.an_sdu_leads_to_one_target.ensures c.a_pdcp_pdu_has_one_answer.ensures
