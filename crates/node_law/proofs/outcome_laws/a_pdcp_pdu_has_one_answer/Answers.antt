use Rattle.node_law.proofs.AtEnds.{one_pdcp_hearing}
use Rattle.node_law.proofs.outcome_laws.a_pdcp_pdu_has_one_answer.Goals as goal

pub returns : goal.returns
returns c = one_pdcp_hearing c.one_reading.ensures c.no_fault_where_read.ensures
