use Rattle.node_law.proofs.Targets.{one_target}
use Rattle.node_law.proofs.outcome_laws.an_sdu_leads_to_one_target.Goals as goal

pub returns : goal.returns
returns c = one_target c.one_answer.ensures.up c.one_answer.ensures.down c.one_answer.ensures.gnb c.one_answer.ensures.remote c.one_reading.ensures c.no_fault_where_read.ensures
