use Rattle.heard_law.proofs.Leading.{nodes_lead_as_told}
use Rattle.heard_law.proofs.TheLaws.{histories_tell_the_chain, runs_tell_the_chain}
use Rattle.heard_law.proofs.laws.histories_tell_the_chain.Goals as goal

pub returns-clause-lines : goal.returns-clause-lines
returns-clause-lines c = histories_tell_the_chain

pub returns-clause-runs : goal.returns-clause-runs
returns-clause-runs c = runs_tell_the_chain

pub returns-clause-leads : goal.returns-clause-leads
returns-clause-leads c = nodes_lead_as_told
