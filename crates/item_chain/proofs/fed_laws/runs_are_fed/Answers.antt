use Rattle.item_chain.proofs.FedNodes.{steps_leave_fed, pasts_are_fed, runs_are_fed}
use Rattle.item_chain.proofs.fed_laws.runs_are_fed.Goals as goal

pub returns-clause-steps : goal.returns-clause-steps
returns-clause-steps c = steps_leave_fed

pub returns-clause-lines : goal.returns-clause-lines
returns-clause-lines c = pasts_are_fed

pub returns-clause-runs : goal.returns-clause-runs
returns-clause-runs c = runs_are_fed c.laws_of_runs.ensures.past
