use Rattle.item_chain.proofs.Remembering.{pasts_are_remembered}
use Rattle.item_chain.proofs.Runs.{pasts_stand, runs_stand}
use Rattle.item_chain.proofs.run_laws.runs_stand.Goals as goal

pub returns-clause-lines : goal.returns-clause-lines
returns-clause-lines c = pasts_stand c.steps_go_by_item_steps.ensures.steps c.opened_chains_stand.ensures

pub returns-clause-runs : goal.returns-clause-runs
returns-clause-runs c = runs_stand c.laws_of_runs.ensures.past (pasts_stand c.steps_go_by_item_steps.ensures.steps c.opened_chains_stand.ensures)

pub returns-clause-memory : goal.returns-clause-memory
returns-clause-memory c = pasts_are_remembered c.steps_go_by_item_steps.ensures.steps c.opened_chains_stand.ensures
