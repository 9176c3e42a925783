use Rattle.item_chain.proofs.FeedsAll.{feeding_goes, steps_go}
use Rattle.item_chain.proofs.run_laws.steps_go_by_item_steps.Goals as goal

pub returns-clause-feeding : goal.returns-clause-feeding
returns-clause-feeding c = feeding_goes

pub returns-clause-steps : goal.returns-clause-steps
returns-clause-steps c = steps_go c.lines_go_by_item_steps.ensures
