use Rattle.item_chain.proofs.TheLaws.{opened_chains_stand}
use Rattle.item_chain.proofs.laws.opened_chains_stand.Goals as goal

pub returns : goal.returns
returns c = opened_chains_stand
