use Rattle.chain_law.proofs.Laws.{one_side_changes}
use Rattle.chain_law.proofs.rlc_laws.a_side_changes_alone.Goals as goal

pub returns : goal.returns
returns c = one_side_changes
