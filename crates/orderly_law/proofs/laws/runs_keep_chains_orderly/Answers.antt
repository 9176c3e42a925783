use Rattle.orderly_law.proofs.Ordered.{runs_keep_chains_orderly as keep_orderly}
use Rattle.orderly_law.proofs.laws.runs_keep_chains_orderly.Goals as goal

pub returns : goal.returns
returns c = keep_orderly c.laws_of_ports.ensures
