use Rattle.orderly_law.proofs.laws.hand_ups_are_exact.Goals as goal

pub returns : goal.returns
returns c = c.orderly_hand_ups_are_exact.ensures c.runs_keep_chains_orderly.ensures
