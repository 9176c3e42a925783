use Rattle.std.proofs.Common.{◌≡◌, ◌++◌, length, replicate, None}
use Rattle.rlc_am_tx.proofs.acknowledging.pop_confirmed.Given as goal

abbrev pub invariant-loop-kept_sdus : goal.invariant-loop-kept_sdus
invariant-loop-kept_sdus l = replicate l.count None ++ l.kept_sdus.items ≡ l.initial.kept_sdus.items

abbrev pub decreases-loop-kept_sdus : goal.decreases-loop-kept_sdus
decreases-loop-kept_sdus l = length l.kept_sdus.items
