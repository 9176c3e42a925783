use Rattle.std.proofs.Common.{◌≡◌, ◌++◌, length, replicate, None}
use Rattle.pdcp_tx.proofs.kept_sdus.pop_confirmed.Given as goal

abbrev pub invariant-loop-sdus : goal.invariant-loop-sdus
invariant-loop-sdus l = replicate l.count None ++ l.sdus.items ≡ l.initial.sdus.items

abbrev pub decreases-loop-sdus : goal.decreases-loop-sdus
decreases-loop-sdus l = length l.sdus.items
