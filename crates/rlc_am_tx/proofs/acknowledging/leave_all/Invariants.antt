use Rattle.std.proofs.Common.{◌≡◌, ◌↔◌, ℕ, true}
use Rattle.std.specs.Ordering.{nat_cmp}
use Rattle.std.specs.BTreeSet.{contains}
use Rattle.rlc_am_tx.specs.Acknowledging.{WaitsOn}
use Rattle.rlc_am_tx.proofs.acknowledging.leave_all.Given as goal

abbrev pub invariant-loop-index : goal.invariant-loop-index
invariant-loop-index l = (n : ℕ) → contains nat_cmp l.waiting n ≡ true ↔ (contains nat_cmp l.initial.waiting n ≡ true) × WaitsOn l.kept_sdus.items l.index l.base n
