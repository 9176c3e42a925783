use Rattle.std.proofs.Common.{◌≡◌, ◌-◌, ◌≤◌, ℕ, length}
use Rattle.rlc_am_rx.specs.Reassembly.{got_at}
use Rattle.rlc_am_rx.proofs.reassembly.grow.Given as goal

abbrev pub invariant-loop-entries : goal.invariant-loop-entries
invariant-loop-entries l = record {
  same : (i : ℕ) → got_at l.entries.items i ≡ got_at l.initial.entries.items i;
  long : length l.initial.entries.items ≤ length l.entries.items;
}

abbrev pub decreases-loop-entries : goal.decreases-loop-entries
decreases-loop-entries l = l.len - length l.entries.items
