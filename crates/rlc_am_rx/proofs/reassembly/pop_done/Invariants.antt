use Rattle.std.proofs.Common.{◌≡◌, ◌+◌, ◌<◌, ℕ, length}
use Rattle.rlc_model.specs.Rx.Got.{Done}
use Rattle.rlc_am_rx.specs.Reassembly.{got_at}
use Rattle.rlc_am_rx.proofs.reassembly.pop_done.Given as goal

abbrev pub invariant-loop-entries : goal.invariant-loop-entries
invariant-loop-entries l = record {
  long : length l.entries.items + l.count ≡ length l.initial.entries.items;
  done : (i : ℕ) → i < l.count → got_at l.initial.entries.items i ≡ Done;
  rest : (i : ℕ) → got_at l.entries.items i ≡ got_at l.initial.entries.items (l.count + i);
}

abbrev pub decreases-loop-entries : goal.decreases-loop-entries
decreases-loop-entries l = length l.entries.items
