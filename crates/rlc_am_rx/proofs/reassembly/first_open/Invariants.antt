use Rattle.std.proofs.Common.{◌≡◌, ◌≤◌, ◌<◌, ℕ}
use Rattle.rlc_model.specs.Rx.Got.{Done}
use Rattle.rlc_am_rx.specs.Reassembly.{got_at}
use Rattle.rlc_am_rx.proofs.reassembly.first_open.Given as goal

abbrev pub invariant-loop-at : goal.invariant-loop-at
invariant-loop-at l = (i : ℕ) → l.from ≤ i → i < l.at → got_at l.entries.items i ≡ Done
