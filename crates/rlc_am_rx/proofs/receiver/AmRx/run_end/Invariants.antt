use Rattle.std.proofs.Common.{◌≤◌, ◌<◌, ℕ}
use Rattle.rlc_model.specs.Rx.{got}
use Rattle.rlc_model.specs.Made.{IsTouched}
use Rattle.rlc_am_rx.proofs.receiver.AmRx.run_end.Given as goal

abbrev pub invariant-loop-end : goal.invariant-loop-end
invariant-loop-end l = (k : ℕ) → l.number ≤ k → k < l.end → IsTouched (got l.self k) → ⊥
