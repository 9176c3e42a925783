use Rattle.std.proofs.Common.{◌≡◌, ℕ, length, List, Contains}
use Rattle.std.specs.Bool.{MatchBool}
use Rattle.rlc_am_rx.specs.Polling.{HasBelow, Drops}
use Rattle.rlc_am_rx.proofs.polling.DelayedPolls.take_below.Given as goal

abbrev pub invariant-loop-some : goal.invariant-loop-some
invariant-loop-some l = record {
  drops : (new : List ℕ) → Drops l.self l.until new → Drops l.fn.self l.until new;
  kept : (k : ℕ) → Contains l.self k → Contains l.fn.self k;
  some : MatchBool l.some (HasBelow l.fn.self l.until) (l.self ≡ l.fn.self);
}

abbrev pub decreases-loop-some : goal.decreases-loop-some
decreases-loop-some l = length l.self
