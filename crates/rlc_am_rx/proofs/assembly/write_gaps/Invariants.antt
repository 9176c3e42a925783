use Rattle.std.proofs.Common.{◌≡◌, ◌<◌, ◌≤◌, ◌+◌, ◌-◌, ℕ, length, slice_index}
use Rattle.byte_spans.specs.Spans.{Has, Lacks}
use Rattle.rlc_am_rx.proofs.assembly.write_gaps.Given as goal

abbrev pub invariant-loop-start : goal.invariant-loop-start
invariant-loop-start l = record {
  from : l.from ≤ l.at;
  within : l.at ≤ l.from + length l.body;
  placed : (p : ℕ) → l.from ≤ p → p < l.at → Lacks l.held p → slice_index l.bytes p ≡ slice_index l.body (p - l.from);
  kept : (p : ℕ) → Has l.held p → slice_index l.bytes p ≡ slice_index l.initial.bytes p;
  long : length l.bytes ≡ length l.initial.bytes;
}

abbrev pub decreases-loop-start : goal.decreases-loop-start
decreases-loop-start l = l.from + length l.body - l.at
