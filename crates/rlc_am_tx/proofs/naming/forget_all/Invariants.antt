use Rattle.std.proofs.Common.{◌≡◌, ℕ, ◌<◌, ◌≤◌, length}
use Rattle.rlc_am_tx.specs.Naming.{not_named, named_at}
use Rattle.rlc_am_tx.proofs.naming.forget_all.Given as goal

abbrev pub invariant-loop-index : goal.invariant-loop-index
invariant-loop-index l = record {
  done : (i : ℕ) → i < l.index → named_at l.names.items i ≡ not_named;
  rest : (i : ℕ) → l.index ≤ i → named_at l.names.items i ≡ named_at l.initial.names.items i;
  long : length l.names.items ≡ length l.initial.names.items;
}
