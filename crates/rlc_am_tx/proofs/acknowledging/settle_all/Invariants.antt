use Rattle.std.proofs.Common.{◌≡◌, ◌↔◌, ℕ, ◌<◌, ◌≤◌, true, length}
use Rattle.std.specs.Ordering.{nat_cmp}
use Rattle.std.specs.BTreeSet.{contains}
use Rattle.rlc_model.specs.Tx.{at}
use Rattle.rlc_am_tx.specs.Acknowledging.{settled, WaitsOn}
use Rattle.rlc_am_tx.specs.Naming.{not_named, named_at}
use Rattle.rlc_am_tx.proofs.acknowledging.settle_all.Given as goal

abbrev pub invariant-loop-index : goal.invariant-loop-index
invariant-loop-index l = record {
  done : (i : ℕ) → i < l.index → at l.kept_sdus.items i ≡ settled l.threshold (named_at l.initial.names.items i) (at l.initial.kept_sdus.items i);
  rest : (i : ℕ) → l.index ≤ i → at l.kept_sdus.items i ≡ at l.initial.kept_sdus.items i;
  long : length l.kept_sdus.items ≡ length l.initial.kept_sdus.items;
  forgotten : (i : ℕ) → i < l.index → named_at l.names.items i ≡ not_named;
  others : (i : ℕ) → l.index ≤ i → named_at l.names.items i ≡ named_at l.initial.names.items i;
  same : length l.names.items ≡ length l.initial.names.items;
  waiting : (n : ℕ) → contains nat_cmp l.waiting n ≡ true ↔ (contains nat_cmp l.initial.waiting n ≡ true) × WaitsOn l.kept_sdus.items l.index l.base n;
}
