use Rattle.std.proofs.Common.{◌≡◌, ◌⊎◌, ℕ, ◌+◌, ◌≤◌, length}
use Rattle.rlc_status.specs.Says.{count}
use Rattle.rlc_am_tx.specs.Naming.{named_at}
use Rattle.rlc_am_tx.proofs.Named.{ByElementBelow}
use Rattle.rlc_am_tx.proofs.naming.name_numbers.Given as goal

abbrev pub invariant-loop-number : goal.invariant-loop-number
invariant-loop-number l = record {
  near : (l.number ≤ l.first + count l.nack) ⊎ (l.number ≤ l.base);
  below : ByElementBelow l.kept_sdus.items l.base l.first l.number l.nack l.initial.names.items l.names.items;
  long : length l.names.items ≡ length l.initial.names.items;
  rest : (i : ℕ) → l.first + count l.nack ≤ l.base + i → named_at l.names.items i ≡ named_at l.initial.names.items i;
}
