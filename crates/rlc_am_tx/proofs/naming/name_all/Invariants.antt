use Rattle.std.proofs.Common.{◌≡◌, ℕ, ◌+◌, ◌≤◌, length, take}
use Rattle.rlc_am_tx.specs.Naming.{not_named, named_at, ByElements}
use Rattle.rlc_am_tx.proofs.naming.name_all.Given as goal

abbrev pub invariant-loop-nack : goal.invariant-loop-nack
invariant-loop-nack l = record {
  all : ByElements l.kept_sdus.items l.base l.size l.ack (take l.nack-index l.nacks) l.initial.names.items l.names.items;
  long : length l.names.items ≡ length l.initial.names.items;
  rest : (i : ℕ) → l.ack ≤ l.base + i → named_at l.names.items i ≡ not_named;
}
