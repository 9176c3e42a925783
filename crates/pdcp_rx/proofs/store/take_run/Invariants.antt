use Rattle.std.proofs.Common.{◌≡◌, ◌+◌, ◌≤◌, ◌++◌, length, drop, vec_len, vec_capacity}
use Rattle.pdcp_model.specs.Receiver.{run}
use Rattle.pdcp_rx.proofs.store.take_run.Given as goal

abbrev pub invariant-loop-sdu : goal.invariant-loop-sdu
invariant-loop-sdu l = record {
  room : vec_len l.sdus + length (run l.stored.items) ≤ vec_capacity l.sdus;
  sdus : l.sdus.items ++ run l.stored.items ≡ l.initial.sdus.items ++ run l.initial.stored.items;
  rest : drop (length (run l.stored.items)) l.stored.items ≡ drop (length (run l.initial.stored.items)) l.initial.stored.items;
}

abbrev pub decreases-loop-sdu : goal.decreases-loop-sdu
decreases-loop-sdu l = length l.stored.items
