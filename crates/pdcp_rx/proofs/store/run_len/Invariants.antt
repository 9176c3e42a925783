use Rattle.std.proofs.Common.{◌≡◌, ◌+◌, ◌-◌, ◌≤◌, length, drop}
use Rattle.pdcp_model.specs.Receiver.{run}
use Rattle.pdcp_rx.proofs.store.run_len.Given as goal

abbrev pub invariant-loop-end : goal.invariant-loop-end
invariant-loop-end l = record {
  from : l.from ≤ l.end;
  passed : length (run (drop l.from l.stored.items)) ≡ (l.end - l.from) + length (run (drop l.end l.stored.items));
}

abbrev pub decreases-loop-end : goal.decreases-loop-end
decreases-loop-end l = length l.stored.items - l.end
