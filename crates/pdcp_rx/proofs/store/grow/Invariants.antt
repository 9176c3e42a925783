use Rattle.std.proofs.Common.{◌≡◌, ◌-◌, ◌≤◌, ◌++◌, max, length, replicate, None}
use Rattle.std.specs.VecDeque.{deque_capacity}
use Rattle.pdcp_rx.proofs.store.grow.Given as goal

abbrev pub invariant-loop-stored : goal.invariant-loop-stored
invariant-loop-stored l = record {
  room : l.len ≤ deque_capacity l.stored;
  fits : length l.stored.items ≤ max l.len (length l.initial.stored.items);
  long : length l.initial.stored.items ≤ length l.stored.items;
  gaps : l.stored.items ≡ l.initial.stored.items ++ replicate (length l.stored.items - length l.initial.stored.items) None;
}

abbrev pub decreases-loop-stored : goal.decreases-loop-stored
decreases-loop-stored l = l.len - length l.stored.items
