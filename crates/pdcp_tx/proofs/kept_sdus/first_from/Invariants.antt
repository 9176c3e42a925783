use Rattle.std.proofs.Common.{◌≡◌, ◌+◌, ◌-◌, ◌≤◌, length, drop}
use Rattle.std.specs.List.{prefix_len}
use Rattle.std.specs.Option.{is_none}
use Rattle.pdcp_tx.proofs.kept_sdus.first_from.Given as goal

abbrev pub invariant-loop-index : goal.invariant-loop-index
invariant-loop-index l = record {
  within : l.index ≤ length l.sdus.items;
  run : l.from + prefix_len is_none (drop l.from l.sdus.items) ≡ l.index + prefix_len is_none (drop l.index l.sdus.items);
}

abbrev pub decreases-loop-index : goal.decreases-loop-index
decreases-loop-index l = length l.sdus.items - l.index
