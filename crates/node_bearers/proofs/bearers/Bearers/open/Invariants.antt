use Rattle.std.proofs.Common.{◌≡◌, map, take}
use Rattle.std.specs.List.{AllByRecursion}
use Rattle.node_bearers.specs.Bearer.{new_bearer}
use Rattle.node_bearers.specs.Order.{IsSmall}
use Rattle.node_bearers.proofs.bearers.Bearers.open.Given as goal

abbrev pub invariant-loop-row : goal.invariant-loop-row
invariant-loop-row l = record {
  rows : l.rows.items ≡ map (new_bearer l.sends) (take l.row-index l.table);
  small : AllByRecursion IsSmall l.rows.items;
}
