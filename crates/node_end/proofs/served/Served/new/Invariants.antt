use Rattle.std.proofs.Common.{◌≡◌}
use Rattle.std.specs.List.{AllByRecursion}
use Rattle.bearer_map.specs.Contents.{Contents}
use Rattle.node_end.specs.Fed.{CoversChannel}
use Rattle.node_end.proofs.served.Served.new.Given as goal

abbrev pub invariant-loop-pc5 : goal.invariant-loop-pc5
invariant-loop-pc5 l = (t : Contents) → t.maps ≡ l.maps → AllByRecursion (CoversChannel t l.bearers) l.channels.items

abbrev pub invariant-loop-uu : goal.invariant-loop-uu
invariant-loop-uu l = (t : Contents) → t.maps ≡ l.maps → AllByRecursion (CoversChannel t l.bearers) l.channels.items
