use Rattle.std.proofs.Common.{◌≡◌, ◌++◌, map, take}
use Rattle.node_model.specs.Opening.{uu_side}
use Rattle.node_ports.proofs.opening.add_uu.Given as goal

abbrev pub invariant-loop-uu : goal.invariant-loop-uu
invariant-loop-uu l = l.sides.items ≡ l.initial.sides.items ++ map (uu_side l.settings) (take l.uu-index l.uus)
