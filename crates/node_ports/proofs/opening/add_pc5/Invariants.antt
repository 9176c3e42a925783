use Rattle.std.proofs.Common.{◌≡◌, ◌++◌, map, take}
use Rattle.std.specs.List.{filter}
use Rattle.node_model.specs.Names.{is_remote}
use Rattle.node_model.specs.Opening.{pc5_side}
use Rattle.node_ports.proofs.opening.add_pc5.Given as goal

abbrev pub invariant-loop-pc5 : goal.invariant-loop-pc5
invariant-loop-pc5 l = l.sides.items ≡ l.initial.sides.items ++ map (pc5_side l.settings l.row.goal) (filter (λ p. is_remote l.row.remote p.remote) (take l.pc5-index l.pc5s))
