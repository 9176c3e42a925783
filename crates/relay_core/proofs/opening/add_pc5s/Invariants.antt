use Rattle.std.proofs.Common.{◌≡◌, ◌++◌, map, take}
use Rattle.std.specs.List.{filter}
use Rattle.node_model.specs.Names.{is_remote}
use Rattle.relay_core.specs.Opening.{new_pc5}
use Rattle.relay_core.proofs.opening.add_pc5s.Given as goal

abbrev pub invariant-loop-pc5 : goal.invariant-loop-pc5
invariant-loop-pc5 l = l.ports.items ≡ l.initial.ports.items ++ map (new_pc5 l.row.goal) (filter (λ p. is_remote l.row.remote p.remote) (take l.pc5-index l.pc5s))
