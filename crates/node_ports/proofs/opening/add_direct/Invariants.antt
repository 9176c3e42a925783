use Rattle.std.proofs.Common.{◌≡◌, ◌++◌, map, take}
use Rattle.std.specs.List.{filter}
use Rattle.node_model.specs.Names.{is_remote}
use Rattle.node_model.specs.Opening.{direct_side}
use Rattle.node_ports.proofs.opening.add_direct.Given as goal

abbrev pub invariant-loop-bearer : goal.invariant-loop-bearer
invariant-loop-bearer l = l.sides.items ≡ l.initial.sides.items ++ map (direct_side l.settings l.row.goal) (filter (λ b. is_remote l.row.remote b.remote) (take l.bearer-index l.bearers))
