use Rattle.std.proofs.Common.{◌≡◌, ◌++◌, map, take}
use Rattle.relay_core.specs.Opening.{new_uu}
use Rattle.relay_core.proofs.opening.add_uus.Given as goal

abbrev pub invariant-loop-uu : goal.invariant-loop-uu
invariant-loop-uu l = l.ports.items ≡ l.initial.ports.items ++ map new_uu (take l.uu-index l.uus)
