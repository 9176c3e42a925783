use Rattle.std.proofs.Common.{◌≡◌, ◌++◌}
use Rattle.chain_core.specs.Told.{ups}
use Rattle.chain_core.proofs.telling.push_ups.Given as goal

abbrev pub invariant-loop-sdu : goal.invariant-loop-sdu
invariant-loop-sdu l = l.log ++ ups l.key l.sdu-iterator.rest.items ≡ l.fn.log ++ ups l.key l.fn.sdus
