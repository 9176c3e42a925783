use Rattle.std.proofs.Common.{take}
use Rattle.std.specs.List.{AllByRecursion}
use Rattle.relay_core.specs.Opening.{HasChannels}
use Rattle.relay_tests.proofs.premises.have_channels.Given as goal

abbrev pub invariant-loop-row : goal.invariant-loop-row
invariant-loop-row l = AllByRecursion (HasChannels l.tables) (take l.row-index l.row-items)
