use Rattle.std.proofs.Common.{◌≡◌, drop}
use Rattle.node_bearers.specs.Calls.{confirm_each}
use Rattle.node_bearers.proofs.bearers.Bearers.confirm.Given as goal

abbrev pub invariant-loop-tag : goal.invariant-loop-tag
invariant-loop-tag l = confirm_each l.self (drop l.tag-index l.tags) ≡ confirm_each l.initial.self l.tags
