use Rattle.std.proofs.Common.{◌≡◌, map, take}
use Rattle.chain_core.proofs.Opening.{new_end}
use Rattle.chain_core.proofs.nodes.Nodes.new.Given as goal

abbrev pub invariant-loop-row : goal.invariant-loop-row
invariant-loop-row l = l.ends.items ≡ map (new_end l.fn.tables) (take l.row-index l.fn.tables.remotes)
