use Rattle.std.proofs.Common.{◌≡◌, ◌++◌, take}
use Rattle.chain_model.specs.Telling.{marked}
use Rattle.chain_core.proofs.telling.push_marked.Given as goal

abbrev pub invariant-loop-number : goal.invariant-loop-number
invariant-loop-number l = l.log ≡ l.fn.log ++ marked l.port l.way (take l.number-index l.marks)
