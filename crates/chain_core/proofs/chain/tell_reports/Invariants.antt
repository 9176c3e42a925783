use Rattle.std.proofs.Common.{◌≡◌, ◌++◌, take, flat_map}
use Rattle.std.specs.List.{filter_map}
use Rattle.node_model.specs.Tables.{keys_of_row}
use Rattle.chain_model.specs.Steps.{reporting}
use Rattle.chain_core.proofs.chain.tell_reports.Given as goal

abbrev pub invariant-loop-row : goal.invariant-loop-row
invariant-loop-row l = l.log ≡ l.fn.log ++ filter_map (reporting l.given) (flat_map keys_of_row (take l.row-index l.bearers))
