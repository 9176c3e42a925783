use Rattle.std.proofs.Common.{◌≡◌, Some, take, flat_map}
use Rattle.std.specs.List.{filter_map}
use Rattle.node_model.specs.Tables.{keys_of_row}
use Rattle.chain_core.specs.Chain.{total_of}
use Rattle.chain_core.proofs.chain.Chain.totals.Given as goal

abbrev pub invariant-loop-row : goal.invariant-loop-row
invariant-loop-row l = l.totals ≡ filter_map (λ key. Some (total_of l.self key)) (flat_map keys_of_row (take l.row-index l.self.tables.bearers))
