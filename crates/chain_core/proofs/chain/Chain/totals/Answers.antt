use Rattle.std.proofs.Common.{◌≡◌, ◌<◌, ◌++◌, [], ◌∷◌, Some, length, get_or, rules}
use Rattle.link_base.specs.declared.names.Way.TheVariants.{Ul, Dl}
use Rattle.node_model.specs.Names.{key_of}
use Rattle.chain_core.specs.Chain.{total_of}
use Rattle.chain_core.proofs.Told.{no_row, row_told}
use Rattle.chain_core.proofs.chain.Chain.totals.Goals as goal

pub loop-row-preserved : goal.loop-row-preserved
loop-row-preserved c =
    let l = c.loop-row in
    let d = c.args.self.now in
    let row = get_or d.tables.bearers l.row-index no_row in
    let within : l.row-index < length d.tables.bearers = search rules in
    let first : c.push.new.self ≡ l.totals ++ total_of d (key_of row.remote row.drb Ul) ∷ [] = search rules in
    let second : c.push-in-loop-row.new.self ≡ c.push.new.self ++ total_of d (key_of row.remote row.drb Dl) ∷ [] = search rules in
    row_told (λ key. Some (total_of d key)) d.tables.bearers l.row-index no_row [] l.totals c.push.new.self c.push-in-loop-row.new.self within l.invariant first second
