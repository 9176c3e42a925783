use Rattle.chain_core.proofs.Ends.{no_relay}
use Rattle.chain_core.proofs.nodes.place_of_side.Goals as goal

pub returns-in-High-Pc5-clause-none : goal.returns-in-High-Pc5-clause-none
returns-in-High-Pc5-clause-none c = rw (c.in-High-Pc5.is-0, c.in-High-Pc5.is-1) (no_relay c.args.ends.now c.requires)

pub returns-in-High-Pc5-2-clause-none : goal.returns-in-High-Pc5-2-clause-none
returns-in-High-Pc5-2-clause-none c = rw (c.in-High-Pc5.is-0, c.in-High-Pc5.is-1) (no_relay c.args.ends.now c.requires)
