use Rattle.std.proofs.Common.{arith}
use Rattle.rlc_am_tx.proofs.naming.forget_all.Goals as goal

pub index_mut-requires : goal.index_mut-requires
index_mut-requires c = omega (arith, c.requires, c.loop-index.invariant.long)
