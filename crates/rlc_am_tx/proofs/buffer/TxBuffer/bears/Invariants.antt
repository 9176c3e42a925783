use Rattle.std.proofs.Common.{ℕ, ◌<◌}
use Rattle.rlc_model.specs.Tx.{at}
use Rattle.rlc_am_tx.specs.Buffer.{BearsOne}
use Rattle.rlc_am_tx.proofs.buffer.TxBuffer.bears.Given as goal

abbrev pub invariant-loop-index : goal.invariant-loop-index
invariant-loop-index l = (i : ℕ) → i < l.index → BearsOne (at l.self-inside.kept_sdus.items i) l.ue → ⊥
