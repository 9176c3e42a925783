use Rattle.std.proofs.Common.{refl, List, Option, subst, arith}
use Rattle.rlc_model.specs.Tx.{Kept}
use Rattle.rlc_am_tx.specs.Buffer.{BearsIn}
use Rattle.rlc_am_tx.proofs.Waiting.{kept_bears}
use Rattle.rlc_am_tx.proofs.buffer.TxBuffer.bears.Goals as goal

pub returns-then-bears_one : goal.returns-then-bears_one
returns-then-bears_one c = (
  λ is.
      subst (λ (l : List (Option Kept)). BearsIn l c.args.ue) c.self.view_is
      (kept_bears c.self.inside.next_ack c.self.inside.kept_sdus.items c.args.ue c.loop-index.index c.index.result.now c.index.ensures (omega arith) (c.if-bears_one.ensures.0 refl)),
  λ b. refl,
)
