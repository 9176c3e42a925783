use Rattle.std.proofs.Common.{take}
use Rattle.rlc_status.specs.Says.{Some_has}
use Rattle.rlc_am_tx.specs.Elements.{IsWrong}
use Rattle.rlc_am_tx.proofs.beyond.any_wrong.Given as goal

abbrev pub invariant-loop-nack : goal.invariant-loop-nack
invariant-loop-nack l = Some_has (IsWrong l.size l.buffer l.ack) (take l.nack-index l.nacks) → ⊥
