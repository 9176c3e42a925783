use Rattle.std.proofs.Common.{take}
use Rattle.rlc_status.specs.Says.{Some_has, NamesNumber}
use Rattle.rlc_am_tx.proofs.elements.names.Given as goal

abbrev pub invariant-loop-nack : goal.invariant-loop-nack
invariant-loop-nack l = Some_has (λ e. NamesNumber l.size l.ack e l.number) (take l.nack-index l.nacks) → ⊥
