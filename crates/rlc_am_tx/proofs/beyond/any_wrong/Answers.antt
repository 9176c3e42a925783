use Rattle.std.proofs.Common.{refl, arith}
use Rattle.std.proofs.lemmas.Bool.{false≢true}
use Rattle.rlc_am_tx.specs.Elements.{IsWrong}
use Rattle.rlc_am_tx.proofs.Nacks.{no_nack, fits_at, some_at, none_all, none_next}
use Rattle.rlc_am_tx.proofs.beyond.any_wrong.Goals as goal

pub is_wrong-requires-clause-fits : goal.is_wrong-requires-clause-fits
is_wrong-requires-clause-fits c = fits_at c.args.size c.args.nacks.now c.loop-nack.nack-index no_nack c.requires.fits (omega arith)

pub returns-then-is_wrong : goal.returns-then-is_wrong
returns-then-is_wrong c = (λ is. some_at (IsWrong c.args.size c.args.buffer.now c.args.ack) c.args.nacks.now c.loop-nack.nack-index no_nack (omega arith) (c.if-is_wrong.ensures.0 refl), λ some. refl)

pub loop-nack-preserved : goal.loop-nack-preserved
loop-nack-preserved c = none_next (IsWrong c.args.size c.args.buffer.now c.args.ack) c.args.nacks.now c.loop-nack.nack-index (omega arith) c.loop-nack.invariant (λ wrong. false≢true (c.if-is_wrong.ensures.1 wrong))

pub returns : goal.returns
returns c = (λ is. absurd (false≢true is), λ some. absurd (none_all (IsWrong c.args.size c.args.buffer.now c.args.ack) c.args.nacks.now c.loop-nack.nack-index (omega arith) c.loop-nack.invariant some))
