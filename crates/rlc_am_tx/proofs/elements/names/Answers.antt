use Rattle.std.proofs.Common.{refl, arith}
use Rattle.std.proofs.lemmas.Bool.{false≢true}
use Rattle.rlc_status.specs.Says.{NamesNumber}
use Rattle.rlc_am_tx.proofs.Nacks.{no_nack, fits_at, some_at, none_all, none_next}
use Rattle.rlc_am_tx.proofs.elements.names.Goals as goal

pub names_number-requires-clause-fits : goal.names_number-requires-clause-fits
names_number-requires-clause-fits c = fits_at c.args.size c.args.nacks.now c.loop-nack.nack-index no_nack c.requires.fits (omega arith)

pub returns-then-names_number : goal.returns-then-names_number
returns-then-names_number c = (λ is. some_at (λ e. NamesNumber c.args.size c.args.ack e c.args.number) c.args.nacks.now c.loop-nack.nack-index no_nack (omega arith) (c.if-names_number.ensures.0 refl), λ some. refl)

pub loop-nack-preserved : goal.loop-nack-preserved
loop-nack-preserved c = none_next (λ e. NamesNumber c.args.size c.args.ack e c.args.number) c.args.nacks.now c.loop-nack.nack-index (omega arith) c.loop-nack.invariant (λ names. false≢true (c.if-names_number.ensures.1 names))

pub returns : goal.returns
returns c = (λ is. absurd (false≢true is), λ some. absurd (none_all (λ e. NamesNumber c.args.size c.args.ack e c.args.number) c.args.nacks.now c.loop-nack.nack-index (omega arith) c.loop-nack.invariant some))
