use Rattle.std.proofs.Common.{◌+◌, refl, ◌∙◌, arith}
use Rattle.rlc_status.specs.Says.{Some_has, NamesPlace}
use Rattle.rlc_am_tx.specs.Naming.{CanNameOne}
use Rattle.rlc_am_tx.proofs.Failing.{on_err}
use Rattle.rlc_am_tx.proofs.Nacks.{no_nack, fits_at, passes_at}
use Rattle.rlc_am_tx.proofs.Named.{elements_begin, elements_same, elements_next, elements_can, elements_all, forgotten_fit}
use Rattle.rlc_am_tx.proofs.naming.name_all.Goals as goal

pub loop-nack-init : goal.loop-nack-init
loop-nack-init c = record {
  all = elements_begin c.args.kept_sdus.now.items c.args.base c.args.size c.args.ack c.args.nacks.now c.args.names.now.items (forgotten_fit c.args.kept_sdus.now.items c.args.names.now.items c.requires.forgotten);
  long = refl;
  rest = λ i ge. c.requires.forgotten i;
}

pub greatest-requires-clause-sn : goal.greatest-requires-clause-sn
greatest-requires-clause-sn c = (fits_at c.args.size c.args.nacks.now c.loop-nack.nack-index no_nack c.requires.fits (omega arith)).sn

pub loop-nack-preserved-in_default : goal.loop-nack-preserved-in_default
loop-nack-preserved-in_default c = record {
  all = elements_same c.args.kept_sdus.now.items c.args.base c.args.size c.args.ack c.args.nacks.now c.args.names.now.items c.loop-nack.nack-index (omega arith) c.loop-nack.names.items c.loop-nack.invariant.all c.in_default.ensures.none;
  long = c.loop-nack.invariant.long;
  rest = c.loop-nack.invariant.rest;
}

pub name_numbers-requires-clause-small : goal.name_numbers-requires-clause-small
name_numbers-requires-clause-small c = omega (arith, c.requires.small, passes_at c.args.size c.args.ack c.args.nacks.now c.loop-nack.nack-index c.in-Some.first (omega arith) c.requires.below c.in-Some.ensures.some)

pub name_numbers-requires-clause-kept_sdus : goal.name_numbers-requires-clause-kept_sdus
name_numbers-requires-clause-kept_sdus c = omega (arith, c.requires.kept_sdus, passes_at c.args.size c.args.ack c.args.nacks.now c.loop-nack.nack-index c.in-Some.first (omega arith) c.requires.below c.in-Some.ensures.some)

pub name_numbers-requires-clause-names : goal.name_numbers-requires-clause-names
name_numbers-requires-clause-names c = omega (arith, c.requires.names, c.loop-nack.invariant.long, passes_at c.args.size c.args.ack c.args.nacks.now c.loop-nack.nack-index c.in-Some.first (omega arith) c.requires.below c.in-Some.ensures.some)

pub returns-in_err-name_numbers-clause-rest : goal.returns-in_err-name_numbers-clause-rest
returns-in_err-name_numbers-clause-rest c i ge =
    let le = passes_at c.args.size c.args.ack c.args.nacks.now c.loop-nack.nack-index c.in-Some.first (omega arith) c.requires.below c.in-Some.ensures.some in
    c.name_numbers.ensures.rest i (omega (arith, le, ge)) ∙ c.loop-nack.invariant.rest i ge

pub returns-in_err-name_numbers-clause-err : goal.returns-in_err-name_numbers-clause-err
returns-in_err-name_numbers-clause-err c =
    on_err c.from_residual.result (CanNameOne c.args.kept_sdus.now.items (λ i p. Some_has (λ e. NamesPlace c.args.size c.args.ack e (c.args.base + i) p) c.args.nacks.now) c.args.names.now.items)
    (elements_can c.args.kept_sdus.now.items c.args.base c.args.size c.args.ack c.args.nacks.now c.args.names.now.items c.loop-nack.nack-index (omega arith) c.loop-nack.names.items c.loop-nack.invariant.all c.in-Some.first c.in-Some.ensures.some c.in_err-name_numbers.ensures.err)

pub loop-nack-preserved : goal.loop-nack-preserved
loop-nack-preserved c =
    let le = passes_at c.args.size c.args.ack c.args.nacks.now c.loop-nack.nack-index c.in-Some.first (omega arith) c.requires.below c.in-Some.ensures.some in
    record {
      all = elements_next c.args.kept_sdus.now.items c.args.base c.args.size c.args.ack c.args.nacks.now c.args.names.now.items c.loop-nack.nack-index (omega arith) c.loop-nack.names.items c.loop-nack.invariant.all c.in-Some.first c.name_numbers.new.names.items c.in-Some.ensures.some c.in_ok-name_numbers.ensures.ok;
      long = c.name_numbers.ensures.long ∙ c.loop-nack.invariant.long;
      rest = λ i ge. c.name_numbers.ensures.rest i (omega (arith, le, ge)) ∙ c.loop-nack.invariant.rest i ge;
    }

pub returns-clause-ok : goal.returns-clause-ok
returns-clause-ok c = elements_all c.args.kept_sdus.now.items c.args.base c.args.size c.args.ack c.args.nacks.now c.args.names.now.items c.loop-nack.nack-index c.loop-nack.names.items (omega arith) c.loop-nack.invariant.all
