use Rattle.std.proofs.Common.{◌≡◌, inl, ◌+◌, ◌-◌, ◌<◌, length, Option, None, sym, ◌∙◌, subst, arith, get_or-set_other}
use Rattle.std.proofs.lemmas.List.{length-set, get_or_default}
use Rattle.rlc_model.specs.Tx.{Kept, at}
use Rattle.rlc_am_tx.specs.declared.naming.Naming.{Naming}
use Rattle.rlc_am_tx.specs.Elements.{HasPlace, HoldsNumber, HoldsPlace}
use Rattle.rlc_am_tx.specs.Naming.{not_named, named_at, IsNamingOf, NamesMore, CanName, CanNameOne}
use Rattle.rlc_am_tx.proofs.Failing.{on_err}
use Rattle.rlc_am_tx.proofs.Named.{below_next, can_name_one}
use Rattle.rlc_am_tx.proofs.naming.name_numbers.Goals as goal

pub name-requires : goal.name-requires
name-requires c =
    let i = c.loop-number.number - c.args.base in
    let kept_sdu : c.index.result.now ≡ at c.args.kept_sdus.now.items i = c.index.ensures ∙ sym (get_or_default c.args.kept_sdus.now.items i None c.index.result.now (omega arith)) in
    let naming : c.index_mut.result.now ≡ named_at c.loop-number.names.items i = c.index_mut.ensures.value ∙ sym (get_or_default c.loop-number.names.items i not_named c.index_mut.result.now (omega (arith, c.loop-number.invariant.long))) in
    subst (λ (o : Option Kept). IsNamingOf o c.index_mut.result.now) (sym kept_sdu) (subst (IsNamingOf (at c.args.kept_sdus.now.items i)) (sym naming) (c.loop-number.invariant.below.fits i))

pub returns-in_err-name-clause-err : goal.returns-in_err-name-clause-err
returns-in_err-name-clause-err c =
    let i = c.loop-number.number - c.args.base in
    let kept_sdu : c.index.result.now ≡ at c.args.kept_sdus.now.items i = c.index.ensures ∙ sym (get_or_default c.args.kept_sdus.now.items i None c.index.result.now (omega arith)) in
    let naming : c.index_mut.result.now ≡ named_at c.loop-number.names.items i = c.index_mut.ensures.value ∙ sym (get_or_default c.loop-number.names.items i not_named c.index_mut.result.now (omega (arith, c.loop-number.invariant.long))) in
    on_err c.from_residual.result (CanNameOne c.args.kept_sdus.now.items (λ j p. HoldsNumber c.args.nack.now c.args.first (c.args.base + j) × HoldsPlace c.args.nack.now c.args.first (c.args.base + j) p) c.args.names.now.items)
    (can_name_one c.args.kept_sdus.now.items c.args.base c.args.first c.args.nack.now c.args.names.now.items c.loop-number.number c.loop-number.names.items (HasPlace c.places_of-places.result)
    (omega (arith, c.max-number.ensures)) (omega (arith, c.max-number.ensures)) (omega (arith, c.count_of.ensures.value)) c.loop-number.invariant.below c.places_of-places.ensures
    (subst (λ (o : Option Kept). CanName o (HasPlace c.places_of-places.result) (named_at c.loop-number.names.items i)) kept_sdu (subst (CanName c.index.result.now (HasPlace c.places_of-places.result)) naming c.in_err-name.ensures.err)))

pub loop-number-preserved : goal.loop-number-preserved
loop-number-preserved c =
    let n = c.loop-number.number in
    let i = n - c.args.base in
    let cur = c.loop-number.names.items in
    let x = c.name.new.naming in
    let lt : i < length cur = omega (arith, c.loop-number.invariant.long) in
    let kept_sdu : c.index.result.now ≡ at c.args.kept_sdus.now.items i = c.index.ensures ∙ sym (get_or_default c.args.kept_sdus.now.items i None c.index.result.now (omega arith)) in
    let naming : c.index_mut.result.now ≡ named_at cur i = c.index_mut.ensures.value ∙ sym (get_or_default cur i not_named c.index_mut.result.now lt) in
    record {
      near = inl (omega (arith, c.count_of.ensures.value));
      below = below_next c.args.kept_sdus.now.items c.args.base c.args.first c.args.nack.now c.args.names.now.items n cur x (HasPlace c.places_of-places.result)
          (omega (arith, c.max-number.ensures)) (omega (arith, c.max-number.ensures)) lt c.loop-number.invariant.below
          (subst (λ (o : Option Kept). IsNamingOf o x) kept_sdu c.in_ok-name.ensures.fine)
          c.in_ok-name.ensures.named
          (subst (λ (o : Option Kept). NamesMore o (HasPlace c.places_of-places.result) (named_at cur i) x) kept_sdu (subst (λ (y : Naming). NamesMore c.index.result.now (HasPlace c.places_of-places.result) y x) naming c.in_ok-name.ensures.names))
          c.places_of-places.ensures;
      long = length-set cur i x ∙ c.loop-number.invariant.long;
      rest = λ j ge. get_or-set_other cur i j x not_named (λ e. omega (arith, e, ge, c.max-number.ensures, c.count_of.ensures.value)) ∙ c.loop-number.invariant.rest j ge;
    }
