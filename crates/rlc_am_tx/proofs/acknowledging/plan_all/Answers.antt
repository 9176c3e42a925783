use Rattle.std.proofs.Common.{◌≡◌, inl, inr, ◌+◌, ◌++◌, true, List, take, Option, None, is_some, sym, ◌∙◌, ap, subst, arith}
use Rattle.std.specs.Option.{option_to_list}
use Rattle.std.specs.Ordering.{nat_cmp}
use Rattle.std.specs.BTreeSet.{contains}
use Rattle.std.proofs.lemmas.List.{get_or_default}
use Rattle.link_base.specs.declared.rlc_words.Tag.{Tag}
use Rattle.rlc_model.specs.Tx.{Kept, at}
use Rattle.rlc_am_tx.specs.declared.naming.Naming.{Naming}
use Rattle.rlc_am_tx.specs.Acknowledging.{confirmed_tag, is_mark, marks_at, told_tags, AreMarks, GrowsOne, GrowsOneOf}
use Rattle.rlc_am_tx.specs.Naming.{not_named, named_at, IsNamingOf}
use Rattle.rlc_am_tx.proofs.Failing.{on_err}
use Rattle.rlc_am_tx.proofs.Told.{told_more, marks_begin, marks_next}
use Rattle.rlc_am_tx.proofs.Waiting.{enters_next, enters_only, enters_more}
use Rattle.rlc_am_tx.proofs.acknowledging.plan_all.Goals as goal

pub loop-index-init : goal.loop-index-init
loop-index-init c = record {
  tags = c.requires.no_tags;
  marks = subst (AreMarks c.args.threshold c.args.base c.args.kept_sdus.now.items c.args.names.now.items 0) (sym c.requires.no_marks) (marks_begin c.args.threshold c.args.base c.args.kept_sdus.now.items c.args.names.now.items);
  enters = λ n e. absurd (omega (arith, e.1));
  kept = λ n is. is;
  only = λ n is. inl is;
}

pub plan_one-requires : goal.plan_one-requires
plan_one-requires c =
    let i = c.loop-index.index in
    let kept_sdus = c.args.kept_sdus.now.items in
    let names = c.args.names.now.items in
    let kept_sdu : c.index.result.now ≡ at kept_sdus i = c.index.ensures ∙ sym (get_or_default kept_sdus i None c.index.result.now (omega (arith, c.requires.kept_sdus))) in
    let naming : c.index-in-loop-index.result.now ≡ named_at names i = c.index-in-loop-index.ensures ∙ sym (get_or_default names i not_named c.index-in-loop-index.result.now (omega (arith, c.requires.names))) in
    subst (λ (o : Option Kept). IsNamingOf o c.index-in-loop-index.result.now) (sym kept_sdu) (subst (IsNamingOf (at kept_sdus i)) (sym naming) (c.requires.fits i))

pub returns-in_err-plan_one-clause-kept : goal.returns-in_err-plan_one-clause-kept
returns-in_err-plan_one-clause-kept c n is = c.plan_one.ensures.kept n (c.loop-index.invariant.kept n is)

pub returns-in_err-plan_one-clause-only : goal.returns-in_err-plan_one-clause-only
returns-in_err-plan_one-clause-only c n is =
    let i = c.loop-index.index in
    let kept_sdus = c.args.kept_sdus.now.items in
    let names = c.args.names.now.items in
    let kept_sdu : c.index.result.now ≡ at kept_sdus i = c.index.ensures ∙ sym (get_or_default kept_sdus i None c.index.result.now (omega (arith, c.requires.kept_sdus))) in
    let naming : c.index-in-loop-index.result.now ≡ named_at names i = c.index-in-loop-index.ensures ∙ sym (get_or_default names i not_named c.index-in-loop-index.result.now (omega (arith, c.requires.names))) in
    elim (enters_only kept_sdus names i c.args.base c.index.result.now c.index-in-loop-index.result.now kept_sdu naming (λ m. contains nat_cmp c.args.waiting.now m ≡ true) (λ m. contains nat_cmp c.loop-index.waiting m ≡ true) (λ m. contains nat_cmp c.plan_one.new.waiting m ≡ true) c.loop-index.invariant.only c.plan_one.ensures.only n is) [
      | inl old ↦ inl old
      | inr e ↦ inr (enters_more kept_sdus names (i + 1) c.args.count c.args.base n (omega arith) e)
    ]

pub returns-in_err-plan_one-clause-err : goal.returns-in_err-plan_one-clause-err
returns-in_err-plan_one-clause-err c =
    let i = c.loop-index.index in
    let kept_sdus = c.args.kept_sdus.now.items in
    let names = c.args.names.now.items in
    let kept_sdu : c.index.result.now ≡ at kept_sdus i = c.index.ensures ∙ sym (get_or_default kept_sdus i None c.index.result.now (omega (arith, c.requires.kept_sdus))) in
    let naming : c.index-in-loop-index.result.now ≡ named_at names i = c.index-in-loop-index.ensures ∙ sym (get_or_default names i not_named c.index-in-loop-index.result.now (omega (arith, c.requires.names))) in
    on_err c.from_residual.result (GrowsOneOf c.args.threshold kept_sdus names c.args.count)
    (i, c.loop-index-test.true, subst (λ (o : Option Kept). GrowsOne c.args.threshold o (named_at names i)) kept_sdu (subst (GrowsOne c.args.threshold c.index.result.now) naming c.in_err-plan_one.ensures.err))

pub loop-index-preserved : goal.loop-index-preserved
loop-index-preserved c =
    let i = c.loop-index.index in
    let kept_sdus = c.args.kept_sdus.now.items in
    let names = c.args.names.now.items in
    let kept_sdu : c.index.result.now ≡ at kept_sdus i = c.index.ensures ∙ sym (get_or_default kept_sdus i None c.index.result.now (omega (arith, c.requires.kept_sdus))) in
    let naming : c.index-in-loop-index.result.now ≡ named_at names i = c.index-in-loop-index.ensures ∙ sym (get_or_default names i not_named c.index-in-loop-index.result.now (omega (arith, c.requires.names))) in
    let tag : confirmed_tag c.index-in-loop-index.result.now.named c.index.result.now ≡ confirmed_tag (named_at names i).named (at kept_sdus i) = ap (λ (o : Option Kept). confirmed_tag c.index-in-loop-index.result.now.named o) kept_sdu ∙ ap (λ (x : Naming). confirmed_tag x.named (at kept_sdus i)) naming in
    let mark : is_mark c.args.threshold c.index.result.now c.index-in-loop-index.result.now.named (is_some c.index-in-loop-index.result.now.pending) ≡ marks_at c.args.threshold kept_sdus names i =
    ap (λ (o : Option Kept). is_mark c.args.threshold o c.index-in-loop-index.result.now.named (is_some c.index-in-loop-index.result.now.pending)) kept_sdu ∙ ap (λ (x : Naming). is_mark c.args.threshold (at kept_sdus i) x.named (is_some x.pending)) naming in
    record {
      tags = c.in_ok-plan_one.ensures.tags ∙ ap (λ (l : List Tag). l ++ option_to_list (confirmed_tag c.index-in-loop-index.result.now.named c.index.result.now)) c.loop-index.invariant.tags ∙ ap (λ (o : Option Tag). told_tags (take i kept_sdus) (take i names) ++ option_to_list o) tag ∙ sym (told_more kept_sdus names i (omega (arith, c.requires.kept_sdus)) (omega (arith, c.requires.names)));
      marks = subst (AreMarks c.args.threshold c.args.base kept_sdus names (i + 1)) (sym c.in_ok-plan_one.ensures.marks)
          (marks_next c.args.threshold c.args.base kept_sdus names i c.loop-index.told.marks.items (is_mark c.args.threshold c.index.result.now c.index-in-loop-index.result.now.named (is_some c.index-in-loop-index.result.now.pending)) c.loop-index.invariant.marks mark);
      enters = enters_next kept_sdus names i c.args.base c.index.result.now c.index-in-loop-index.result.now kept_sdu naming (λ m. contains nat_cmp c.loop-index.waiting m ≡ true) (λ m. contains nat_cmp c.plan_one.new.waiting m ≡ true) c.loop-index.invariant.enters c.plan_one.ensures.kept c.in_ok-plan_one.ensures.enters;
      kept = λ n is. c.plan_one.ensures.kept n (c.loop-index.invariant.kept n is);
      only = enters_only kept_sdus names i c.args.base c.index.result.now c.index-in-loop-index.result.now kept_sdu naming (λ m. contains nat_cmp c.args.waiting.now m ≡ true) (λ m. contains nat_cmp c.loop-index.waiting m ≡ true) (λ m. contains nat_cmp c.plan_one.new.waiting m ≡ true) c.loop-index.invariant.only c.plan_one.ensures.only;
    }

pub returns-clause-marks : goal.returns-clause-marks
returns-clause-marks c =
    let same : c.loop-index.index ≡ c.args.count = omega arith in
    subst (λ n. AreMarks c.args.threshold c.args.base c.args.kept_sdus.now.items c.args.names.now.items n c.loop-index.told.marks.items) same c.loop-index.invariant.marks

pub returns-clause-enters : goal.returns-clause-enters
returns-clause-enters c n e = c.loop-index.invariant.enters n (enters_more c.args.kept_sdus.now.items c.args.names.now.items c.args.count c.loop-index.index c.args.base n (omega arith) e)

pub returns-clause-kept : goal.returns-clause-kept
returns-clause-kept c = c.loop-index.invariant.kept

pub returns-clause-only : goal.returns-clause-only
returns-clause-only c n is = elim (c.loop-index.invariant.only n is) [
  | inl old ↦ inl old
  | inr e ↦ inr (enters_more c.args.kept_sdus.now.items c.args.names.now.items c.loop-index.index c.args.count c.args.base n (omega arith) e)
]
