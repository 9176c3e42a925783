use Rattle.std.proofs.Common.{◌≡◌, inl, inr, ◌+◌, ◌<◌, true, length, set, Option, None, sym, ◌∙◌, ap, subst, arith, get_or-set_same, get_or-set_other}
use Rattle.std.specs.Ordering.{nat_cmp}
use Rattle.std.specs.BTreeSet.{contains}
use Rattle.std.proofs.lemmas.Bool.{cases_eq}
use Rattle.std.proofs.lemmas.List.{length-set, get_or_default}
use Rattle.rlc_model.specs.Tx.{Kept, at}
use Rattle.rlc_am_tx.specs.declared.naming.Naming.{Naming}
use Rattle.rlc_am_tx.specs.Acknowledging.{settled, MayWait}
use Rattle.rlc_am_tx.specs.Buffer.{IsPending}
use Rattle.rlc_am_tx.specs.Naming.{not_named, named_at, IsNamingOf}
use Rattle.rlc_am_tx.proofs.Waiting.{waits_next, waits_same}
use Rattle.rlc_am_tx.proofs.acknowledging.settle_all.Goals as goal

pub index_mut-requires : goal.index_mut-requires
index_mut-requires c = omega (arith, c.requires.kept_sdus, c.loop-index.invariant.long)

pub settle-requires : goal.settle-requires
settle-requires c =
    let i = c.loop-index.index in
    let kept_sdus = c.loop-index.kept_sdus.items in
    let names = c.loop-index.names.items in
    let kept_sdu : c.index_mut.result.now ≡ at c.args.kept_sdus.now.items i = c.index_mut.ensures.value ∙ sym (get_or_default kept_sdus i None c.index_mut.result.now (omega (arith, c.requires.kept_sdus, c.loop-index.invariant.long))) ∙ c.loop-index.invariant.rest i (omega arith) in
    let naming : c.index_mut-in-loop-index.result.now ≡ named_at c.args.names.now.items i = c.index_mut-in-loop-index.ensures.value ∙ sym (get_or_default names i not_named c.index_mut-in-loop-index.result.now (omega (arith, c.requires.names, c.loop-index.invariant.same))) ∙ c.loop-index.invariant.others i (omega arith) in
    record {
      fits = subst (λ (o : Option Kept). IsNamingOf o c.index_mut-in-loop-index.result.now) (sym kept_sdu) (subst (IsNamingOf (at c.args.kept_sdus.now.items i)) (sym naming) (c.requires.fits i));
      waits = λ waits. subst (λ (o : Option Kept). MayWait o c.index_mut-in-loop-index.result.now) (sym kept_sdu) (subst (MayWait (at c.args.kept_sdus.now.items i)) (sym naming) (c.requires.waits i c.loop-index-test.true ((c.loop-index.invariant.waiting (c.args.base + i)).0 waits).0));
    }

pub loop-index-preserved : goal.loop-index-preserved
loop-index-preserved c =
    let i = c.loop-index.index in
    let inv = c.loop-index.invariant in
    let kept_sdus = c.loop-index.kept_sdus.items in
    let names = c.loop-index.names.items in
    let in_kept : i < length kept_sdus = omega (arith, c.requires.kept_sdus, inv.long) in
    let in_names : i < length names = omega (arith, c.requires.names, inv.same) in
    let kept_sdu : c.index_mut.result.now ≡ at c.args.kept_sdus.now.items i = c.index_mut.ensures.value ∙ sym (get_or_default kept_sdus i None c.index_mut.result.now in_kept) ∙ inv.rest i (omega arith) in
    let naming : c.index_mut-in-loop-index.result.now ≡ named_at c.args.names.now.items i = c.index_mut-in-loop-index.ensures.value ∙ sym (get_or_default names i not_named c.index_mut-in-loop-index.result.now in_names) ∙ inv.others i (omega arith) in
    let o = c.settle.new.kept_sdu in
    let x = c.settle.new.naming in
    let o_is : o ≡ settled c.args.threshold (named_at c.args.names.now.items i) (at c.args.kept_sdus.now.items i) = c.settle.ensures.kept_sdu ∙ ap (λ (p : Option Kept). settled c.args.threshold c.index_mut-in-loop-index.result.now p) kept_sdu ∙ ap (λ (y : Naming). settled c.args.threshold y (at c.args.kept_sdus.now.items i)) naming in
    record {
      done = λ j lt. elim (cases_eq j i) [
        | inl eq ↦ ap (at (set kept_sdus i o)) eq ∙ get_or-set_same kept_sdus i o None in_kept ∙ o_is ∙ sym (ap (λ m. settled c.args.threshold (named_at c.args.names.now.items m) (at c.args.kept_sdus.now.items m)) eq)
        | inr ne ↦ get_or-set_other kept_sdus i j o None ne ∙ inv.done j (omega (arith, lt, ne))
      ];
      rest = λ j ge. get_or-set_other kept_sdus i j o None (λ e. omega (arith, ge, e)) ∙ inv.rest j (omega (arith, ge));
      long = length-set kept_sdus i o ∙ inv.long;
      forgotten = λ j lt. elim (cases_eq j i) [
        | inl eq ↦ ap (named_at (set names i x)) eq ∙ get_or-set_same names i x not_named in_names ∙ c.settle.ensures.naming
        | inr ne ↦ get_or-set_other names i j x not_named ne ∙ inv.forgotten j (omega (arith, lt, ne))
      ];
      others = λ j ge. get_or-set_other names i j x not_named (λ e. omega (arith, ge, e)) ∙ inv.others j (omega (arith, ge));
      same = length-set names i x ∙ inv.same;
      waiting = waits_next (set kept_sdus i o) i c.args.base (λ m. contains nat_cmp c.args.waiting.now m ≡ true) (λ m. contains nat_cmp c.loop-index.waiting m ≡ true) (λ m. contains nat_cmp c.settle.new.waiting m ≡ true) o
          (sym (get_or-set_same kept_sdus i o None in_kept))
          (λ n. let w = inv.waiting n in (
            λ waits. let h = w.0 waits in (h.0, λ j lt e. subst IsPending (sym (get_or-set_other kept_sdus i j o None (λ eq. omega (arith, lt, eq)))) (h.1 j lt e)),
            λ h. w.1 (h.0, λ j lt e. subst IsPending (get_or-set_other kept_sdus i j o None (λ eq. omega (arith, lt, eq))) (h.1 j lt e)),
          ))
          c.settle.ensures.waiting;
    }

pub returns-clause-waiting : goal.returns-clause-waiting
returns-clause-waiting c n =
    let w = c.loop-index.invariant.waiting n in
    let same : c.loop-index.index ≡ c.args.count = omega arith in
    (λ h. ((w.0 h).0, waits_same c.loop-index.kept_sdus.items c.loop-index.index c.args.count c.args.base n same (w.0 h).1), λ h. w.1 (h.0, waits_same c.loop-index.kept_sdus.items c.args.count c.loop-index.index c.args.base n (sym same) h.1))
