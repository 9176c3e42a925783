use Rattle.std.proofs.Common.{◌≡◌, true, None, sym, ◌∙◌, arith}
use Rattle.std.specs.Ordering.{nat_cmp}
use Rattle.std.specs.BTreeSet.{contains}
use Rattle.std.proofs.lemmas.List.{get_or_default}
use Rattle.rlc_am_tx.proofs.Waiting.{waits_begin, waits_next, waits_same}
use Rattle.rlc_am_tx.proofs.acknowledging.leave_all.Goals as goal

pub loop-index-init : goal.loop-index-init
loop-index-init c n = waits_begin c.args.kept_sdus.now.items c.args.base (λ m. contains nat_cmp c.args.waiting.now m ≡ true) n

pub loop-index-preserved : goal.loop-index-preserved
loop-index-preserved c =
    let kept_sdus = c.args.kept_sdus.now.items in
    let i = c.loop-index.index in
    waits_next kept_sdus i c.args.base (λ m. contains nat_cmp c.args.waiting.now m ≡ true) (λ m. contains nat_cmp c.loop-index.waiting m ≡ true) (λ m. contains nat_cmp c.leave_idle.new.waiting m ≡ true) c.index.result.now
    (c.index.ensures ∙ sym (get_or_default kept_sdus i None c.index.result.now (omega (arith, c.requires.kept_sdus)))) c.loop-index.invariant c.leave_idle.ensures

pub returns : goal.returns
returns c n =
    let w = c.loop-index.invariant n in
    let same : c.loop-index.index ≡ c.args.count = omega arith in
    (λ h. ((w.0 h).0, waits_same c.args.kept_sdus.now.items c.loop-index.index c.args.count c.args.base n same (w.0 h).1), λ h. w.1 (h.0, waits_same c.args.kept_sdus.now.items c.args.count c.loop-index.index c.args.base n (sym same) h.1))
