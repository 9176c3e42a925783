use Rattle.std.proofs.Common.{List, ℕ, sym, subst, Contains}
use Rattle.rlc_am_rx.specs.Polling.{Drops}
use Rattle.rlc_am_rx.proofs.Numbers.{contains_head, contains_tail, pops_drops, nothing_drops}
use Rattle.rlc_am_rx.proofs.polling.DelayedPolls.take_below.Goals as goal

pub loop-some-preserved : goal.loop-some-preserved
loop-some-preserved c =
    let pops = c.loop-some-test.ensures.pops in
    let i = c.loop-some.invariant in
    let new = c.pop_below.new.self in
    record {
      drops = λ rest d. i.drops rest (subst (λ (l : List ℕ). Drops l c.args.until rest) (sym pops.2)
          (pops_drops pops.0 c.args.until new rest pops.1 d));
      kept = λ k h. i.kept k (subst (λ (l : List ℕ). Contains l k) (sym pops.2) (contains_tail pops.0 k new h));
      some = (pops.0, i.kept pops.0 (subst (λ (l : List ℕ). Contains l pops.0) (sym pops.2) (contains_head pops.0 new)), pops.1);
    }

pub returns-clause-drops : goal.returns-clause-drops
returns-clause-drops c =
    let stays = c.loop-some-test.ensures.pops in
    subst (λ (l : List ℕ). Drops c.args.self.now c.args.until l) (sym stays.0)
    (c.loop-some.invariant.drops c.loop-some.self (nothing_drops c.args.until c.loop-some.self stays.1))
