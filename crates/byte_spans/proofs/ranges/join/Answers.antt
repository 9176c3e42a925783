use Rattle.std.proofs.Common.{◌≡◌, ◌∷◌, ◌++◌, length, get_or, take, drop, ap, sym, subst, arith}
use Rattle.byte_spans.specs.Ranges.{joined_with}
use Rattle.byte_spans.proofs.Order.{nowhere}
use Rattle.byte_spans.proofs.Counting.{counts_within}
use Rattle.byte_spans.proofs.Joining.{joining_more, joining_ends, none_beside}
use Rattle.byte_spans.proofs.ranges.join.Goals as goal

pub loop-stop-preserved : goal.loop-stop-preserved
loop-stop-preserved c =
    rw (c.min.ensures, c.max.ensures) (joining_more c.args.ranges.now c.requires.apart c.args.range c.loop-stop.joined c.ended_by-first.result c.loop-stop.stop c.loop-stop.invariant (omega arith) (omega arith) c.if-joined-next.false)

pub returns-then-joined-next-clause-joined : goal.returns-then-joined-next-clause-joined
returns-then-joined-next-clause-joined c =
    joining_ends c.args.ranges.now c.requires.apart c.args.range c.loop-stop.joined c.ended_by-first.result c.loop-stop.stop c.loop-stop.invariant (omega arith) (λ _. c.if-joined-next.true)

pub returns-then-joined-next-clause-alone : goal.returns-then-joined-next-clause-alone
returns-then-joined-next-clause-alone c = λ same.
    let first = c.loop-stop.invariant.none (sym same) in
    none_beside c.args.ranges.now c.requires.apart c.args.range c.ended_by-first.result c.loop-stop.invariant.counted
    (λ _. omega (arith, ap (λ r. r.end) first, ap (λ k. (get_or c.args.ranges.now k nowhere).start) same))

pub returns-clause-order : goal.returns-clause-order
returns-clause-order c = counts_within c.args.ranges.now c.saturating_sub.result c.ended_by-first.result c.ended_by-first.ensures

pub returns-clause-joined : goal.returns-clause-joined
returns-clause-joined c =
    let xs = c.args.ranges.now in
    let all : c.loop-stop.stop ≡ length xs = omega (arith, returns-clause-order c) in
    subst (λ k. take c.ended_by-first.result xs ++ c.loop-stop.joined ∷ drop k xs ≡ joined_with c.args.range xs) all
    (joining_ends xs c.requires.apart c.args.range c.loop-stop.joined c.ended_by-first.result c.loop-stop.stop c.loop-stop.invariant (omega arith) (λ lt. absurd (omega (arith, lt, all))))

pub returns-clause-alone : goal.returns-clause-alone
returns-clause-alone c = λ same.
    none_beside c.args.ranges.now c.requires.apart c.args.range c.ended_by-first.result c.loop-stop.invariant.counted (λ lt. absurd (omega (arith, lt, same)))
