use Rattle.std.proofs.Common.{◌≡◌, ◌<◌, ◌≤◌, true, length, get_or, ltb, ap, ◌∙◌, append_assoc, arith, rules}
use Rattle.std.proofs.lemmas.Bool.Decides.{nat_tests}
use Rattle.byte_spans.proofs.Order.{nowhere}
use Rattle.byte_spans.proofs.Flags.{has_flags}
use Rattle.byte_spans.proofs.Counting.{counts_within, counts_past, counts_rise, in_range}
use Rattle.byte_spans.proofs.Cutting.{below_at, below_none, above_cut, above_whole, kept_two, kept_both}
use Rattle.byte_spans.specs.declared.ranges.Range.{Range}
use Rattle.byte_spans.specs.Ranges.{parts_left}
use Rattle.byte_spans.proofs.ranges.cut.Goals as goal
use Rattle.byte_spans.proofs.ranges.cut.Goals.{else-stop-ranges-via-then-stop-ranges+else-ranges-stop, else-stop-ranges-via-else-stop-ranges}

pub bounds-ranges-first : goal.bounds-ranges-first
bounds-ranges-first c =
    let order = counts_rise c.args.ranges.now c.args.from c.args.to c.ended_by-first.result c.ended_by-stop.result c.ended_by-first.ensures c.ended_by-stop.ensures (omega arith) in
    omega arith

pub returns-then-ranges-stop-clause-order : goal.returns-then-ranges-stop-clause-order
returns-then-ranges-stop-clause-order c =
    let order = counts_rise c.args.ranges.now c.args.from c.args.to c.ended_by-first.result c.ended_by-stop.result c.ended_by-first.ensures c.ended_by-stop.ensures (omega arith) in
    omega arith

pub returns-then-ranges-stop-clause-left : goal.returns-then-ranges-stop-clause-left
returns-then-ranges-stop-clause-left c =
    let xs = c.args.ranges.now in
    let front = below_at xs c.args.from c.ended_by-first.result c.ended_by-first.ensures (bounds-ranges-first c) in
    let back = above_cut xs c.args.to c.ended_by-stop.result c.ended_by-stop.ensures c.if-stop-ranges.true c.if-ranges-stop.true in
    let past = counts_past xs c.args.to c.ended_by-stop.result nowhere c.ended_by-stop.ensures c.if-stop-ranges.true in
    let some : ltb c.args.to (get_or xs c.ended_by-stop.result nowhere).end ≡ true = grind (arith, nat_tests) in
    rw (front, back, some) (simp append_assoc)

pub returns-then-ranges-stop-clause-few : goal.returns-then-ranges-stop-clause-few
returns-then-ranges-stop-clause-few c =
    let order = counts_rise c.args.ranges.now c.args.from c.args.to c.ended_by-first.result c.ended_by-stop.result c.ended_by-first.ensures c.ended_by-stop.ensures (omega arith) in
    omega (arith, kept_two (record { start = (get_or c.args.ranges.now c.ended_by-first.result nowhere).start; end = c.args.from }) (record { start = c.args.to; end = (get_or c.args.ranges.now c.ended_by-stop.result nowhere).end }))

pub returns-then-ranges-stop-clause-splits : goal.returns-then-ranges-stop-clause-splits
returns-then-ranges-stop-clause-splits c = λ more.
    let xs = c.args.ranges.now in
    let front : Range = record { start = (get_or xs c.ended_by-first.result nowhere).start; end = c.args.from } in
    let back : Range = record { start = c.args.to; end = (get_or xs c.ended_by-stop.result nowhere).end } in
    let order = counts_rise xs c.args.from c.args.to c.ended_by-first.result c.ended_by-stop.result c.ended_by-first.ensures c.ended_by-stop.ensures (omega arith) in
    let at : c.ended_by-stop.result ≡ c.ended_by-first.result = omega (arith, more, kept_two front back) in
    let both = kept_both front back (omega (arith, more, at)) in
    let ends : (get_or xs c.ended_by-stop.result nowhere).end ≡ (get_or xs c.ended_by-first.result nowhere).end = ap (λ k. (get_or xs k nowhere).end) at in
    record {
      before = omega (arith, both.0);
      run = λ place after before. has_flags xs c.requires.apart place ∙ in_range xs c.ended_by-first.result nowhere place (omega (arith, at)) (omega (arith, both.0)) (omega (arith, both.1, ends));
    }

pub returns-then-stop-first-clause-within : goal.returns-then-stop-first-clause-within
returns-then-stop-first-clause-within c = counts_within c.args.ranges.now c.args.to c.ended_by-stop.result c.ended_by-stop.ensures

pub returns-then-stop-first-clause-left : goal.returns-then-stop-first-clause-left
returns-then-stop-first-clause-left c =
    let xs = c.args.ranges.now in
    let same = c.if-stop-first.true in
    let starts : c.ended_by-stop.result < length xs → c.args.to ≤ (get_or xs c.ended_by-stop.result nowhere).start =
    λ lt. elim c.else-stop-ranges.branch [ else-stop-ranges-via-then-stop-ranges+else-ranges-stop w ↦ omega arith | else-stop-ranges-via-else-stop-ranges w ↦ absurd (omega arith) ] in
    let front = below_none xs c.args.from c.ended_by-first.result c.ended_by-first.ensures (λ lt. let later = starts (omega arith) in omega (arith, ap (λ k. (get_or xs k nowhere).start) same)) in
    let back = above_whole xs c.args.to c.ended_by-stop.result c.ended_by-stop.ensures starts in
    rw (front, back) (simp append_assoc)

pub returns-clause-order : goal.returns-clause-order
returns-clause-order c = counts_rise c.args.ranges.now c.args.from c.args.to c.ended_by-first.result c.ended_by-stop.result c.ended_by-first.ensures c.ended_by-stop.ensures (omega arith)

pub returns-clause-within : goal.returns-clause-within
returns-clause-within c = counts_within c.args.ranges.now c.args.to c.ended_by-stop.result c.ended_by-stop.ensures

pub bounds-ranges-first-2 : goal.bounds-ranges-first-2
bounds-ranges-first-2 c =
    let order = returns-clause-order c in
    let within = returns-clause-within c in
    omega arith

pub offset_bounds-ranges-first-2 : goal.offset_bounds-ranges-first-2
offset_bounds-ranges-first-2 c = search (rules, bounds-ranges-first-2 c)

pub offset_bounds-ranges-first : goal.offset_bounds-ranges-first
offset_bounds-ranges-first c = search (rules, bounds-ranges-first c)

pub returns-clause-left : goal.returns-clause-left
returns-clause-left c =
    let xs = c.args.ranges.now in
    let front = below_at xs c.args.from c.ended_by-first.result c.ended_by-first.ensures (bounds-ranges-first-2 c) in
    let starts : c.ended_by-stop.result < length xs → c.args.to ≤ (get_or xs c.ended_by-stop.result nowhere).start =
    λ lt. elim c.else-stop-ranges.branch [ else-stop-ranges-via-then-stop-ranges+else-ranges-stop w ↦ omega arith | else-stop-ranges-via-else-stop-ranges w ↦ absurd (omega arith) ] in
    let back = above_whole xs c.args.to c.ended_by-stop.result c.ended_by-stop.ensures starts in
    rw (front, back) (simp append_assoc)

pub returns-clause-splits : goal.returns-clause-splits
returns-clause-splits c = λ more.
    let order = returns-clause-order c in
    let one : length (parts_left (record { start = (get_or c.args.ranges.now c.ended_by-first.result nowhere).start; end = c.args.from }) nowhere) ≤ 1 = grind (arith, nat_tests) in
    absurd (omega (arith, more, one, order))
