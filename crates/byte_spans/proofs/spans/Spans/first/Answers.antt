use Rattle.std.proofs.Common.{◌≡◌, ◌<◌, length, get_or, ap, sym, ◌∙◌, subst, arith}
use Rattle.byte_spans.specs.Spans.{IsEmpty, IsFirstRun}
use Rattle.byte_spans.proofs.Order.{nowhere}
use Rattle.byte_spans.proofs.Sets.{empty_of_none, first_run}
use Rattle.byte_spans.proofs.spans.Spans.first.Goals as goal

pub returns-in_err-first-clause-none : goal.returns-in_err-first-clause-none
returns-in_err-first-clause-none c =
    let xs = c.self.inside.ranges.items in
    let none : length xs ≡ 0 = omega (arith, c.in_err-first.ensures.item.3, ap length c.as_slice.ensures) in
    rw c.from_residual.ensures (subst IsEmpty c.self.view_is (empty_of_none xs none))

pub returns-clause-run : goal.returns-clause-run
returns-clause-run c =
    let xs = c.self.inside.ranges.items in
    let item = c.in_ok-first.ensures.item in
    let some : 0 < length xs = omega (arith, item.3.0, ap length c.as_slice.ensures) in
    let here : c.in_ok-first.first.now ≡ get_or xs 0 nowhere = item.4 (omega arith) nowhere ∙ ap (λ l. get_or l 0 nowhere) c.as_slice.ensures in
    subst (λ r. IsFirstRun c.args.self.now r.start r.end) (sym here) (subst (λ s. IsFirstRun s (get_or xs 0 nowhere).start (get_or xs 0 nowhere).end) c.self.view_is (first_run xs c.self.invariant.0 some))
