use Rattle.std.proofs.Common.{◌≡◌, ◌+◌, ◌-◌, length, get_or, ap, sym, ◌∙◌, subst, arith}
use Rattle.byte_spans.specs.Spans.{IsEmpty, IsEnd}
use Rattle.byte_spans.proofs.Order.{nowhere}
use Rattle.byte_spans.proofs.Sets.{empty_of_none, ends}
use Rattle.byte_spans.proofs.spans.Spans.end.Goals as goal

pub returns-in-Some : goal.returns-in-Some
returns-in-Some c =
    let xs = c.self.inside.ranges.items in
    let item = c.in-Some.ensures.item in
    let long : length xs ≡ length xs - 1 + 1 = omega (arith, item.3.0, ap length c.as_slice.ensures) in
    let here : c.in-Some.last.now ≡ get_or xs (length xs - 1) nowhere = item.4 (omega arith) nowhere ∙ ap (λ l. get_or l (length l - 1) nowhere) c.as_slice.ensures in
    subst (λ r. IsEnd c.args.self.now r.end) (sym here) (subst (λ s. IsEnd s (get_or xs (length xs - 1) nowhere).end) c.self.view_is (ends xs c.self.invariant.0 (length xs - 1) long))

pub returns-in-None : goal.returns-in-None
returns-in-None c =
    let xs = c.self.inside.ranges.items in
    let none : length xs ≡ 0 = omega (arith, c.in-None.ensures.item.3, ap length c.as_slice.ensures) in
    let empty = subst IsEmpty c.self.view_is (empty_of_none xs none) in
    record { above = λ place _. empty.none place; last = λ some. absurd (omega (arith, some)) }
