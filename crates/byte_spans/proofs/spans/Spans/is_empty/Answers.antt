use Rattle.std.proofs.Common.{◌≡◌, ◌∙◌, length, get_or, sym, subst, inl, inr, arith}
use Rattle.std.proofs.lemmas.Bool.{cases_lt, false≢true}
use Rattle.std.proofs.lemmas.Bool.Decides.{nat_tests}
use Rattle.byte_spans.specs.Spans.{IsEmpty, Has}
use Rattle.byte_spans.proofs.Order.{nowhere}
use Rattle.byte_spans.proofs.Sets.{empty_of_none, has_start}
use Rattle.byte_spans.proofs.spans.Spans.is_empty.Goals as goal

pub returns : goal.returns
returns c =
    let xs = c.self.inside.ranges.items in (
      λ yes. let none : length xs ≡ 0 = grind (arith, nat_tests) in subst IsEmpty c.self.view_is (empty_of_none xs none),
      λ empty. elim (cases_lt 0 (length xs)) [
        | inl some ↦
            let place = (get_or xs 0 nowhere).start in
            absurd (false≢true (sym (empty.none place) ∙ subst (λ s. Has s place) c.self.view_is (has_start xs c.self.invariant.0 0 some)))
        | inr none ↦ grind (arith, nat_tests)
      ],
    )
