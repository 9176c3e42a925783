use Rattle.std.proofs.Common.{◌<◌, length, ap, subst, inl, inr, arith, rules}
use Rattle.std.proofs.lemmas.Bool.{cases_lt, false≢true}
use Rattle.byte_spans.specs.Spans.{HasTwoRuns}
use Rattle.byte_spans.proofs.Sets.{two_runs}
use Rattle.byte_spans.proofs.spans.Spans.copy.Goals as goal

pub returns-in_err-extend_from_slice-clause-grows : goal.returns-in_err-extend_from_slice-clause-grows
returns-in_err-extend_from_slice-clause-grows c =
    let xs = c.self.inside.ranges.items in
    let two : 1 < length xs = elim (cases_lt 1 (length xs)) [
      | inl more ↦ more
      | inr few ↦ absurd (false≢true (c.in_err-extend_from_slice.ensures.succeeds (omega (arith, few, ap length c.new-ranges.ensures.items, ap length c.as_slice.ensures, c.new-ranges.ensures.capacity))))
    ] in
    let both = subst HasTwoRuns c.self.view_is (two_runs xs c.self.invariant.0 two) in
    search (rules, both)
