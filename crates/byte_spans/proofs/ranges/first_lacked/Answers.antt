use Rattle.std.proofs.Common.{◌+◌, get_or, drop, ◌∙◌, arith}
use Rattle.std.proofs.lemmas.Bool.Decides.{nat_tests}
use Rattle.link_base.specs.declared.limits.TheConstants.{LONGEST_RLC_SDU}
use Rattle.byte_spans.proofs.Order.{nowhere, none_below, loosened}
use Rattle.byte_spans.proofs.Flags.{has_flags}
use Rattle.byte_spans.proofs.Counting.{counts_past, none_counted, apart_from, apart_behind, apart_none, in_from, in_range}
use Rattle.byte_spans.proofs.ranges.first_lacked.Goals as goal
use Rattle.byte_spans.proofs.ranges.first_lacked.Goals.{else-at-ranges-via-then-at-ranges+else-ranges-at, else-at-ranges-via-else-at-ranges}

pub returns-then-ranges-at-clause-after : goal.returns-then-ranges-at-clause-after
returns-then-ranges-at-clause-after c =
    let past = counts_past c.args.ranges.now c.args.from c.ended_by-at.result nowhere c.ended_by-at.ensures c.if-at-ranges.true in
    omega arith

pub returns-then-ranges-at-clause-before : goal.returns-then-ranges-at-clause-before
returns-then-ranges-at-clause-before c = λ place after before.
    has_flags c.args.ranges.now c.requires place ∙ in_range c.args.ranges.now c.ended_by-at.result nowhere place c.if-at-ranges.true (omega arith) before

pub returns-then-ranges-at-clause-lacked : goal.returns-then-ranges-at-clause-lacked
returns-then-ranges-at-clause-lacked c =
    let xs = c.args.ranges.now in
    let at = c.ended_by-at.result in
    let place = (get_or xs at nowhere).end in
    let past = counts_past xs c.args.from at nowhere c.ended_by-at.ensures c.if-at-ranges.true in
    let here = none_counted xs c.args.from at place c.ended_by-at.ensures (omega arith) in
    let from = in_from xs at nowhere place c.if-at-ranges.true in
    let none = none_below (place + 1) LONGEST_RLC_SDU (drop (at + 1) xs) (apart_behind 0 LONGEST_RLC_SDU xs c.requires at nowhere c.if-at-ranges.true) place (omega arith) in
    has_flags xs c.requires place ∙ grind (arith, nat_tests)

pub returns-then-ranges-at-clause-apart : goal.returns-then-ranges-at-clause-apart
returns-then-ranges-at-clause-apart c = apart_behind 0 LONGEST_RLC_SDU c.args.ranges.now c.requires c.ended_by-at.result nowhere c.if-at-ranges.true

pub returns-then-ranges-at-clause-beyond : goal.returns-then-ranges-at-clause-beyond
returns-then-ranges-at-clause-beyond c = λ place after.
    let xs = c.args.ranges.now in
    let at = c.ended_by-at.result in
    let past = counts_past xs c.args.from at nowhere c.ended_by-at.ensures c.if-at-ranges.true in
    let here = none_counted xs c.args.from at place c.ended_by-at.ensures (omega arith) in
    let from = in_from xs at nowhere place c.if-at-ranges.true in
    has_flags xs c.requires place ∙ grind (arith, nat_tests)

pub returns-clause-apart : goal.returns-clause-apart
returns-clause-apart c =
    let xs = c.args.ranges.now in
    let at = c.ended_by-at.result in
    elim c.else-at-ranges.branch [
      | else-at-ranges-via-then-at-ranges+else-ranges-at w ↦ loosened (get_or xs at nowhere).start (c.args.from + 1) LONGEST_RLC_SDU (drop at xs) (omega arith) (apart_from 0 LONGEST_RLC_SDU xs c.requires at nowhere w.if-at-ranges.true)
      | else-at-ranges-via-else-at-ranges w ↦ apart_none (c.args.from + 1) LONGEST_RLC_SDU xs at (omega arith)
    ]

pub returns-clause-beyond : goal.returns-clause-beyond
returns-clause-beyond c = λ place after.
    has_flags c.args.ranges.now c.requires place ∙ none_counted c.args.ranges.now c.args.from c.ended_by-at.result place c.ended_by-at.ensures after

pub returns-clause-lacked : goal.returns-clause-lacked
returns-clause-lacked c =
    returns-clause-beyond c c.args.from (omega arith) ∙ none_below (c.args.from + 1) LONGEST_RLC_SDU (drop c.ended_by-at.result c.args.ranges.now) (returns-clause-apart c) c.args.from (omega arith)
