use Rattle.std.proofs.Common.{get_or, drop, ◌∙◌, arith}
use Rattle.std.proofs.lemmas.Bool.Decides.{nat_tests}
use Rattle.link_base.specs.declared.limits.TheConstants.{LONGEST_RLC_SDU}
use Rattle.byte_spans.proofs.Order.{nowhere, none_below}
use Rattle.byte_spans.proofs.Counting.{apart_from, in_from, low_from, none_from}
use Rattle.byte_spans.proofs.ranges.next_gap.Goals as goal
use Rattle.byte_spans.proofs.ranges.next_gap.Goals.{else-next-ranges-via-then-next-ranges+else-ranges-next, else-next-ranges-via-else-next-ranges}

pub returns-then-ranges-next-clause-gap : goal.returns-then-ranges-next-clause-gap
returns-then-ranges-next-clause-gap c =
    let xs = c.args.ranges.now in
    let at = c.first_lacked-start.result.1 in
    let lacked = c.first_lacked-start.ensures in
    let next = low_from _ LONGEST_RLC_SDU xs at nowhere lacked.apart c.if-next-ranges.true in
    let first = in_from xs at nowhere (get_or xs at nowhere).start c.if-next-ranges.true in
    record {
      some = omega arith;
      after = lacked.after;
      within = omega arith;
      before = lacked.before;
      gap = λ place after before. lacked.beyond place after ∙ none_below _ LONGEST_RLC_SDU (drop at xs) (apart_from 0 LONGEST_RLC_SDU xs c.requires at nowhere c.if-next-ranges.true) place before;
      stops = λ _. lacked.beyond (get_or xs at nowhere).start (omega arith) ∙ grind (arith, nat_tests);
    }

pub returns-clause-gap : goal.returns-clause-gap
returns-clause-gap c =
    let xs = c.args.ranges.now in
    let at = c.first_lacked-start.result.1 in
    let lacked = c.first_lacked-start.ensures in
    record {
      some = omega arith;
      after = lacked.after;
      within = omega arith;
      before = lacked.before;
      gap = λ place after before. lacked.beyond place after ∙ elim c.else-next-ranges.branch [
        | else-next-ranges-via-then-next-ranges+else-ranges-next w ↦ none_below _ LONGEST_RLC_SDU (drop at xs) (apart_from 0 LONGEST_RLC_SDU xs c.requires at nowhere w.if-next-ranges.true) place (omega arith)
        | else-next-ranges-via-else-next-ranges w ↦ none_from xs at place (omega arith)
      ];
      stops = λ some. absurd (omega (arith, some));
    }
