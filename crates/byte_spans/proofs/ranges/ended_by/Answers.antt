use Rattle.std.proofs.Common.{◌≡◌, ◌-◌, length, get_or, ap, leb, arith, rules}
use Rattle.std.proofs.lemmas.Bool.Decides.{nat_tests}
use Rattle.std.proofs.lemmas.List.Sorted.{IsPartitionPoint-from_clause, IsPartitionedBy-leb}
use Rattle.link_base.specs.declared.limits.TheConstants.{LONGEST_RLC_SDU}
use Rattle.byte_spans.proofs.Order.{nowhere, ends_rise}
use Rattle.byte_spans.proofs.Counting.{counts}
use Rattle.byte_spans.proofs.ranges.ended_by.Goals as goal
use Rattle.byte_spans.proofs.ranges.ended_by.Goals.{then-count-eq0-via-then-count-eq0, then-count-eq0-via-else-count-eq0+then-ranges-count, then-count-eq1-via-then-count-eq1, then-count-eq1-via-else-count-eq1+then-ranges-count-2}

pub returns-then-count-eq0 : goal.returns-then-count-eq0
returns-then-count-eq0 c =
    counts 0 LONGEST_RLC_SDU c.args.ranges.now c.requires c.args.place _ nowhere (omega arith)
    (λ some. elim c.then-count-eq0.branch [ then-count-eq0-via-then-count-eq0 w ↦ omega arith | then-count-eq0-via-else-count-eq0+then-ranges-count w ↦ omega arith ])
    (λ lt. omega arith)

pub returns-then-count-eq1 : goal.returns-then-count-eq1
returns-then-count-eq1 c =
    counts 0 LONGEST_RLC_SDU c.args.ranges.now c.requires c.args.place _ nowhere (omega arith)
    (λ some. elim c.then-count-eq1.branch [ then-count-eq1-via-then-count-eq1 w ↦ omega arith | then-count-eq1-via-else-count-eq1+then-ranges-count-2 w ↦ let xs = c.args.ranges.now in let e : length xs - 1 - 1 ≡ length xs - 2 = omega arith in omega (arith, ap (λ k. (get_or xs k nowhere).end) e) ])
    (λ lt. omega arith)

pub returns : goal.returns
returns c =
    let xs = c.args.ranges.now in
    let parted = IsPartitionedBy-leb (λ x. x.end) xs c.args.place (ends_rise 0 LONGEST_RLC_SDU xs c.requires) in
    let point = IsPartitionPoint-from_clause (λ x. leb x.end c.args.place) _ _ c.partition_point.ensures.partitioned parted (λ a r q k. search rules) in
    counts 0 LONGEST_RLC_SDU xs c.requires c.args.place _ nowhere (omega arith)
    (λ some. let last = point.0 (c.partition_point.result - 1) nowhere (omega arith) (omega arith) in grind (arith, nat_tests))
    (λ lt. let past = point.1 c.partition_point.result nowhere (omega arith) lt in grind (arith, nat_tests))
