use Rattle.std.proofs.Common.{◌≡◌, ◌++◌, take, drop, ap, ◌∙◌, subst, arith}
use Rattle.std.specs.List.{replace_range}
use Rattle.byte_spans.specs.Spans.{Removes}
use Rattle.byte_spans.specs.Ranges.{AreRanges, flags_of, below, above, parts_left}
use Rattle.byte_spans.proofs.Cutting.{tells_part, parts_kept}
use Rattle.byte_spans.proofs.Sets.{removes}
use Rattle.byte_spans.proofs.spans.Spans.remove.Goals as goal

removed : (c : goal.In_ok-replace) → AreRanges c.replace.new.ranges.items × Removes (flags_of c.self.inside.ranges.items) (flags_of c.replace.new.ranges.items) c.args.from c.args.to
removed c =
    let xs = c.self.inside.ranges.items in
    let cut = c.cut-cut.result in
    let is : (take cut.first xs ++ parts_left cut.front cut.back) ++ drop cut.stop xs ≡ below xs c.args.from ++ above xs c.args.to =
    subst (λ l. (take cut.first l ++ parts_left cut.front cut.back) ++ drop cut.stop l ≡ below l c.args.from ++ above l c.args.to) c.as_slice.ensures c.cut-cut.ensures.left in
    let parts = parts_kept cut.front cut.back c.from.result c.from-2.result (tells_part cut.front c.is_empty.result c.from.result c.from.ensures c.is_empty.ensures) (tells_part cut.back c.is_empty-2.result c.from-2.result c.from-2.ensures c.is_empty-2.ensures) in
    removes xs c.self.invariant.0 c.args.from c.args.to c.requires.some c.replace.new.ranges.items
    (c.in_ok-replace.ensures.ok ∙ ap (λ l. replace_range xs cut.first cut.stop l) parts ∙ is)

pub invariant_of-self-2 : goal.invariant_of-self-2
invariant_of-self-2 c = ((removed c).0, omega (arith, c.in_ok-replace.ensures.room, c.self.invariant.1))

pub returns-clause-removes : goal.returns-clause-removes
returns-clause-removes c = subst (λ s. Removes s (flags_of c.replace.new.ranges.items) c.args.from c.args.to) c.self.view_is (removed c).1
