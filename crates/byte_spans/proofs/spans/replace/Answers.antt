use Rattle.std.proofs.Common.{◌+◌, ◌-◌, length, take, ap, ◌∙◌, arith}
use Rattle.std.specs.List.{replace_range, remove_range}
use Rattle.byte_spans.proofs.Order.{nowhere}
use Rattle.byte_spans.proofs.Replacing.{put_last, put_all}
use Rattle.byte_spans.proofs.spans.replace.Goals as goal

pub returns-in_ok-insert-clause-ok : goal.returns-in_ok-insert-clause-ok
returns-in_ok-insert-clause-ok c =
    let with = c.args.with.now in
    c.put.ensures.items ∙ ap (λ l. replace_range l c.args.first (c.args.first + length (take (length with - 1) with)) (take (length with - 1) with)) c.in_ok-insert.ensures.ok
    ∙ put_last c.args.ranges.now.items with c.args.first c.args.stop (length with - 1) nowhere c.requires.order c.requires.within (omega arith) (omega arith)

pub returns-else-stop-first-clause-ok : goal.returns-else-stop-first-clause-ok
returns-else-stop-first-clause-ok c =
    c.take_out.ensures.items ∙ ap (λ l. remove_range l (c.args.first + length c.args.with.now) c.args.stop) c.put-else-stop-first.ensures.items
    ∙ put_all c.args.ranges.now.items c.args.with.now c.args.first c.args.stop (omega arith) c.requires.within
