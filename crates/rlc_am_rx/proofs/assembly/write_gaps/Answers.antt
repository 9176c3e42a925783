use Rattle.std.proofs.Common.{◌∙◌, ◌+◌, ◌≤◌, length, arith}
use Rattle.rlc_am_rx.proofs.Copied.{gap_placed, gap_kept, gap_long}
use Rattle.rlc_am_rx.proofs.assembly.write_gaps.Goals as goal

pub loop-start-preserved : goal.loop-start-preserved
loop-start-preserved c =
    let i = c.loop-start.invariant in
    let gap = c.in-Some.ensures.gap in
    let until = c.args.from + length c.args.body.now in
    let inside : until ≤ length c.loop-start.bytes = omega (arith, i.long, c.requires.inside) in
    rw c.copy_from_slice.ensures.after (record {
      from = omega (arith, i.from, gap.after, gap.some);
      within = gap.within;
      placed = λ p. gap_placed c.args.held.now c.loop-start.bytes c.args.body.now c.args.from c.loop-start.at until c.in-Some.start c.in-Some.stop gap i.from inside (omega arith) p (i.placed p);
      kept = λ p is. gap_kept c.args.held.now c.loop-start.bytes c.args.body.now c.args.from c.loop-start.at until c.in-Some.start c.in-Some.stop gap i.from inside (omega arith) p is ∙ i.kept p is;
      long = gap_long c.args.held.now c.loop-start.bytes c.args.body.now c.args.from c.loop-start.at until c.in-Some.start c.in-Some.stop gap i.from inside (omega arith) ∙ i.long;
    })
