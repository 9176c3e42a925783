use Rattle.std.proofs.Common.{arith}
use Rattle.rlc_am_rx.proofs.Entries.{drop_long, done_more, rest_more}
use Rattle.rlc_am_rx.proofs.reassembly.pop_done.Goals as goal

pub loop-entries-preserved : goal.loop-entries-preserved
loop-entries-preserved c =
    let i = c.loop-entries.invariant in
    let first = c.loop-entries-test.ensures in
    let dropped = c.pop_front.ensures.rest in
    let long = drop_long c.loop-entries.entries.items first in
    record {
      long = rw dropped (omega (arith, long, i.long));
      done = done_more c.args.entries.now.items c.loop-entries.entries.items c.loop-entries.count i.done i.rest first;
      rest = λ k. rw dropped (rest_more c.args.entries.now.items c.loop-entries.entries.items c.loop-entries.count i.rest k);
    }
