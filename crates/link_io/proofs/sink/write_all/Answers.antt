use Rattle.std.proofs.Common.{arith, ◌∙◌}
use Rattle.link_io.proofs.Pieces.{appends_next, used_next}
use Rattle.link_io.proofs.sink.write_all.Goals as goal

pub loop-at-preserved : goal.loop-at-preserved
loop-at-preserved g c =
    let before = c.loop-at.invariant in
    let now = c.in_ok-at.ensures in
    record {
      within = omega arith;
      so_far = appends_next _ _ _ _ _ _ before.so_far now.bytes;
      told = c.write.ensures.told ∙ before.told;
      used = used_next before.used c.write.ensures.used;
      kept = now.kept ∙ before.kept;
    }
