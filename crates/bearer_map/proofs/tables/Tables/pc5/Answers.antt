use Rattle.std.proofs.Common.{◌≡◌, false}
use Rattle.bearer_map.specs.Order.{has_row}
use Rattle.bearer_map.specs.Contents.{pair, pc5_rank}
use Rattle.bearer_map.proofs.Kept.{absent}
use Rattle.bearer_map.proofs.Ordered.{ascending_in_order}
use Rattle.bearer_map.proofs.tables.Tables.pc5.Goals as goal

pub invariant_of-self-2 : goal.invariant_of-self-2
invariant_of-self-2 c =
    let new : has_row pc5_rank c.self.inside.pc5s.items (pair c.in_ok-remote.remote.0 c.in_ok-chan.chan.0) ≡ false = absent pc5_rank _ _ _ _ _ c.has_rank.ensures c.deref.ensures.value c.pair.ensures.value c.if-has_rank.false in
    record {
      are_remotes = c.self.invariant.are_remotes;
      are_bearers = c.self.invariant.are_bearers;
      uus_ascend = c.self.invariant.uus_ascend;
      pc5s_ascend = rw c.in_ok-add.ensures.ok (ascending_in_order pc5_rank _ _ c.self.invariant.pc5s_ascend new);
      maps_ascend = c.self.invariant.maps_ascend;
    }
