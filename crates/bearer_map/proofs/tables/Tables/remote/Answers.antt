use Rattle.std.proofs.Common.{◌≡◌, ◌<◌, false, length, rules}
use Rattle.bearer_map.specs.Order.{has_row}
use Rattle.bearer_map.specs.Contents.{remote_rank}
use Rattle.bearer_map.proofs.Kept.{absent, one_more_remote}
use Rattle.bearer_map.proofs.tables.Tables.remote.Goals as goal

pub invariant_of-self-2 : goal.invariant_of-self-2
invariant_of-self-2 c =
    let new : has_row remote_rank c.self.inside.remotes.items (c.in_ok-remote.remote.0) ≡ false = absent remote_rank _ _ _ _ _ c.has_rank.ensures c.deref.ensures.value c.rank.ensures c.if-has_rank.false in
    let room : length c.self.inside.remotes.items < 8 = search rules in
    record {
      are_remotes = rw c.in_ok-add.ensures.ok (one_more_remote _ _ c.self.invariant.are_remotes new room);
      are_bearers = c.self.invariant.are_bearers;
      uus_ascend = c.self.invariant.uus_ascend;
      pc5s_ascend = c.self.invariant.pc5s_ascend;
      maps_ascend = c.self.invariant.maps_ascend;
    }
