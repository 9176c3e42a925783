use Rattle.std.proofs.Common.{◌≡◌, false, rules}
use Rattle.bearer_map.specs.Order.{has_row}
use Rattle.bearer_map.specs.Contents.{uu_rank}
use Rattle.bearer_map.proofs.Ordered.{ascending_in_order}
use Rattle.bearer_map.proofs.tables.Tables.uu.Goals as goal

pub invariant_of-self-2 : goal.invariant_of-self-2
invariant_of-self-2 c =
    let new : has_row uu_rank c.self.inside.uus.items (c.in_ok-chan.chan.0) ≡ false = search rules in
    record {
      are_remotes = c.self.invariant.are_remotes;
      are_bearers = c.self.invariant.are_bearers;
      uus_ascend = rw c.in_ok-add.ensures.ok (ascending_in_order uu_rank _ _ c.self.invariant.uus_ascend new);
      pc5s_ascend = c.self.invariant.pc5s_ascend;
      maps_ascend = c.self.invariant.maps_ascend;
    }
