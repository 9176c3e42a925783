use Rattle.std.proofs.Common.{◌≡◌, ◌<◌, false, List, ap, arith}
use Rattle.bearer_map.specs.Order.{has_row}
use Rattle.bearer_map.specs.Contents.{pair, bearers_of, bearer_rank}
use Rattle.bearer_map.specs.declared.rows.BearerRow.{BearerRow}
use Rattle.bearer_map.proofs.Kept.{absent, one_more_bearer}
use Rattle.bearer_map.proofs.tables.Tables.bearer.Goals as goal

pub invariant_of-self-2 : goal.invariant_of-self-2
invariant_of-self-2 c =
    let new : has_row bearer_rank c.self.inside.bearers.items (pair c.in_ok-remote.remote.0 c.in_ok-drb.drb.0) ≡ false = absent bearer_rank _ _ _ _ _ c.has_rank.ensures c.deref.ensures.value c.pair.ensures.value c.if-has_rank.false in
    let room : bearers_of c.in_ok-remote.remote.0 c.self.inside.bearers.items < 8 = omega (arith, c.bearers_of.ensures, ap (λ (rows : List BearerRow). bearers_of c.in_ok-remote.remote.0 rows) c.deref-3.ensures.value) in
    record {
      are_remotes = c.self.invariant.are_remotes;
      are_bearers = rw c.in_ok-add.ensures.ok (one_more_bearer _ _ c.self.invariant.are_bearers new room);
      uus_ascend = c.self.invariant.uus_ascend;
      pc5s_ascend = c.self.invariant.pc5s_ascend;
      maps_ascend = c.self.invariant.maps_ascend;
    }
