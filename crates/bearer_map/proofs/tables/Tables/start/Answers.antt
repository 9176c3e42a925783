use Rattle.std.proofs.Common.{◌≡◌, List, length, map, take, drop, ◌++◌, ap, sym, ◌∙◌, subst, arith}
use Rattle.std.proofs.lemmas.List.{take_at}
use Rattle.bearer_map.specs.Contents.{AreBearers}
use Rattle.bearer_map.specs.declared.rows.BearerRow.{BearerRow}
use Rattle.bearer_map.proofs.Kept.{begun}
use Rattle.bearer_map.specs.Lines.{begins_at}
use Rattle.bearer_map.proofs.tables.Tables.start.Goals as goal

pub invariant_of-self-2 : goal.invariant_of-self-2
invariant_of-self-2 c =
    let len : length c.begin_at.new.rows ≡ c.self.inside.bearers.len = omega (arith, c.deref_mut.ensures.len, c.begin_at.auto.rows) in
    let written : take c.self.inside.bearers.len (c.begin_at.new.rows ++ drop (length c.begin_at.new.rows) c.self.inside.bearers.items) ≡ map (begins_at (record { remote = c.in_ok-remote.remote; drb = c.in_ok-drb.drb; way = c.args.way }) c.args.first) c.self.inside.bearers.items =
    take_at c.begin_at.new.rows _ _ len ∙ (c.begin_at.ensures ∙ ap (λ (rows : List BearerRow). map (begins_at (record { remote = c.in_ok-remote.remote; drb = c.in_ok-drb.drb; way = c.args.way }) c.args.first) rows) c.deref_mut.ensures.value) in
    record {
      are_remotes = c.self.invariant.are_remotes;
      are_bearers = subst AreBearers (sym written) (begun (record { remote = c.in_ok-remote.remote; drb = c.in_ok-drb.drb; way = c.args.way }) c.args.first _ c.self.invariant.are_bearers);
      uus_ascend = c.self.invariant.uus_ascend;
      pc5s_ascend = c.self.invariant.pc5s_ascend;
      maps_ascend = c.self.invariant.maps_ascend;
    }
