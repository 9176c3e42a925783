use Rattle.std.proofs.Common.{◌≡◌, List, length, map, take, drop, ◌++◌, ap, sym, ◌∙◌, subst, arith}
use Rattle.std.proofs.lemmas.List.{take_at}
use Rattle.bearer_map.specs.Contents.{AreRemotes}
use Rattle.bearer_map.specs.declared.rows.RemoteRow.{RemoteRow}
use Rattle.bearer_map.proofs.Kept.{gone}
use Rattle.bearer_map.specs.Lines.{goes_to}
use Rattle.bearer_map.proofs.tables.Tables.path.Goals as goal

pub invariant_of-self-2 : goal.invariant_of-self-2
invariant_of-self-2 c =
    let len : length c.set_goal.new.rows ≡ c.self.inside.remotes.len = omega (arith, c.deref_mut.ensures.len, c.set_goal.auto.rows) in
    let written : take c.self.inside.remotes.len (c.set_goal.new.rows ++ drop (length c.set_goal.new.rows) c.self.inside.remotes.items) ≡ map (goes_to c.in_ok-remote.remote c.args.goal) c.self.inside.remotes.items =
    take_at c.set_goal.new.rows _ _ len ∙ (c.set_goal.ensures ∙ ap (λ (rows : List RemoteRow). map (goes_to c.in_ok-remote.remote c.args.goal) rows) c.deref_mut.ensures.value) in
    record {
      are_remotes = subst AreRemotes (sym written) (gone c.in_ok-remote.remote c.args.goal _ c.self.invariant.are_remotes);
      are_bearers = c.self.invariant.are_bearers;
      uus_ascend = c.self.invariant.uus_ascend;
      pc5s_ascend = c.self.invariant.pc5s_ascend;
      maps_ascend = c.self.invariant.maps_ascend;
    }
