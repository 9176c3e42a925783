use Rattle.std.proofs.Common.{sym, ◌∙◌}
use Rattle.node_bearers.proofs.Searches.{named, not_named}
use Rattle.node_bearers.proofs.search.place_of.Goals as goal

pub returns : goal.returns
returns c =
    let small = c.rank_of.ensures.octet in
    let ranked = rw c.rank_of.ensures.value at c.place_with.ensures in
    record {
      some = named c.args.way c.args.key c.args.rows.now c.requires small _ (sym c.is_way.ensures ∙ c.if-not-is_way.false) ranked.some;
      none = not_named c.args.way c.args.key c.args.rows.now c.requires small _ ranked.none;
    }
