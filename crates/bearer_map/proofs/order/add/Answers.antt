use Rattle.bearer_map.proofs.Inserted.{inserted}
use Rattle.bearer_map.proofs.order.add.Goals as goal

pub returns-clause-ok : goal.returns-clause-ok
returns-clause-ok g c = inserted g.T.Row.rank_of c.args.row _ _ _ _ _ c.in_ok-insert.ensures.items c.place_of-place.ensures c.deref.ensures.value c.rank.ensures
