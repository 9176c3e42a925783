use Rattle.std.proofs.Common.{refl}
use Rattle.pdcp_rx.proofs.Stores.{put_is}
use Rattle.pdcp_rx.proofs.store.put.Goals as goal

pub returns-clause-ok : goal.returns-clause-ok
returns-clause-ok c = rw c.in_ok-grow.ensures.ok (put_is c.args.at c.args.sdu c.args.stored.now.items _ refl)
