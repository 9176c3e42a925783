use Rattle.std.proofs.Common.{refl}
use Rattle.node_end.proofs.Opening.{remote_end}
use Rattle.node_end.proofs.end.End.of_remote.Goals as goal

pub open-requires : goal.open-requires
open-requires c = rw (c.in_ok-ports.ensures, c.in_ok-bearers.ensures c.args.row refl, c.in_ok-ids.ensures, c.in_ok-copy.ensures) (remote_end c.args.tables.now c.args.row c.requires.routes)
