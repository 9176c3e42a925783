use Rattle.node_end.proofs.Opening.{gnb_end}
use Rattle.node_end.proofs.end.End.of_gnb.Goals as goal

pub open-requires : goal.open-requires
open-requires c = rw (c.in_ok-ports.ensures, c.in_ok-bearers.ensures, c.in_ok-ids.ensures, c.in_ok-copy.ensures) (gnb_end c.args.tables.now c.requires.routes)
