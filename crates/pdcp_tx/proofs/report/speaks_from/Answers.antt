use Rattle.pdcp_tx.proofs.Reported.{speaks_of}
use Rattle.pdcp_tx.proofs.report.speaks_from.Goals as goal

pub returns : goal.returns
returns c = speaks_of c.args.next c.args.fmc c.max.result c.args.map.now c.has_bit_from.result c.if-next-fmc.false c.max.ensures c.has_bit_from.ensures
