use Rattle.std.proofs.Common.{arith}
use Rattle.pdcp_rx.proofs.Bits.{bits_short, flag_small}
use Rattle.pdcp_rx.proofs.store.octet_from.Goals as goal

pub overflow_mul-octet : goal.overflow_mul-octet
overflow_mul-octet c = omega (arith, bits_short c.args.stored.now.items c.args.from c.loop-at.at c.loop-at-test.true)

pub overflow_add-octet : goal.overflow_add-octet
overflow_add-octet c =
    omega (arith, bits_short c.args.stored.now.items c.args.from c.loop-at.at c.loop-at-test.true, flag_small c.waits.result c.from.result c.from.ensures)
