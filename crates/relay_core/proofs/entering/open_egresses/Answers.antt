use Rattle.std.proofs.Common.{None, arith}
use Rattle.relay_core.specs.Switching.{opened_egress}
use Rattle.relay_core.proofs.Giving.{none_given, one_more, all_given}
use Rattle.relay_core.proofs.entering.open_egresses.Goals as goal

pub loop-place-init : goal.loop-place-init
loop-place-init c = none_given opened_egress c.args.ports.now c.args.transmitters.now

pub loop-place-preserved : goal.loop-place-preserved
loop-place-preserved c =
    one_more opened_egress c.args.ports.now c.loop-place.ports c.args.transmitters.now c.loop-place.transmitters c.loop-place.place _ _ _ _ (omega arith) (omega arith) c.open_egress.ensures c.loop-place.invariant

pub returns : goal.returns
returns c = all_given opened_egress c.args.ports.now c.loop-place.ports c.args.transmitters.now c.loop-place.transmitters c.loop-place.place None (omega arith) c.requires c.loop-place.invariant
