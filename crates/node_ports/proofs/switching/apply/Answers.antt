use Rattle.std.proofs.Common.{arith}
use Rattle.node_ports.proofs.Applied.{none_applied, one_more, all_applied}
use Rattle.node_ports.proofs.switching.apply.Goals as goal

pub loop-place-init : goal.loop-place-init
loop-place-init c = none_applied c.args.remote c.args.sides.now c.args.entities.now

pub loop-place-preserved : goal.loop-place-preserved
loop-place-preserved c =
    let l = c.loop-place in
    one_more c.args.remote c.args.sides.now c.args.entities.now l.sides l.entities l.place _ _ _ _ (omega arith) (omega arith) c.apply.ensures l.invariant

pub returns : goal.returns
returns c =
    let l = c.loop-place in
    all_applied c.args.remote c.args.sides.now c.args.entities.now l.sides l.entities l.place (omega arith) c.requires l.invariant
