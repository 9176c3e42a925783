use Rattle.pdcp_rx.specs.Receiver.{receiver_of}
use Rattle.pdcp_rx.proofs.Soundness.{stored_sound}
use Rattle.pdcp_rx.proofs.receiver.PdcpRx.store.Goals as goal

pub invariant_of-self-2 : goal.invariant_of-self-2
invariant_of-self-2 c =
    let within = rw (← c.self.view_is) at c.requires.within in
    rw (c.in_ok-put.ensures.ok, c.in_ok-sdu.ensures) (stored_sound (receiver_of c.self.inside) c.self.invariant c.args.ahead c.args.body.now within c.requires.body c.requires.above)
