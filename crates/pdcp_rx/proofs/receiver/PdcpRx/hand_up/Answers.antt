use Rattle.std.proofs.Common.{◌∙◌, refl, arith}
use Rattle.pdcp_rx.specs.Receiver.{receiver_of}
use Rattle.pdcp_rx.proofs.Runs.{behind_few, next_sound, next_bodies}
use Rattle.pdcp_rx.proofs.receiver.PdcpRx.hand_up.Goals as goal

pub overflow_add-behind : goal.overflow_add-behind
overflow_add-behind c = omega (arith, behind_few c.self.inside.stored.items, c.run_len-behind.ensures)

pub invariant_of-self : goal.invariant_of-self
invariant_of-self c =
    let within = rw (← c.self.view_is) at c.requires.within in
    next_sound (receiver_of c.self.inside) c.self.invariant c.args.body.now within c.requires.body _ _ c.run_len-behind.ensures (rw (← c.pop_front.ensures.rest) c.take_run.ensures.rest)

pub returns-clause-bodies : goal.returns-clause-bodies
returns-clause-bodies c =
    let within = rw (← c.self.view_is) at c.requires.within in
    next_bodies (receiver_of c.self.inside) c.self.invariant c.args.body.now within c.requires.body _
    (c.from_vec.ensures ∙ c.take_run.ensures.sdus
    ∙ rw (c.push_reserved.ensures.items, c.in_ok-sdus.ensures.items, c.in_ok-next.ensures, c.pop_front.ensures.rest) refl)
