use Rattle.std.proofs.Common.{ap}
use Rattle.node_model.specs.State.{Outgoing}
use Rattle.node_bearers.proofs.Table.{sent, none_sent}
use Rattle.node_bearers.proofs.bearers.Bearers.sending.Goals as goal

pub returns-clause-some : goal.returns-clause-some
returns-clause-some c =
    let a = c.self.inside in
    let at = rw c.deref.ensures.value at c.in_ok-place.ensures.some in
    rw (← c.self.view_is) (ap (λ (o : Outgoing). o.sender) (sent c.args.key a.sends c.index.result.now a.rows.items c.in_ok-place.place c.self.invariant c.index.ensures at))

pub returns-in_err-place-clause-none : goal.returns-in_err-place-clause-none
returns-in_err-place-clause-none c =
    let a = c.self.inside in
    let none = rw c.deref.ensures.value at c.in_err-place.ensures.none in
    rw (c.from_residual.ensures, ← c.self.view_is) (none_sent a.sends c.args.key a.rows.items none)
