use Rattle.std.proofs.Common.{subst}
use Rattle.link_base.specs.declared.names.Key.{Key}
use Rattle.node_bearers.specs.Calls.{Submits}
use Rattle.remote_end.proofs.remote_end.RemoteEnd.submit.Goals as goal

pub returns-clause-ok : goal.returns-clause-ok
returns-clause-ok c =
    let named = rw (← c.self.view_is) at c.sent-key.ensures in
    rw (← c.self.view_is) (subst (λ (key : Key). Submits c.self.inside.end.node key c.args.sdu.now c.in_ok-count.count c.submit.new.self.node) named c.in_ok-count.ensures.ok)
