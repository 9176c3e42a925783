use Rattle.std.proofs.Common.{subst}
use Rattle.node_model.specs.State.{Node}
use Rattle.node_model.specs.Relaying.{PullsPort}
use Rattle.chain_core.specs.Nodes.{IsSmallAt}
use Rattle.chain_core.proofs.Ends.{relay_is_read, relay_moves, relay_nodes}
use Rattle.chain_core.proofs.nodes.Nodes.pull.Goals as goal

pub pull-requires : goal.pull-requires
pull-requires c = λ entity here.
    let n = c.self.inside in
    (subst (λ (m : Node). IsSmallAt m c.args.port) (relay_is_read n.tables n.relay n.ends.items c.self.invariant) (rw (← c.self.view_is) at c.requires) entity here).sent

pub invariant_of-self : goal.invariant_of-self
invariant_of-self c =
    let n = c.self.inside in
    relay_nodes n.tables n.relay n.ends.items c.self.invariant c.pull.new.self c.in_err-reply.ensures.tables c.in_err-reply.ensures.relay

pub invariant_of-self-2 : goal.invariant_of-self-2
invariant_of-self-2 c =
    let n = c.self.inside in
    relay_nodes n.tables n.relay n.ends.items c.self.invariant c.pull.new.self c.in_ok-reply.ensures.tables c.in_ok-reply.ensures.relay

pub returns-clause-pulls : goal.returns-clause-pulls
returns-clause-pulls c =
    let n = c.self.inside in
    rw (← c.self.view_is) (relay_moves n.tables n.relay n.ends.items c.self.invariant (λ old new. PullsPort old c.args.port c.in_ok-reply.reply new) c.pull.new.self c.in_ok-reply.ensures.ok c.in_ok-reply.ensures.relay)
