use Rattle.bearer_map.specs.Contents.{Contents}
use Rattle.node_model.specs.Relaying.{PushesPort}
use Rattle.relay_core.specs.Relay.{queue_capacity}
use Rattle.std.proofs.Common.{subst}
use Rattle.chain_core.proofs.Ends.{relay_moves, relay_nodes}
use Rattle.chain_core.proofs.nodes.Nodes.push.Goals as goal

pub invariant_of-self : goal.invariant_of-self
invariant_of-self c =
    let n = c.self.inside in
    relay_nodes n.tables n.relay n.ends.items c.self.invariant c.push.new.self c.push.ensures.tables c.push.ensures.relay

pub returns-clause-pushes : goal.returns-clause-pushes
returns-clause-pushes c =
    let n = c.self.inside in
    rw (← c.self.view_is) (relay_moves n.tables n.relay n.ends.items c.self.invariant (λ old new. PushesPort (queue_capacity n.tables) old c.args.port c.push.result new) c.push.new.self
    (subst (λ (t : Contents). PushesPort (queue_capacity t) n.relay.node c.args.port c.push.result c.push.new.self.node) c.self.invariant.relay_tables c.push.ensures.pushes) c.push.ensures.relay)
