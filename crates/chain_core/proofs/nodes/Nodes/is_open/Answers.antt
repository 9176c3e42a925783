use Rattle.std.proofs.Common.{◌≡◌, List, get_or, sym, ◌∙◌, ap, subst, is_some, rules}
use Rattle.node_model.specs.Names.{AtRelay, owner}
use Rattle.node_model.specs.State.{Node, TabledNode, entity_at}
use Rattle.node_model.proofs.Names.{node_is}
use Rattle.chain_core.specs.Nodes.{IsPlaceOf, HasNone}
use Rattle.chain_core.proofs.Ends.{is_read, reads_nowhere, relay_is_read}
use Rattle.chain_core.proofs.nodes.Nodes.is_open.Goals as goal

pub returns-then-is_at_relay : goal.returns-then-is_at_relay
returns-then-is_at_relay c =
    let n = c.self.inside in
    rw (← c.self.view_is, ← node_is AtRelay (owner c.args.side c.args.port) (sym c.is_at_relay.ensures ∙ c.if-is_at_relay.true), relay_is_read n.tables n.relay n.ends.items c.self.invariant) (search rules)

pub returns-in-Some : goal.returns-in-Some
returns-in-Some c =
    let n = c.self.inside in
    let p : IsPlaceOf n.ends.items (owner c.args.side c.args.port) c.in-Some.place = subst (λ (es : List TabledNode). IsPlaceOf es (owner c.args.side c.args.port) c.in-Some.place) c.deref.ensures.value c.in-Some.ensures.found in
    let here : c.index.result.now ≡ get_or n.ends.items c.in-Some.place c.index.result.now = search rules in
    rw (← c.self.view_is, is_read n.tables n.relay n.ends.items c.self.invariant (owner c.args.side c.args.port) c.in-Some.place p c.index.result.now here) (search rules)

pub returns-in-None : goal.returns-in-None
returns-in-None c =
    let n = c.self.inside in
    let none : HasNone n.ends.items (owner c.args.side c.args.port) = subst (λ (es : List TabledNode). HasNone es (owner c.args.side c.args.port)) c.deref.ensures.value c.in-None.ensures.none in
    rw (← c.self.view_is) (ap (λ (m : Node). is_some (entity_at m c.args.port)) (sym (reads_nowhere n.tables n.relay n.ends.items c.self.invariant (owner c.args.side c.args.port) none (sym c.is_at_relay.ensures ∙ c.if-is_at_relay.false))))
