use Rattle.std.proofs.Common.{◌≡◌, List, get_or, None, refl, sym, ◌∙◌, ap, subst, rules}
use Rattle.node_model.specs.Names.{NodeName, AtRelay, owner}
use Rattle.node_model.specs.State.{TabledNode}
use Rattle.node_model.proofs.Names.{node_is}
use Rattle.chain_core.specs.Nodes.{all_nodes, IsPlaceOf, HasNone, Moves}
use Rattle.node_model.specs.Sides.{ExpiresPort}
use Rattle.chain_core.proofs.Ends.{expires_none, with_ends, stays_read, moves_read, nodes_read, moves_nowhere, relay_moves}
use Rattle.chain_core.proofs.nodes.Nodes.expire.Goals as goal

pub returns-then-is_at_relay-clause-expires : goal.returns-then-is_at_relay-clause-expires
returns-then-is_at_relay-clause-expires c =
    let n = c.self.inside in
    rw (← c.self.view_is) (subst (λ (name : NodeName). Moves name (λ old new. ExpiresPort old c.args.port c.args.timer c.expire.result new) (all_nodes n.relay n.ends.items) (all_nodes c.expire.new.self n.ends.items)) (node_is AtRelay (owner c.args.side c.args.port) (sym c.is_at_relay.ensures ∙ c.if-is_at_relay.true))
    (relay_moves n.tables n.relay n.ends.items c.self.invariant (λ old new. ExpiresPort old c.args.port c.args.timer c.expire.result new) c.expire.new.self (c.expire.ensures.expires) c.expire.ensures.relay))

pub returns-in_default-clause-expires : goal.returns-in_default-clause-expires
returns-in_default-clause-expires c =
    let n = c.self.inside in
    let none : HasNone n.ends.items (owner c.args.side c.args.port) = subst (λ (es : List TabledNode). HasNone es (owner c.args.side c.args.port)) c.deref.ensures.value c.in_default.ensures.none in
    rw (← c.self.view_is) (moves_nowhere n.tables n.relay n.ends.items c.self.invariant (owner c.args.side c.args.port) none (sym c.is_at_relay.ensures ∙ c.if-is_at_relay.false) (λ old new. ExpiresPort old c.args.port c.args.timer None new) (refl, refl))

pub invariant_of-self-2 : goal.invariant_of-self-2
invariant_of-self-2 c =
    let n = c.self.inside in
    let p : IsPlaceOf n.ends.items (owner c.args.side c.args.port) c.in-Some.place = subst (λ (es : List TabledNode). IsPlaceOf es (owner c.args.side c.args.port) c.in-Some.place) c.deref.ensures.value c.in-Some.ensures.found in
    let here : c.index_mut.result.now ≡ get_or n.ends.items c.in-Some.place c.index_mut.result.now = search rules in
    nodes_read n.tables n.relay n.ends.items c.self.invariant (owner c.args.side c.args.port) c.in-Some.place p c.index_mut.result.now here c.expire-2.new.self c.expire-2.ensures.tables c.expire-2.ensures.name

pub returns-clause-expires : goal.returns-clause-expires
returns-clause-expires c =
    let n = c.self.inside in
    let p : IsPlaceOf n.ends.items (owner c.args.side c.args.port) c.in-Some.place = subst (λ (es : List TabledNode). IsPlaceOf es (owner c.args.side c.args.port) c.in-Some.place) c.deref.ensures.value c.in-Some.ensures.found in
    let here : c.index_mut.result.now ≡ get_or n.ends.items c.in-Some.place c.index_mut.result.now = search rules in
    rw (← c.self.view_is) (moves_read n.tables n.relay n.ends.items c.self.invariant (owner c.args.side c.args.port) c.in-Some.place p c.index_mut.result.now here (λ old new. ExpiresPort old c.args.port c.args.timer c.expire-2.result new) c.expire-2.new.self (c.expire-2.ensures.expires) c.expire-2.ensures.name)

pub returns-clause-none : goal.returns-clause-none
returns-clause-none c = λ none.
    let n = c.self.inside in
    let p : IsPlaceOf n.ends.items (owner c.args.side c.args.port) c.in-Some.place = subst (λ (es : List TabledNode). IsPlaceOf es (owner c.args.side c.args.port) c.in-Some.place) c.deref.ensures.value c.in-Some.ensures.found in
    let here : c.index_mut.result.now ≡ get_or n.ends.items c.in-Some.place c.index_mut.result.now = search rules in
    ap (with_ends n.tables n.relay) (stays_read n.tables n.relay n.ends.items c.self.invariant (owner c.args.side c.args.port) c.in-Some.place p c.index_mut.result.now here c.expire-2.new.self (expires_none c.index_mut.result.now.node c.args.port c.args.timer c.expire-2.result c.expire-2.new.self.node c.expire-2.ensures.expires none)) ∙ c.self.view_is
