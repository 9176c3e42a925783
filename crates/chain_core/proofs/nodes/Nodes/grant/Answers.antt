use Rattle.std.proofs.Common.{◌≡◌, List, get_or, refl, sym, ◌∙◌, subst, rules}
use Rattle.node_model.specs.Names.{NodeName, AtRelay, owner}
use Rattle.node_model.specs.State.{TabledNode}
use Rattle.node_model.proofs.Names.{node_is}
use Rattle.chain_core.specs.Nodes.{all_nodes, IsPlaceOf, HasNone, Moves}
use Rattle.node_model.specs.declared.answers.PortGrant.TheVariants.{NoPort}
use Rattle.node_model.specs.Sides.{GrantsPort}
use Rattle.chain_core.proofs.Ends.{moves_read, nodes_read, moves_nowhere, relay_moves}
use Rattle.chain_core.proofs.nodes.Nodes.grant.Goals as goal

pub returns-then-is_at_relay-clause-ok : goal.returns-then-is_at_relay-clause-ok
returns-then-is_at_relay-clause-ok c =
    let n = c.self.inside in
    rw (← c.self.view_is) (subst (λ (name : NodeName). Moves name (λ old new. GrantsPort old c.args.port c.args.octets c.in_ok-answer.answer new) (all_nodes n.relay n.ends.items) (all_nodes c.grant.new.self n.ends.items)) (node_is AtRelay (owner c.args.side c.args.port) (sym c.is_at_relay.ensures ∙ c.if-is_at_relay.true))
    (relay_moves n.tables n.relay n.ends.items c.self.invariant (λ old new. GrantsPort old c.args.port c.args.octets c.in_ok-answer.answer new) c.grant.new.self (c.in_ok-answer.ensures.ok) c.in_ok-answer.ensures.relay))

pub returns-in_default-clause-ok : goal.returns-in_default-clause-ok
returns-in_default-clause-ok c =
    let n = c.self.inside in
    let none : HasNone n.ends.items (owner c.args.side c.args.port) = subst (λ (es : List TabledNode). HasNone es (owner c.args.side c.args.port)) c.deref.ensures.value c.in_default.ensures.none in
    rw (← c.self.view_is) (moves_nowhere n.tables n.relay n.ends.items c.self.invariant (owner c.args.side c.args.port) none (sym c.is_at_relay.ensures ∙ c.if-is_at_relay.false) (λ old new. GrantsPort old c.args.port c.args.octets NoPort new) (refl, refl))

pub invariant_of-self-2 : goal.invariant_of-self-2
invariant_of-self-2 c =
    let n = c.self.inside in
    let p : IsPlaceOf n.ends.items (owner c.args.side c.args.port) c.in-Some.place = subst (λ (es : List TabledNode). IsPlaceOf es (owner c.args.side c.args.port) c.in-Some.place) c.deref.ensures.value c.in-Some.ensures.found in
    let here : c.index_mut.result.now ≡ get_or n.ends.items c.in-Some.place c.index_mut.result.now = search rules in
    nodes_read n.tables n.relay n.ends.items c.self.invariant (owner c.args.side c.args.port) c.in-Some.place p c.index_mut.result.now here c.grant-2.new.self c.grant-2.ensures.tables c.grant-2.ensures.name

pub returns-clause-ok : goal.returns-clause-ok
returns-clause-ok c =
    let n = c.self.inside in
    let p : IsPlaceOf n.ends.items (owner c.args.side c.args.port) c.in-Some.place = subst (λ (es : List TabledNode). IsPlaceOf es (owner c.args.side c.args.port) c.in-Some.place) c.deref.ensures.value c.in-Some.ensures.found in
    let here : c.index_mut.result.now ≡ get_or n.ends.items c.in-Some.place c.index_mut.result.now = search rules in
    rw (← c.self.view_is) (moves_read n.tables n.relay n.ends.items c.self.invariant (owner c.args.side c.args.port) c.in-Some.place p c.index_mut.result.now here (λ old new. GrantsPort old c.args.port c.args.octets c.in_ok-answer-2.answer new) c.grant-2.new.self (c.in_ok-answer-2.ensures.ok) c.grant-2.ensures.name)
