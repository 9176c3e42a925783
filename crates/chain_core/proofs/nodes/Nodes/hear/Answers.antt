use Rattle.std.proofs.Common.{◌≡◌, List, get_or, refl, sym, ◌∙◌, ap, subst, rules}
use Rattle.node_model.specs.Names.{NodeName, AtRelay, owner}
use Rattle.node_model.specs.State.{Node, TabledNode}
use Rattle.node_model.proofs.Names.{node_is}
use Rattle.chain_core.specs.Nodes.{node_in, all_nodes, IsPlaceOf, HasNone, Moves}
use Rattle.bearer_map.specs.Contents.{Contents}
use Rattle.link_base.specs.declared.names.Side.{Side}
use Rattle.node_model.specs.declared.answers.NodeHeard.TheVariants.{NoPort}
use Rattle.node_model.specs.Hearing.{HearsPdu}
use Rattle.node_end.specs.Node.{side_of}
use Rattle.relay_core.specs.Ports.{relay_side}
use Rattle.chain_core.specs.Nodes.{IsSmallAt}
use Rattle.chain_core.proofs.Ends.{is_read, its_name, its_tables, with_ends, with_node, stays_read, moves_read, nodes_read, moves_nowhere, relay_is_read, relay_moves, end_side, side_of_relay}
use Rattle.chain_core.proofs.Hearing.{hears_still}
use Rattle.chain_core.proofs.nodes.Nodes.hear.Goals as goal

pub hear-requires : goal.hear-requires
hear-requires c =
    let n = c.self.inside in
    subst (λ (m : Node). IsSmallAt m c.args.pdu.now.port) (relay_is_read n.tables n.relay n.ends.items c.self.invariant)
    (subst (λ (name : NodeName). IsSmallAt (node_in (all_nodes n.relay n.ends.items) name) c.args.pdu.now.port) (sym (node_is AtRelay (owner c.args.side c.args.pdu.now.port) (sym c.is_at_relay.ensures ∙ c.if-is_at_relay.true))) (rw (← c.self.view_is) at c.requires))

pub hear-requires-2 : goal.hear-requires-2
hear-requires-2 c =
    let n = c.self.inside in
    let p : IsPlaceOf n.ends.items (owner c.args.side c.args.pdu.now.port) c.in-Some.place = subst (λ (es : List TabledNode). IsPlaceOf es (owner c.args.side c.args.pdu.now.port) c.in-Some.place) c.deref.ensures.value c.in-Some.ensures.found in
    let here : c.index_mut.result.now ≡ get_or n.ends.items c.in-Some.place c.index_mut.result.now = search rules in
    subst (λ (m : Node). IsSmallAt m c.args.pdu.now.port) (is_read n.tables n.relay n.ends.items c.self.invariant (owner c.args.side c.args.pdu.now.port) c.in-Some.place p c.index_mut.result.now here) (rw (← c.self.view_is) at c.requires)

pub returns-then-is_at_relay-clause-ok : goal.returns-then-is_at_relay-clause-ok
returns-then-is_at_relay-clause-ok c =
    let n = c.self.inside in
    rw (← c.self.view_is) (subst (λ (name : NodeName). Moves name (λ old new. HearsPdu n.tables old c.args.side c.args.pdu.now c.in_ok-answer.answer new) (all_nodes n.relay n.ends.items) (all_nodes c.hear.new.self n.ends.items)) (node_is AtRelay (owner c.args.side c.args.pdu.now.port) (sym c.is_at_relay.ensures ∙ c.if-is_at_relay.true))
    (relay_moves n.tables n.relay n.ends.items c.self.invariant (λ old new. HearsPdu n.tables old c.args.side c.args.pdu.now c.in_ok-answer.answer new) c.hear.new.self (subst (λ (t : Contents). HearsPdu t n.relay.node c.args.side c.args.pdu.now c.in_ok-answer.answer c.hear.new.self.node) c.self.invariant.relay_tables
    (subst (λ (side : Side). HearsPdu n.relay.tables n.relay.node side c.args.pdu.now c.in_ok-answer.answer c.hear.new.self.node) (side_of_relay c.args.side c.args.pdu.now.port (sym c.is_at_relay.ensures ∙ c.if-is_at_relay.true)) c.in_ok-answer.ensures.ok)) c.in_ok-answer.ensures.relay))

pub returns-in_default-clause-ok : goal.returns-in_default-clause-ok
returns-in_default-clause-ok c =
    let n = c.self.inside in
    let none : HasNone n.ends.items (owner c.args.side c.args.pdu.now.port) = subst (λ (es : List TabledNode). HasNone es (owner c.args.side c.args.pdu.now.port)) c.deref.ensures.value c.in_default.ensures.none in
    rw (← c.self.view_is) (moves_nowhere n.tables n.relay n.ends.items c.self.invariant (owner c.args.side c.args.pdu.now.port) none (sym c.is_at_relay.ensures ∙ c.if-is_at_relay.false) (λ old new. HearsPdu n.tables old c.args.side c.args.pdu.now NoPort new) (refl, refl))

pub invariant_of-self-in_err-answer-2 : goal.invariant_of-self-in_err-answer-2
invariant_of-self-in_err-answer-2 c =
    let n = c.self.inside in
    let p : IsPlaceOf n.ends.items (owner c.args.side c.args.pdu.now.port) c.in-Some.place = subst (λ (es : List TabledNode). IsPlaceOf es (owner c.args.side c.args.pdu.now.port) c.in-Some.place) c.deref.ensures.value c.in-Some.ensures.found in
    let here : c.index_mut.result.now ≡ get_or n.ends.items c.in-Some.place c.index_mut.result.now = search rules in
    nodes_read n.tables n.relay n.ends.items c.self.invariant (owner c.args.side c.args.pdu.now.port) c.in-Some.place p c.index_mut.result.now here c.hear-2.new.self c.hear-2.ensures.tables c.hear-2.ensures.name

pub invariant_of-self-2 : goal.invariant_of-self-2
invariant_of-self-2 c =
    let n = c.self.inside in
    let p : IsPlaceOf n.ends.items (owner c.args.side c.args.pdu.now.port) c.in-Some.place = subst (λ (es : List TabledNode). IsPlaceOf es (owner c.args.side c.args.pdu.now.port) c.in-Some.place) c.deref.ensures.value c.in-Some.ensures.found in
    let here : c.index_mut.result.now ≡ get_or n.ends.items c.in-Some.place c.index_mut.result.now = search rules in
    nodes_read n.tables n.relay n.ends.items c.self.invariant (owner c.args.side c.args.pdu.now.port) c.in-Some.place p c.index_mut.result.now here c.hear-2.new.self c.hear-2.ensures.tables c.hear-2.ensures.name

pub returns-clause-ok : goal.returns-clause-ok
returns-clause-ok c =
    let n = c.self.inside in
    let p : IsPlaceOf n.ends.items (owner c.args.side c.args.pdu.now.port) c.in-Some.place = subst (λ (es : List TabledNode). IsPlaceOf es (owner c.args.side c.args.pdu.now.port) c.in-Some.place) c.deref.ensures.value c.in-Some.ensures.found in
    let here : c.index_mut.result.now ≡ get_or n.ends.items c.in-Some.place c.index_mut.result.now = search rules in
    rw (← c.self.view_is) (moves_read n.tables n.relay n.ends.items c.self.invariant (owner c.args.side c.args.pdu.now.port) c.in-Some.place p c.index_mut.result.now here (λ old new. HearsPdu n.tables old c.args.side c.args.pdu.now c.in_ok-answer-2.answer new) c.hear-2.new.self (subst (λ (t : Contents). HearsPdu t c.index_mut.result.now.node c.args.side c.args.pdu.now c.in_ok-answer-2.answer c.hear-2.new.self.node) (its_tables n.tables n.relay n.ends.items c.self.invariant (owner c.args.side c.args.pdu.now.port) c.in-Some.place p c.index_mut.result.now here)
    (subst (λ (side : Side). HearsPdu c.index_mut.result.now.tables c.index_mut.result.now.node side c.args.pdu.now c.in_ok-answer-2.answer c.hear-2.new.self.node)
    (ap side_of (its_name n.tables n.relay n.ends.items c.self.invariant (owner c.args.side c.args.pdu.now.port) c.in-Some.place p c.index_mut.result.now here) ∙ end_side c.args.side c.args.pdu.now.port (sym c.is_at_relay.ensures ∙ c.if-is_at_relay.false)) c.in_ok-answer-2.ensures.ok)) c.hear-2.ensures.name)

pub returns-then-is_at_relay-clause-still : goal.returns-then-is_at_relay-clause-still
returns-then-is_at_relay-clause-still c = λ refused.
    let n = c.self.inside in
    ap (with_node n.tables n.ends.items)
    (hears_still n.relay.tables n.relay.node (relay_side c.args.pdu.now.port) c.args.pdu.now c.in_ok-answer.answer c.hear.new.self.node c.in_ok-answer.ensures.ok refused) ∙ c.self.view_is

pub returns-clause-still : goal.returns-clause-still
returns-clause-still c = λ refused.
    let n = c.self.inside in
    let p : IsPlaceOf n.ends.items (owner c.args.side c.args.pdu.now.port) c.in-Some.place = subst (λ (es : List TabledNode). IsPlaceOf es (owner c.args.side c.args.pdu.now.port) c.in-Some.place) c.deref.ensures.value c.in-Some.ensures.found in
    let here : c.index_mut.result.now ≡ get_or n.ends.items c.in-Some.place c.index_mut.result.now = search rules in
    let m = c.index_mut.result.now in
    ap (with_ends n.tables n.relay) (stays_read n.tables n.relay n.ends.items c.self.invariant (owner c.args.side c.args.pdu.now.port) c.in-Some.place p c.index_mut.result.now here c.hear-2.new.self
    (hears_still m.tables m.node (side_of m.node.name) c.args.pdu.now c.in_ok-answer-2.answer c.hear-2.new.self.node c.in_ok-answer-2.ensures.ok refused)) ∙ c.self.view_is
