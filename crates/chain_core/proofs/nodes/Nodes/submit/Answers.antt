use Rattle.std.proofs.Common.{◌≡◌, List, get_or, subst, rules}
use Rattle.node_model.specs.State.{Node, TabledNode}
use Rattle.chain_core.specs.Nodes.{IsPlaceOf, HasNone}
use Rattle.std.proofs.Common.{IsSome}
use Rattle.std.proofs.lemmas.Bool.{false≢true}
use Rattle.node_model.specs.Names.{source}
use Rattle.node_model.specs.State.{outgoing_at}
use Rattle.node_bearers.specs.Calls.{Submits}
use Rattle.chain_core.proofs.Ends.{is_read, moves_read, nodes_read, reads_nowhere, source_apart}
use Rattle.chain_core.proofs.nodes.Nodes.submit.Goals as goal

pub unreachable-requires : goal.unreachable-requires
unreachable-requires c =
    let n = c.self.inside in
    let none : HasNone n.ends.items (source c.args.key) = subst (λ (es : List TabledNode). HasNone es (source c.args.key)) c.deref.ensures.value c.in_default.ensures.none in
    absurd (false≢true (subst (λ (m : Node). IsSome (outgoing_at m c.args.key)) (reads_nowhere n.tables n.relay n.ends.items c.self.invariant (source c.args.key) none (source_apart c.args.key)) (rw (← c.self.view_is) at c.requires)))

pub submit-requires : goal.submit-requires
submit-requires c =
    let n = c.self.inside in
    let p : IsPlaceOf n.ends.items (source c.args.key) c.in-Some.place = subst (λ (es : List TabledNode). IsPlaceOf es (source c.args.key) c.in-Some.place) c.deref.ensures.value c.in-Some.ensures.found in
    let here : c.index_mut.result.now ≡ get_or n.ends.items c.in-Some.place c.index_mut.result.now = search rules in
    subst (λ (m : Node). IsSome (outgoing_at m c.args.key)) (is_read n.tables n.relay n.ends.items c.self.invariant (source c.args.key) c.in-Some.place p c.index_mut.result.now here) (rw (← c.self.view_is) at c.requires)

pub returns-in_err-count-clause-fault : goal.returns-in_err-count-clause-fault
returns-in_err-count-clause-fault c =
    let n = c.self.inside in
    let p : IsPlaceOf n.ends.items (source c.args.key) c.in-Some.place = subst (λ (es : List TabledNode). IsPlaceOf es (source c.args.key) c.in-Some.place) c.deref.ensures.value c.in-Some.ensures.found in
    let here : c.index_mut.result.now ≡ get_or n.ends.items c.in-Some.place c.index_mut.result.now = search rules in
    rw (← c.self.view_is, is_read n.tables n.relay n.ends.items c.self.invariant (source c.args.key) c.in-Some.place p c.index_mut.result.now here) (search rules)

pub invariant_of-self-2 : goal.invariant_of-self-2
invariant_of-self-2 c =
    let n = c.self.inside in
    let p : IsPlaceOf n.ends.items (source c.args.key) c.in-Some.place = subst (λ (es : List TabledNode). IsPlaceOf es (source c.args.key) c.in-Some.place) c.deref.ensures.value c.in-Some.ensures.found in
    let here : c.index_mut.result.now ≡ get_or n.ends.items c.in-Some.place c.index_mut.result.now = search rules in
    nodes_read n.tables n.relay n.ends.items c.self.invariant (source c.args.key) c.in-Some.place p c.index_mut.result.now here c.submit.new.self c.submit.ensures.tables c.submit.ensures.name

pub returns-clause-ok : goal.returns-clause-ok
returns-clause-ok c =
    let n = c.self.inside in
    let p : IsPlaceOf n.ends.items (source c.args.key) c.in-Some.place = subst (λ (es : List TabledNode). IsPlaceOf es (source c.args.key) c.in-Some.place) c.deref.ensures.value c.in-Some.ensures.found in
    let here : c.index_mut.result.now ≡ get_or n.ends.items c.in-Some.place c.index_mut.result.now = search rules in
    rw (← c.self.view_is) (moves_read n.tables n.relay n.ends.items c.self.invariant (source c.args.key) c.in-Some.place p c.index_mut.result.now here (λ old new. Submits old c.args.key c.args.sdu.now c.in_ok-count.count new) c.submit.new.self (c.in_ok-count.ensures.ok) c.submit.ensures.name)
