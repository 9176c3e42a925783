use Rattle.std.proofs.Common.{◌≡◌, List, get_or, refl, subst, rules}
use Rattle.node_model.specs.State.{TabledNode}
use Rattle.chain_core.specs.Nodes.{IsPlaceOf, HasNone}
use Rattle.node_model.specs.Names.{sink}
use Rattle.chain_core.specs.Nodes.{WantsReport}
use Rattle.chain_core.proofs.Ends.{moves_read, nodes_read, moves_nowhere, sink_apart}
use Rattle.chain_core.proofs.nodes.Nodes.want_report.Goals as goal

pub returns-in_default-clause-wants : goal.returns-in_default-clause-wants
returns-in_default-clause-wants c =
    let n = c.self.inside in
    let none : HasNone n.ends.items (sink c.args.key) = subst (λ (es : List TabledNode). HasNone es (sink c.args.key)) c.deref.ensures.value c.in_default.ensures.none in
    rw (← c.self.view_is) (moves_nowhere n.tables n.relay n.ends.items c.self.invariant (sink c.args.key) none (sink_apart c.args.key) (WantsReport c.args.key) refl)

pub invariant_of-self : goal.invariant_of-self
invariant_of-self c =
    let n = c.self.inside in
    let p : IsPlaceOf n.ends.items (sink c.args.key) c.in-Some.place = subst (λ (es : List TabledNode). IsPlaceOf es (sink c.args.key) c.in-Some.place) c.deref.ensures.value c.in-Some.ensures.found in
    let here : c.index_mut.result.now ≡ get_or n.ends.items c.in-Some.place c.index_mut.result.now = search rules in
    nodes_read n.tables n.relay n.ends.items c.self.invariant (sink c.args.key) c.in-Some.place p c.index_mut.result.now here c.want_report.new.self c.want_report.ensures.tables c.want_report.ensures.name

pub returns-clause-wants : goal.returns-clause-wants
returns-clause-wants c =
    let n = c.self.inside in
    let p : IsPlaceOf n.ends.items (sink c.args.key) c.in-Some.place = subst (λ (es : List TabledNode). IsPlaceOf es (sink c.args.key) c.in-Some.place) c.deref.ensures.value c.in-Some.ensures.found in
    let here : c.index_mut.result.now ≡ get_or n.ends.items c.in-Some.place c.index_mut.result.now = search rules in
    rw (← c.self.view_is) (moves_read n.tables n.relay n.ends.items c.self.invariant (sink c.args.key) c.in-Some.place p c.index_mut.result.now here (WantsReport c.args.key) c.want_report.new.self (c.want_report.ensures.wants) c.want_report.ensures.name)
