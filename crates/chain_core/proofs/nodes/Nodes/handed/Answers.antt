use Rattle.std.proofs.Common.{◌≡◌, List, get_or, sym, ◌∙◌, ap, subst, rules}
use Rattle.node_model.specs.State.{Node, TabledNode}
use Rattle.chain_core.specs.Nodes.{IsPlaceOf, HasNone}
use Rattle.node_model.specs.Names.{sink}
use Rattle.node_model.specs.State.{incoming}
use Rattle.chain_core.proofs.Ends.{is_read, reads_nowhere, sink_apart}
use Rattle.chain_core.proofs.nodes.Nodes.handed.Goals as goal

pub returns-in-Some : goal.returns-in-Some
returns-in-Some c =
    let n = c.self.inside in
    let p : IsPlaceOf n.ends.items (sink c.args.key) c.in-Some.place = subst (λ (es : List TabledNode). IsPlaceOf es (sink c.args.key) c.in-Some.place) c.deref.ensures.value c.in-Some.ensures.found in
    let here : c.index.result.now ≡ get_or n.ends.items c.in-Some.place c.index.result.now = search rules in
    rw (← c.self.view_is) (c.handed.ensures ∙ ap (λ (m : Node). (incoming m c.args.key).receiver.handed) (sym (is_read n.tables n.relay n.ends.items c.self.invariant (sink c.args.key) c.in-Some.place p c.index.result.now here)))

pub returns-in-None : goal.returns-in-None
returns-in-None c =
    let n = c.self.inside in
    let none : HasNone n.ends.items (sink c.args.key) = subst (λ (es : List TabledNode). HasNone es (sink c.args.key)) c.deref.ensures.value c.in-None.ensures.none in
    rw (← c.self.view_is) (ap (λ (m : Node). (incoming m c.args.key).receiver.handed) (sym (reads_nowhere n.tables n.relay n.ends.items c.self.invariant (sink c.args.key) none (sink_apart c.args.key))))
