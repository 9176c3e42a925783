use Rattle.std.proofs.Common.{◌≡◌, List, get_or, sym, ◌∙◌, ap, subst, rules}
use Rattle.node_model.specs.State.{Node, TabledNode}
use Rattle.chain_core.specs.Nodes.{IsPlaceOf, HasNone}
use Rattle.pdcp_model.specs.Sender.{confirmed}
use Rattle.node_model.specs.Names.{source}
use Rattle.node_model.specs.State.{outgoing}
use Rattle.chain_core.proofs.Ends.{is_read, reads_nowhere, source_apart}
use Rattle.chain_core.proofs.nodes.Nodes.confirmed.Goals as goal

pub returns-in-Some : goal.returns-in-Some
returns-in-Some c =
    let n = c.self.inside in
    let p : IsPlaceOf n.ends.items (source c.args.key) c.in-Some.place = subst (λ (es : List TabledNode). IsPlaceOf es (source c.args.key) c.in-Some.place) c.deref.ensures.value c.in-Some.ensures.found in
    let here : c.index.result.now ≡ get_or n.ends.items c.in-Some.place c.index.result.now = search rules in
    rw (← c.self.view_is) (c.confirmed.ensures ∙ ap (λ (m : Node). confirmed (outgoing m c.args.key).sender) (sym (is_read n.tables n.relay n.ends.items c.self.invariant (source c.args.key) c.in-Some.place p c.index.result.now here)))

pub returns-in-None : goal.returns-in-None
returns-in-None c =
    let n = c.self.inside in
    let none : HasNone n.ends.items (source c.args.key) = subst (λ (es : List TabledNode). HasNone es (source c.args.key)) c.deref.ensures.value c.in-None.ensures.none in
    rw (← c.self.view_is) (ap (λ (m : Node). confirmed (outgoing m c.args.key).sender) (sym (reads_nowhere n.tables n.relay n.ends.items c.self.invariant (source c.args.key) none (source_apart c.args.key))))
