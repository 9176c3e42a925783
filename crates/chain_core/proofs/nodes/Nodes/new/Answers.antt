use Rattle.std.proofs.Common.{◌≡◌, List, [], ◌∷◌, ◌++◌, length, map, take_all, sym, ◌∙◌, ap, subst, arith}
use Rattle.node_model.specs.State.{TabledNode}
use Rattle.chain_core.specs.Nodes.{all_nodes, AreNodes}
use Rattle.chain_core.proofs.Opening.{new_end, gnb_end, relay_end, all_new, are_new}
use Rattle.chain_core.proofs.nodes.Nodes.new.Goals as goal

pub invariant_of-result : goal.invariant_of-result
invariant_of-result c =
    let t = c.args.tables in
    let ends : c.push-2.new.self.items ≡ map (new_end t) t.remotes ++ gnb_end t ∷ [] =
    c.in_ok-push-2.ensures.items
    ∙ ap (λ (es : List TabledNode). es ++ c.in_ok-of_gnb.field-0 ∷ []) (c.loop-row.invariant ∙ ap (map (new_end t)) (take_all c.loop-row.row-index t.remotes (omega (arith, c.loop-row-test.false, ap (λ (rows : List _). length rows) c.remotes-row-items.ensures.rows))))
    ∙ ap (λ (e : TabledNode). map (new_end t) t.remotes ++ e ∷ []) c.in_ok-of_gnb.ensures
    in
    subst (λ (relay : TabledNode). AreNodes t relay c.push-2.new.self.items) (sym c.in_ok-relay.ensures)
    (subst (AreNodes t (relay_end t)) (sym ends) (are_new t c.remotes-row-items.ensures.order.ascend))

pub returns-clause-nodes : goal.returns-clause-nodes
returns-clause-nodes c =
    let t = c.args.tables in
    let ends : c.push-2.new.self.items ≡ map (new_end t) t.remotes ++ gnb_end t ∷ [] =
    c.in_ok-push-2.ensures.items
    ∙ ap (λ (es : List TabledNode). es ++ c.in_ok-of_gnb.field-0 ∷ []) (c.loop-row.invariant ∙ ap (map (new_end t)) (take_all c.loop-row.row-index t.remotes (omega (arith, c.loop-row-test.false, ap (λ (rows : List _). length rows) c.remotes-row-items.ensures.rows))))
    ∙ ap (λ (e : TabledNode). map (new_end t) t.remotes ++ e ∷ []) c.in_ok-of_gnb.ensures
    in
    ap (λ (relay : TabledNode). all_nodes relay c.push-2.new.self.items) c.in_ok-relay.ensures ∙ ap (all_nodes (relay_end t)) ends ∙ all_new t
