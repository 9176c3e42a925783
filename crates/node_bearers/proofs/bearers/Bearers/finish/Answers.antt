use Rattle.std.proofs.Common.{◌≡◌, List, length, map, take, drop, ◌++◌, ap, sym, ◌∙◌, subst, arith}
use Rattle.std.proofs.lemmas.List.{take_at}
use Rattle.node_bearers.specs.declared.bearer.Bearer.{Bearer}
use Rattle.node_bearers.specs.Order.{IsInOrder}
use Rattle.node_bearers.specs.Switching.{bearer_closed}
use Rattle.node_bearers.specs.Table.{node_with}
use Rattle.node_bearers.proofs.Switched.{closed_in_order, node_closed_with}
use Rattle.node_bearers.proofs.bearers.Bearers.finish.Goals as goal

pub invariant_of-self : goal.invariant_of-self
invariant_of-self c =
    let rows = c.self.inside.rows in
    let len : length c.finish.new.rows ≡ rows.len = omega (arith, c.deref_mut.ensures.len, c.finish.auto.rows) in
    let written : take rows.len (c.finish.new.rows ++ drop (length c.finish.new.rows) rows.items) ≡ map (bearer_closed c.args.remote) rows.items =
    take_at c.finish.new.rows _ _ len ∙ (c.finish.ensures ∙ ap (λ (bs : List Bearer). map (bearer_closed c.args.remote) bs) c.deref_mut.ensures.value) in
    subst (λ (bs : List Bearer). IsInOrder bs) (sym written) (closed_in_order c.args.remote rows.items c.self.invariant)

pub returns : goal.returns
returns c =
    let a = c.self.inside in
    let rows = a.rows in
    let len : length c.finish.new.rows ≡ rows.len = omega (arith, c.deref_mut.ensures.len, c.finish.auto.rows) in
    let written : take rows.len (c.finish.new.rows ++ drop (length c.finish.new.rows) rows.items) ≡ map (bearer_closed c.args.remote) rows.items =
    take_at c.finish.new.rows _ _ len ∙ (c.finish.ensures ∙ ap (λ (bs : List Bearer). map (bearer_closed c.args.remote) bs) c.deref_mut.ensures.value) in
    rw (← c.self.view_is) (ap (λ (bs : List Bearer). node_with a.sends bs) written ∙ node_closed_with c.args.remote a.sends rows.items)
