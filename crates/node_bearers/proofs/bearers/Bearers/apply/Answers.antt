use Rattle.std.proofs.Common.{◌≡◌, List, length, map, take, drop, ◌++◌, ap, sym, ◌∙◌, subst, arith}
use Rattle.std.proofs.lemmas.List.{take_at}
use Rattle.node_bearers.specs.declared.bearer.Bearer.{Bearer}
use Rattle.node_bearers.specs.Order.{IsInOrder}
use Rattle.node_bearers.specs.Switching.{bearer_after}
use Rattle.node_bearers.specs.Table.{node_with}
use Rattle.node_bearers.proofs.Switched.{after_in_order, node_after_with}
use Rattle.node_bearers.proofs.bearers.Bearers.apply.Goals as goal

pub invariant_of-self : goal.invariant_of-self
invariant_of-self c =
    let rows = c.self.inside.rows in
    let len : length c.apply.new.rows ≡ rows.len = omega (arith, c.deref_mut.ensures.len, c.apply.auto.rows) in
    let written : take rows.len (c.apply.new.rows ++ drop (length c.apply.new.rows) rows.items) ≡ map (bearer_after c.args.remote) rows.items =
    take_at c.apply.new.rows _ _ len ∙ (c.apply.ensures ∙ ap (λ (bs : List Bearer). map (bearer_after c.args.remote) bs) c.deref_mut.ensures.value) in
    subst (λ (bs : List Bearer). IsInOrder bs) (sym written) (after_in_order c.args.remote rows.items c.self.invariant)

pub returns : goal.returns
returns c =
    let a = c.self.inside in
    let rows = a.rows in
    let len : length c.apply.new.rows ≡ rows.len = omega (arith, c.deref_mut.ensures.len, c.apply.auto.rows) in
    let written : take rows.len (c.apply.new.rows ++ drop (length c.apply.new.rows) rows.items) ≡ map (bearer_after c.args.remote) rows.items =
    take_at c.apply.new.rows _ _ len ∙ (c.apply.ensures ∙ ap (λ (bs : List Bearer). map (bearer_after c.args.remote) bs) c.deref_mut.ensures.value) in
    rw (← c.self.view_is) (ap (λ (bs : List Bearer). node_with a.sends bs) written ∙ node_after_with c.args.remote a.sends rows.items)
