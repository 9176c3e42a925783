use Rattle.std.proofs.Common.{◌≡◌, List, length, map, take, drop, ◌++◌, ap, sym, ◌∙◌, subst, arith}
use Rattle.std.proofs.lemmas.List.{take_at}
use Rattle.node_model.specs.Rows.{AreOrdered}
use Rattle.node_model.specs.State.{PortSide}
use Rattle.node_model.specs.Switching.{side_after}
use Rattle.node_ports.specs.Order.{side_before}
use Rattle.node_ports.specs.Switching.{entity_after}
use Rattle.node_ports.proofs.Applied.{all_after, order_kept}
use Rattle.node_ports.proofs.ports.Ports.apply.Goals as goal

-- the sides are written back, each as it is once the plan is applied
written : (c : goal.After-drop-entities) → take c.self.inside.sides.len (c.apply.new.sides ++ drop (length c.apply.new.sides) c.self.inside.sides.items)
    ≡ map (side_after c.args.settings c.args.remote c.args.goal c.args.epoch) c.self.inside.sides.items
written c =
    let a = c.args in
    let len : length c.apply.new.sides ≡ c.self.inside.sides.len = omega (arith, c.deref_mut.ensures.len, c.apply.auto.sides) in
    let begun : c.deref_mut-2.result.now ≡ map (entity_after a.settings a.remote a.goal a.epoch) c.deref_mut.result.now =
    c.deref_mut-2.ensures.value ∙ c.in_ok-entities.ensures
    ∙ ap (λ (xs : List PortSide). map (entity_after a.settings a.remote a.goal a.epoch) xs) (c.deref.ensures.value ∙ sym c.deref_mut.ensures.value) in
    take_at c.apply.new.sides _ _ len ∙ c.apply.ensures (entity_after a.settings a.remote a.goal a.epoch) begun
    ∙ all_after a.settings a.remote a.goal a.epoch c.deref_mut.result.now
    ∙ ap (λ (xs : List PortSide). map (side_after a.settings a.remote a.goal a.epoch) xs) c.deref_mut.ensures.value

pub invariant_of-self : goal.invariant_of-self
invariant_of-self c =
    let a = c.args in
    subst (λ (xs : List PortSide). AreOrdered side_before xs) (sym (written c)) (order_kept a.settings a.remote a.goal a.epoch c.self.inside.sides.items c.self.invariant)

pub returns : goal.returns
returns c =
    let a = c.args in
    record { ok = written c ∙ ap (λ (xs : List PortSide). map (side_after a.settings a.remote a.goal a.epoch) xs) c.self.view_is; err = tt }
