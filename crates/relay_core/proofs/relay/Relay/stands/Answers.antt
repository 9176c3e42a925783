use Rattle.std.proofs.Common.{◌≡◌, List, map, Option, Some, None, sym, ◌∙◌, ap}
use Rattle.std.specs.Prelude.{find, option_map}
use Rattle.link_base.specs.declared.names.PortName.{PortName}
use Rattle.relay_core.specs.declared.ports.IngressPort.{IngressPort}
use Rattle.relay_core.specs.declared.ports.EgressPort.{EgressPort}
use Rattle.relay_core.specs.Ports.{sides_of, ingress_name}
use Rattle.relay_core.specs.Relay.{queue_capacity}
use Rattle.relay_core.specs.Standing.{in_slot, in_queue, in_uu, first_port, first_place, slot_place, queue_place, tx_place, ingress_bears, queue_bears, uu_bears, egress_name}
use Rattle.relay_core.proofs.Placed.{slots_same, queues_same, uus_same}
use Rattle.relay_core.proofs.relay.Relay.stands.Goals as goal

pub returns-in-Some : goal.returns-in-Some
returns-in-Some c =
    let a = c.self.inside in
    let id = c.args.id in
    let sides = sides_of a.ingress.items a.egress.items in
    let slots : c.slot_bearing.result ≡ first_port (in_slot id) sides = c.slot_bearing.ensures
    ∙ ap (λ (xs : List IngressPort). option_map ingress_name (find (ingress_bears id) xs)) c.deref.ensures.value
    ∙ slots_same (queue_capacity a.tables) (map ingress_name a.ingress.items) id a.ingress.items a.egress.items c.self.invariant.ports.pairs in
    rw (← c.self.view_is) (ap (λ (f : Option PortName). first_place (slot_place f) (first_place (queue_place (first_port (in_queue id) sides)) (tx_place (first_port (in_uu id) sides)))) (sym c.in-Some.is ∙ slots))

pub returns-in-Some-queue_bearing : goal.returns-in-Some-queue_bearing
returns-in-Some-queue_bearing c =
    let a = c.self.inside in
    let id = c.args.id in
    let sides = sides_of a.ingress.items a.egress.items in
    let slots : c.slot_bearing.result ≡ first_port (in_slot id) sides = c.slot_bearing.ensures
    ∙ ap (λ (xs : List IngressPort). option_map ingress_name (find (ingress_bears id) xs)) c.deref.ensures.value
    ∙ slots_same (queue_capacity a.tables) (map ingress_name a.ingress.items) id a.ingress.items a.egress.items c.self.invariant.ports.pairs in
    let queues : c.queue_bearing.result ≡ first_port (in_queue id) sides = c.queue_bearing.ensures
    ∙ ap (λ (xs : List EgressPort). option_map egress_name (find (queue_bears id) xs)) c.deref-2.ensures.value
    ∙ queues_same (queue_capacity a.tables) (map ingress_name a.ingress.items) id a.ingress.items a.egress.items c.self.invariant.ports.pairs in
    rw (← c.self.view_is) (
    ap (λ (f : Option PortName). first_place (slot_place None) (first_place (queue_place f) (tx_place (first_port (in_uu id) sides)))) (sym c.in-Some-queue_bearing.is ∙ queues)
    ∙ ap (λ (f : Option PortName). first_place (slot_place f) (first_place (queue_place (first_port (in_queue id) sides)) (tx_place (first_port (in_uu id) sides)))) (sym c.in_default.is ∙ slots)
    )

pub returns : goal.returns
returns c =
    let a = c.self.inside in
    let id = c.args.id in
    let sides = sides_of a.ingress.items a.egress.items in
    let slots : c.slot_bearing.result ≡ first_port (in_slot id) sides = c.slot_bearing.ensures
    ∙ ap (λ (xs : List IngressPort). option_map ingress_name (find (ingress_bears id) xs)) c.deref.ensures.value
    ∙ slots_same (queue_capacity a.tables) (map ingress_name a.ingress.items) id a.ingress.items a.egress.items c.self.invariant.ports.pairs in
    let queues : c.queue_bearing.result ≡ first_port (in_queue id) sides = c.queue_bearing.ensures
    ∙ ap (λ (xs : List EgressPort). option_map egress_name (find (queue_bears id) xs)) c.deref-2.ensures.value
    ∙ queues_same (queue_capacity a.tables) (map ingress_name a.ingress.items) id a.ingress.items a.egress.items c.self.invariant.ports.pairs in
    let uus : c.uu_bearing.result ≡ first_port (in_uu id) sides = c.uu_bearing.ensures
    ∙ ap (λ (xs : List EgressPort). option_map egress_name (find (uu_bears id) xs)) c.deref-3.ensures.value
    ∙ uus_same (queue_capacity a.tables) (map ingress_name a.ingress.items) id a.ingress.items a.egress.items c.self.invariant.ports.pairs in
    rw (← c.self.view_is) (c.uu_place.ensures ∙ (
    ap (λ (f : Option PortName). first_place (slot_place None) (first_place (queue_place None) (tx_place f))) uus
    ∙ ap (λ (f : Option PortName). first_place (slot_place None) (first_place (queue_place f) (tx_place (first_port (in_uu id) sides)))) (sym c.in_default-queue_bearing.is ∙ queues)
    ∙ ap (λ (f : Option PortName). first_place (slot_place f) (first_place (queue_place (first_port (in_queue id) sides)) (tx_place (first_port (in_uu id) sides)))) (sym c.in_default.is ∙ slots)
    ))
