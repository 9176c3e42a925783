use Rattle.std.proofs.Common.{◌≡◌, Bool, true, false, ◌&&◌, sym, ◌∙◌, ap, map}
use Rattle.std.specs.List.{list_all}
use Rattle.relay_core.specs.declared.ports.IngressPort.{IngressPort}
use Rattle.relay_core.specs.declared.ports.EgressPort.{EgressPort}
use Rattle.relay_core.specs.Ports.{ArePort, ingress_name}
use Rattle.relay_core.specs.Relay.{queue_capacity, has_empty_slot, has_empty_queue}
use Rattle.relay_core.proofs.Pairs.{sides_empty}
use Rattle.relay_core.proofs.relay.Relay.is_empty.Goals as goal

pub returns-then-not-slots_are_empty : goal.returns-then-not-slots_are_empty
returns-then-not-slots_are_empty c =
    let a = c.self.inside in
    let queues = list_all has_empty_queue a.egress.items in
    let slots : false ≡ list_all has_empty_slot a.ingress.items = c.if-not-slots_are_empty.ensures ∙ ap (list_all has_empty_slot) c.deref.ensures.value in
    let both = sides_empty (ArePort (queue_capacity a.tables) (map ingress_name a.ingress.items)) a.ingress.items a.egress.items c.self.invariant.ports.pairs in
    rw (← c.self.view_is) (ap (λ (b : Bool). b && queues) slots ∙ sym both)

pub returns : goal.returns
returns c =
    let a = c.self.inside in
    let queues : c.queues_are_empty.result ≡ list_all has_empty_queue a.egress.items = c.queues_are_empty.ensures ∙ ap (list_all has_empty_queue) c.deref-2.ensures.value in
    let slots : true ≡ list_all has_empty_slot a.ingress.items = c.if-not-slots_are_empty.ensures ∙ ap (list_all has_empty_slot) c.deref.ensures.value in
    let both = sides_empty (ArePort (queue_capacity a.tables) (map ingress_name a.ingress.items)) a.ingress.items a.egress.items c.self.invariant.ports.pairs in
    rw (← c.self.view_is) (queues ∙ ap (λ (b : Bool). b && list_all has_empty_queue a.egress.items) slots ∙ sym both)
