use Rattle.std.proofs.Common.{◌≡◌, List, length, map, take, drop, ◌++◌, sum_by, sym, ◌∙◌, ap, arith}
use Rattle.std.proofs.lemmas.List.{take_at}
use Rattle.link_base.specs.declared.names.Goal.TheVariants.{Direct}
use Rattle.node_model.specs.State.{Node}
use Rattle.node_model.specs.Tables.{settings}
use Rattle.node_model.specs.Switching.{node_after}
use Rattle.relay_core.specs.declared.ports.IngressPort.{IngressPort}
use Rattle.relay_core.specs.declared.ports.EgressPort.{EgressPort}
use Rattle.relay_core.specs.Ports.{sides_of, ingress_name}
use Rattle.relay_core.specs.Relay.{relay_with, queue_capacity}
use Rattle.relay_core.specs.Switching.{fitting, purged_ingress, purged_egress, dropped_in_slot, dropped_in_queue}
use Rattle.relay_core.proofs.Purged.{node_purged, ports_are, leads_still, fits_both, dropped_sum}
use Rattle.relay_core.proofs.PurgedTwice.{purged_twice}
use Rattle.relay_core.proofs.relay.Relay.purge.Goals as goal

pub invariant_of-self : goal.invariant_of-self
invariant_of-self c =
    let a = c.self.inside in
    let s = settings a.tables in
    let r = c.args.remote in
    let is' = c.purge_ingresses-in_slots.new.ports in
    let es' = c.purge_egresses-in_queues.new.ports in
    let is_long : length is' ≡ a.ingress.len = omega (arith, c.deref_mut.ensures.len, c.purge_ingresses-in_slots.auto.ports) in
    let es_long : length es' ≡ a.egress.len = omega (arith, c.deref_mut-2.ensures.len, c.purge_egresses-in_queues.auto.ports) in
    let ingress : take a.ingress.len (is' ++ drop (length is') a.ingress.items) ≡ map (purged_ingress r) a.ingress.items =
    take_at is' _ _ is_long ∙ (c.purge_ingresses-in_slots.ensures.purged ∙ ap (λ (xs : List IngressPort). map (purged_ingress r) xs) c.deref_mut.ensures.value) in
    let egress : take a.egress.len (es' ++ drop (length es') a.egress.items) ≡ map (purged_egress r) a.egress.items =
    take_at es' _ _ es_long ∙ (c.purge_egresses-in_queues.ensures.purged ∙ ap (λ (xs : List EgressPort). map (purged_egress r) xs) c.deref_mut-2.ensures.value) in
    record {
      ports = ports_are s r (queue_capacity a.tables) a.ingress.items a.egress.items a.ids c.self.invariant.ports _ _ c.detach.new.self ingress egress c.detach.ensures;
      leads = leads_still s r (queue_capacity a.tables) a.ingress.items a.egress.items a.ids c.self.invariant.ports _ _ c.detach.new.self ingress egress c.detach.ensures a.tables.maps c.self.invariant.leads;
    }

pub returns-clause-purges : goal.returns-clause-purges
returns-clause-purges c =
    let a = c.self.inside in
    let s = settings a.tables in
    let r = c.args.remote in
    let is' = c.purge_ingresses-in_slots.new.ports in
    let es' = c.purge_egresses-in_queues.new.ports in
    let is_long : length is' ≡ a.ingress.len = omega (arith, c.deref_mut.ensures.len, c.purge_ingresses-in_slots.auto.ports) in
    let es_long : length es' ≡ a.egress.len = omega (arith, c.deref_mut-2.ensures.len, c.purge_egresses-in_queues.auto.ports) in
    let ingress : take a.ingress.len (is' ++ drop (length is') a.ingress.items) ≡ map (purged_ingress r) a.ingress.items =
    take_at is' _ _ is_long ∙ (c.purge_ingresses-in_slots.ensures.purged ∙ ap (λ (xs : List IngressPort). map (purged_ingress r) xs) c.deref_mut.ensures.value) in
    let egress : take a.egress.len (es' ++ drop (length es') a.egress.items) ≡ map (purged_egress r) a.egress.items =
    take_at es' _ _ es_long ∙ (c.purge_egresses-in_queues.ensures.purged ∙ ap (λ (xs : List EgressPort). map (purged_egress r) xs) c.deref_mut-2.ensures.value) in
    rw (← c.self.view_is) (node_purged s r (queue_capacity a.tables) a.ingress.items a.egress.items a.ids c.self.invariant.ports _ _ c.detach.new.self ingress egress c.detach.ensures)

pub returns-clause-dropped : goal.returns-clause-dropped
returns-clause-dropped c =
    let a = c.self.inside in
    let r = c.args.remote in
    let slots : c.purge_ingresses-in_slots.result ≡ fitting (sum_by (dropped_in_slot r) a.ingress.items) =
    c.purge_ingresses-in_slots.ensures.dropped ∙ ap (λ (xs : List IngressPort). fitting (sum_by (dropped_in_slot r) xs)) c.deref_mut.ensures.value in
    let queues : c.purge_egresses-in_queues.result ≡ fitting (sum_by (dropped_in_queue r) a.egress.items) =
    c.purge_egresses-in_queues.ensures.dropped ∙ ap (λ (xs : List EgressPort). fitting (sum_by (dropped_in_queue r) xs)) c.deref_mut-2.ensures.value in
    rw (← c.self.view_is) (fits_both _ _ _ _ _ _ slots queues c.saturating_add.ensures
    (dropped_sum r (queue_capacity a.tables) (map ingress_name a.ingress.items) a.ingress.items a.egress.items c.self.invariant.ports.pairs))

pub returns-clause-purged : goal.returns-clause-purged
returns-clause-purged c =
    let a = c.self.inside in
    let s = settings a.tables in
    let r = c.args.remote in
    let is' = c.purge_ingresses-in_slots.new.ports in
    let es' = c.purge_egresses-in_queues.new.ports in
    let is_long : length is' ≡ a.ingress.len = omega (arith, c.deref_mut.ensures.len, c.purge_ingresses-in_slots.auto.ports) in
    let es_long : length es' ≡ a.egress.len = omega (arith, c.deref_mut-2.ensures.len, c.purge_egresses-in_queues.auto.ports) in
    let ingress : take a.ingress.len (is' ++ drop (length is') a.ingress.items) ≡ map (purged_ingress r) a.ingress.items =
    take_at is' _ _ is_long ∙ (c.purge_ingresses-in_slots.ensures.purged ∙ ap (λ (xs : List IngressPort). map (purged_ingress r) xs) c.deref_mut.ensures.value) in
    let egress : take a.egress.len (es' ++ drop (length es') a.egress.items) ≡ map (purged_egress r) a.egress.items =
    take_at es' _ _ es_long ∙ (c.purge_egresses-in_queues.ensures.purged ∙ ap (λ (xs : List EgressPort). map (purged_egress r) xs) c.deref_mut-2.ensures.value) in
    let is = node_purged s r (queue_capacity a.tables) a.ingress.items a.egress.items a.ids c.self.invariant.ports _ _ c.detach.new.self ingress egress c.detach.ensures 0 in
    ap (λ (n : Node). node_after s r Direct 0 n) is ∙ purged_twice s r (sides_of a.ingress.items a.egress.items) a.ids ∙ sym is
