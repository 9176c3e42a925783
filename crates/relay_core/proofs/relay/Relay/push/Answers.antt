use Rattle.std.proofs.Common.{◌≡◌, ◌≤◌, ℕ, List, length, map, nat_le, true, false, Some, None, Option, is_some, refl, sym, ◌∙◌, ap, subst, arith}
use Rattle.std.specs.Prelude.{IfSome}
use Rattle.std.proofs.lemmas.Bool.{le-leb, true≢false}
use Rattle.std.proofs.lemmas.Option.{same_Some}
use Rattle.node_model.specs.declared.parcel.Parcel.{Parcel}
use Rattle.link_base.specs.declared.names.PortName.{PortName}
use Rattle.node_model.specs.Relaying.{push_refusal}
use Rattle.relay_core.specs.declared.ports.IngressPort.{IngressPort}
use Rattle.relay_core.specs.declared.ports.EgressPort.{EgressPort}
use Rattle.relay_core.specs.Ports.{ArePorts, IsHeardOver, sides_of, ingress_name}
use Rattle.relay_core.specs.Relay.{relay_with, queue_capacity}
use Rattle.relay_core.proofs.AtPlace.{seen_in_order, none_seen, within_egresses, within_ingresses, among_seen, same_at, stands_in, stands_out, its_pair, its_name, leads_stay}
use Rattle.relay_core.proofs.Moving.{none_is_none, some_is_not_none, push_closed, push_nothing, push_full, push_done, push_ports, room_at, emptied}
use Rattle.relay_core.proofs.relay.Relay.push.Goals as goal

pub row_of-requires : goal.row_of-requires
row_of-requires c = seen_in_order c.self.invariant.ports c.deref.result.now c.deref.ensures.value

pub returns-in_default-clause-pushes : goal.returns-in_default-clause-pushes
returns-in_default-clause-pushes c =
    let a = c.self.inside in
    let n = relay_with (sides_of a.ingress.items a.egress.items) a.ids in
    rw (← c.self.view_is) (ap (push_refusal (queue_capacity a.tables) n) (none_seen c.self.invariant.ports c.deref.result.now c.deref.ensures.value c.args.port c.in_default.ensures.none), refl)

pub returns-then-is_none-clause-pushes : goal.returns-then-is_none-clause-pushes
returns-then-is_none-clause-pushes c =
    let a = c.self.inside in
    let s = stands_in c.self.invariant.ports c.deref.result.now c.deref.ensures.value c.args.port c.in-Some.place c.in-Some.ensures.found c.index.result.now c.index.ensures in
    rw (← c.self.view_is) (push_closed s (relay_with (sides_of a.ingress.items a.egress.items) a.ids) refl (none_is_none c.index.result.now.rx c.if-is_none.ensures))

pub returns-in_default-slot-clause-pushes : goal.returns-in_default-slot-clause-pushes
returns-in_default-slot-clause-pushes c =
    let a = c.self.inside in
    let lt = within_ingresses c.self.invariant.ports c.deref.result.now c.deref.ensures.value c.args.port c.in-Some.place c.in-Some.ensures.found in
    let s = stands_in c.self.invariant.ports c.deref.result.now c.deref.ensures.value c.args.port c.in-Some.place c.in-Some.ensures.found c.index-2.result.now c.index-2.ensures in
    let its : c.index-2.result.now ≡ c.index.result.now = same_at a.ingress.items c.in-Some.place _ _ lt c.index-2.ensures c.index.ensures in
    let opens = some_is_not_none c.index-2.result.now.rx (ap (λ (i : IngressPort). is_some i.rx) its ∙ c.if-is_none.ensures) in
    rw (← c.self.view_is) (push_nothing s (relay_with (sides_of a.ingress.items a.egress.items) a.ids) refl opens c.in_default-slot.is)

pub row_of-requires-2 : goal.row_of-requires-2
row_of-requires-2 c = seen_in_order c.self.invariant.ports c.deref-2.result.now c.deref-2.ensures.value

pub unreachable-requires : goal.unreachable-requires
unreachable-requires c =
    let a = c.self.inside in
    let s = stands_in c.self.invariant.ports c.deref.result.now c.deref.ensures.value c.args.port c.in-Some.place c.in-Some.ensures.found c.index-2.result.now c.index-2.ensures in
    let held : IsHeardOver (map ingress_name a.ingress.items) c.index-2.result.now.name c.in-Some-slot.parcel =
    subst (λ (o : Option Parcel). IfSome o (IsHeardOver (map ingress_name a.ingress.items) c.index-2.result.now.name)) c.in-Some-slot.is (its_pair s).in_slot in
    among_seen c.self.invariant.ports c.deref-2.result.now c.deref-2.ensures.value c.in-Some-slot.parcel.route.egress held.leads c.in_default-row_of.ensures.none

pub index-requires-3 : goal.index-requires-3
index-requires-3 c = omega (arith, c.self.inside.egress.ok.0, within_egresses c.self.invariant.ports c.deref-2.result.now c.deref-2.ensures.value c.in-Some-slot.parcel.route.egress c.in-Some-row_of.to c.in-Some-row_of.ensures.found)

pub index_mut-requires-2 : goal.index_mut-requires-2
index_mut-requires-2 c = omega (arith, c.self.inside.egress.ok.0, within_egresses c.self.invariant.ports c.deref-2.result.now c.deref-2.ensures.value c.in-Some-slot.parcel.route.egress c.in-Some-row_of.to c.in-Some-row_of.ensures.found)

pub returns-then-is_full-clause-pushes : goal.returns-then-is_full-clause-pushes
returns-then-is_full-clause-pushes c =
    let a = c.self.inside in
    let n = relay_with (sides_of a.ingress.items a.egress.items) a.ids in
    let lt = within_ingresses c.self.invariant.ports c.deref.result.now c.deref.ensures.value c.args.port c.in-Some.place c.in-Some.ensures.found in
    let s = stands_in c.self.invariant.ports c.deref.result.now c.deref.ensures.value c.args.port c.in-Some.place c.in-Some.ensures.found c.index-2.result.now c.index-2.ensures in
    let its : c.index-2.result.now ≡ c.index.result.now = same_at a.ingress.items c.in-Some.place _ _ lt c.index-2.ensures c.index.ensures in
    let opens = some_is_not_none c.index-2.result.now.rx (ap (λ (i : IngressPort). is_some i.rx) its ∙ c.if-is_none.ensures) in
    let b = stands_out c.self.invariant.ports c.deref-2.result.now c.deref-2.ensures.value c.in-Some-slot.parcel.route.egress c.in-Some-row_of.to c.in-Some-row_of.ensures.found c.index-3.result.now c.index-3.ensures in
    let fills = room_at s n refl b c.in-Some-slot.parcel opens c.in-Some-slot.is refl c.index-3.result.now refl c.is_full.result c.is_full.ensures in
    rw (← c.self.view_is) (push_full s n refl b c.in-Some-slot.parcel opens c.in-Some-slot.is refl (fills ∙ c.if-is_full.true))

pub unreachable-requires-in_default-push : goal.unreachable-requires-in_default-push
unreachable-requires-in_default-push c =
    let a = c.self.inside in
    let lt = within_egresses c.self.invariant.ports c.deref-2.result.now c.deref-2.ensures.value c.in-Some-slot.parcel.route.egress c.in-Some-row_of.to c.in-Some-row_of.ensures.found in
    let its : c.index_mut-2.result.now ≡ c.index-3.result.now = same_at a.egress.items c.in-Some-row_of.to _ _ lt c.index_mut-2.ensures.value c.index-3.ensures in
    let full : nat_le c.index_mut-2.result.now.queue.capacity (length c.index_mut-2.result.now.queue.parcels) ≡ true = le-leb _ _ c.in_default-push.ensures.full.0 in
    let room : nat_le c.index_mut-2.result.now.queue.capacity (length c.index_mut-2.result.now.queue.parcels) ≡ false =
    ap (λ (x : EgressPort). nat_le x.queue.capacity (length x.queue.parcels)) its ∙ (sym c.is_full.ensures ∙ c.if-is_full.false) in
    true≢false (sym full ∙ room)

pub invariant_of-self : goal.invariant_of-self
invariant_of-self c =
    let a = c.self.inside in
    let n = relay_with (sides_of a.ingress.items a.egress.items) a.ids in
    let lt = within_ingresses c.self.invariant.ports c.deref.result.now c.deref.ensures.value c.args.port c.in-Some.place c.in-Some.ensures.found in
    let s = stands_in c.self.invariant.ports c.deref.result.now c.deref.ensures.value c.args.port c.in-Some.place c.in-Some.ensures.found c.index_mut.result.now c.index_mut.ensures.value in
    let its : c.index_mut.result.now ≡ c.index.result.now = same_at a.ingress.items c.in-Some.place _ _ lt c.index_mut.ensures.value c.index.ensures in
    let slots : c.index_mut.result.now ≡ c.index-2.result.now = same_at a.ingress.items c.in-Some.place _ _ lt c.index_mut.ensures.value c.index-2.ensures in
    let opens = some_is_not_none c.index_mut.result.now.rx (ap (λ (i : IngressPort). is_some i.rx) its ∙ c.if-is_none.ensures) in
    let full : c.index_mut.result.now.slot ≡ Some c.in-Some-take.parcel = sym c.take.ensures.value ∙ c.in-Some-take.is in
    let same : c.in-Some-take.parcel ≡ c.in-Some-slot.parcel = same_Some _ _ (sym full ∙ ap (λ (i : IngressPort). i.slot) slots ∙ c.in-Some-slot.is) in
    let b = stands_out c.self.invariant.ports c.deref-2.result.now c.deref-2.ensures.value c.in-Some-slot.parcel.route.egress c.in-Some-row_of.to c.in-Some-row_of.ensures.found c.index_mut-2.result.now c.index_mut-2.ensures.value in
    let its_egress : c.in-Some-take.parcel.route.egress ≡ c.in-Some-slot.parcel.route.egress = ap (λ (p : Parcel). p.route.egress) same in
    record {
      ports = rw (c.take.ensures.after, c.in-Ok.ensures.ok.1) (push_ports s n refl b c.in-Some-take.parcel opens full its_egress);
      leads = rw c.take.ensures.after (leads_stay s (emptied s n refl b c.in-Some-take.parcel opens full its_egress) refl a.tables.maps c.self.invariant.leads);
    }

pub returns-clause-pushes : goal.returns-clause-pushes
returns-clause-pushes c =
    let a = c.self.inside in
    let n = relay_with (sides_of a.ingress.items a.egress.items) a.ids in
    let lt = within_ingresses c.self.invariant.ports c.deref.result.now c.deref.ensures.value c.args.port c.in-Some.place c.in-Some.ensures.found in
    let lt_egress = within_egresses c.self.invariant.ports c.deref-2.result.now c.deref-2.ensures.value c.in-Some-slot.parcel.route.egress c.in-Some-row_of.to c.in-Some-row_of.ensures.found in
    let s = stands_in c.self.invariant.ports c.deref.result.now c.deref.ensures.value c.args.port c.in-Some.place c.in-Some.ensures.found c.index_mut.result.now c.index_mut.ensures.value in
    let its : c.index_mut.result.now ≡ c.index.result.now = same_at a.ingress.items c.in-Some.place _ _ lt c.index_mut.ensures.value c.index.ensures in
    let slots : c.index_mut.result.now ≡ c.index-2.result.now = same_at a.ingress.items c.in-Some.place _ _ lt c.index_mut.ensures.value c.index-2.ensures in
    let opens = some_is_not_none c.index_mut.result.now.rx (ap (λ (i : IngressPort). is_some i.rx) its ∙ c.if-is_none.ensures) in
    let full : c.index_mut.result.now.slot ≡ Some c.in-Some-take.parcel = sym c.take.ensures.value ∙ c.in-Some-take.is in
    let same : c.in-Some-take.parcel ≡ c.in-Some-slot.parcel = same_Some _ _ (sym full ∙ ap (λ (i : IngressPort). i.slot) slots ∙ c.in-Some-slot.is) in
    let b = stands_out c.self.invariant.ports c.deref-2.result.now c.deref-2.ensures.value c.in-Some-slot.parcel.route.egress c.in-Some-row_of.to c.in-Some-row_of.ensures.found c.index_mut-2.result.now c.index_mut-2.ensures.value in
    let its_egress : c.in-Some-take.parcel.route.egress ≡ c.in-Some-slot.parcel.route.egress = ap (λ (p : Parcel). p.route.egress) same in
    let queues : c.index-3.result.now ≡ c.index_mut-2.result.now = same_at a.egress.items c.in-Some-row_of.to _ _ lt_egress c.index-3.ensures c.index_mut-2.ensures.value in
    let room = room_at s n refl b c.in-Some-take.parcel opens full its_egress c.index-3.result.now queues c.is_full.result c.is_full.ensures ∙ c.if-is_full.false in
    rw (← c.self.view_is, c.take.ensures.after, c.in-Ok.ensures.ok.1) (push_done s n refl b c.in-Some-take.parcel opens full its_egress room)
