use Rattle.std.proofs.Common.{List, length, refl, sym, ◌∙◌, ap, subst, arith}
use Rattle.std.specs.Prelude.{ℕ, option_and_then}
use Rattle.std.proofs.lemmas.Result.{err_from_is_err_and}
use Rattle.rlc_model.specs.Sides.{Entity}
use Rattle.rlc_hop.specs.Side.{IsToSend}
use Rattle.node_model.specs.Rows.{AreOrdered}
use Rattle.node_model.specs.State.{PortSide, TabledNode, entity_of}
use Rattle.node_ports.specs.Order.{IsRowOf, by_port}
use Rattle.node_ports.specs.Sides.{IsThere}
use Rattle.relay_core.specs.declared.ports.IngressPort.{IngressPort}
use Rattle.relay_core.specs.Ports.{ingress_name, sides_of}
use Rattle.relay_core.specs.Relay.{relay_with, queue_capacity}
use Rattle.relay_core.proofs.AtPlace.{StandsAt, in_order, egresses_long, no_side, stay, leads_stay}
use Rattle.relay_core.proofs.Moving.{entity_is, grants_port, grants_nothing, entity_pair, entity_name}
use Rattle.relay_core.proofs.relay.Relay.grant.Goals as goal

pub row_of-requires : goal.row_of-requires
row_of-requires c = subst (AreOrdered (by_port ingress_name)) (sym c.deref.ensures.value) (in_order c.self.invariant.ports)

pub returns-in_default-clause-ok : goal.returns-in_default-clause-ok
returns-in_default-clause-ok c =
    let none = subst (λ (is : List IngressPort). (place : ℕ) → IsRowOf ingress_name is c.args.port place → ⊥) c.deref.ensures.value c.in_default.ensures.none in
    rw (← c.self.view_is) (ap (option_and_then entity_of) (no_side c.self.invariant.ports c.args.port none), refl)

pub index_mut-requires-2 : goal.index_mut-requires-2
index_mut-requires-2 c = omega (arith, c.self.inside.egress.ok.0, egresses_long c.self.invariant.ports, c.in-Some.ensures.found.within, ap length c.deref.ensures.value)

pub returns-in_err-answer-clause-memory : goal.returns-in_err-answer-clause-memory
returns-in_err-answer-clause-memory c =
    let a = c.self.inside in
    let row = subst (λ (is : List IngressPort). IsRowOf ingress_name is c.args.port c.in-Some.place) c.deref.ensures.value c.in-Some.ensures.found in
    let s : StandsAt (queue_capacity a.tables) a.ingress.items a.egress.items c.args.port c.in-Some.place c.index_mut.result.now c.index_mut-2.result.now =
    record { ports = c.self.invariant.ports; row = row; here = c.index_mut.ensures.value; there = c.index_mut-2.ensures.value } in
    let p = err_from_is_err_and c.from_residual.result c.from_residual.ensures.1 in
    rw (p.1, ← c.self.view_is, entity_is s (relay_with (sides_of a.ingress.items a.egress.items) a.ids) refl) c.in_err-answer.ensures.memory

pub invariant_of-self-2 : goal.invariant_of-self-2
invariant_of-self-2 c =
    let a = c.self.inside in
    let n = relay_with (sides_of a.ingress.items a.egress.items) a.ids in
    let row = subst (λ (is : List IngressPort). IsRowOf ingress_name is c.args.port c.in-Some.place) c.deref.ensures.value c.in-Some.ensures.found in
    let s : StandsAt (queue_capacity a.tables) a.ingress.items a.egress.items c.args.port c.in-Some.place c.index_mut.result.now c.index_mut-2.result.now =
    record { ports = c.self.invariant.ports; row = row; here = c.index_mut.ensures.value; there = c.index_mut-2.ensures.value } in
    let name = entity_name s n refl c.grant.new.ingress c.grant.new.egress c.grant.ensures.changes in
    record {
      ports = stay s c.grant.new.ingress c.grant.new.egress name (entity_pair s n refl c.grant.new.ingress c.grant.new.egress c.grant.ensures.changes);
      leads = leads_stay s c.grant.new.ingress name a.tables.maps c.self.invariant.leads;
    }

pub returns-clause-ok : goal.returns-clause-ok
returns-clause-ok c =
    let a = c.self.inside in
    let row = subst (λ (is : List IngressPort). IsRowOf ingress_name is c.args.port c.in-Some.place) c.deref.ensures.value c.in-Some.ensures.found in
    let s : StandsAt (queue_capacity a.tables) a.ingress.items a.egress.items c.args.port c.in-Some.place c.index_mut.result.now c.index_mut-2.result.now =
    record { ports = c.self.invariant.ports; row = row; here = c.index_mut.ensures.value; there = c.index_mut-2.ensures.value } in
    rw (← c.self.view_is) (grants_port s (relay_with (sides_of a.ingress.items a.egress.items) a.ids) refl c.args.octets c.in_ok-answer.answer c.grant.new.ingress c.grant.new.egress c.in_ok-answer.ensures.ok)

pub returns-clause-still : goal.returns-clause-still
returns-clause-still c = λ none.
    let a = c.self.inside in
    let n = relay_with (sides_of a.ingress.items a.egress.items) a.ids in
    let row = subst (λ (is : List IngressPort). IsRowOf ingress_name is c.args.port c.in-Some.place) c.deref.ensures.value c.in-Some.ensures.found in
    let s : StandsAt (queue_capacity a.tables) a.ingress.items a.egress.items c.args.port c.in-Some.place c.index_mut.result.now c.index_mut-2.result.now =
    record { ports = c.self.invariant.ports; row = row; here = c.index_mut.ensures.value; there = c.index_mut-2.ensures.value } in
    ap (λ (xs : List PortSide). let m : TabledNode = record { tables = a.tables; node = relay_with xs a.ids } in m)
    (grants_nothing s n refl c.args.octets c.in_ok-answer.answer c.grant.new.ingress c.grant.new.egress c.in_ok-answer.ensures.ok none) ∙ c.self.view_is
