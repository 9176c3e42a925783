use Rattle.std.proofs.Common.{◌≡◌, ℕ, List, length, map, true, false, Some, None, is_some, Option, Ok, Err, refl, sym, ◌∙◌, ap, subst, arith}
use Rattle.std.proofs.lemmas.Result.{err_from_is_err_and}
use Rattle.node_model.specs.Hearing.{hear_refusal}
use Rattle.relay_core.specs.Ports.{sides_of, relay_side, side_of, entity_of, IsOfRelay}
use Rattle.relay_core.specs.Relay.{relay_with}
use Rattle.relay_core.proofs.AtPlace.{seen_in_order, none_seen, within_egresses, stands, stands_still, its_pair, its_name, its_place, stay, leads_stay}
use Rattle.relay_core.proofs.Moving.{entity_is, refusal_is, entity_pair, entity_name, small_tx, small_rx, hears_here}
use Rattle.relay_core.proofs.Heard.{refuses, opens}
use Rattle.relay_core.proofs.relay.Relay.hear.Goals as goal

pub row_of-requires : goal.row_of-requires
row_of-requires c = seen_in_order c.self.invariant.ports c.deref.result.now c.deref.ensures.value

pub returns-in_default-clause-ok : goal.returns-in_default-clause-ok
returns-in_default-clause-ok c =
    let a = c.self.inside in
    let n = relay_with (sides_of a.ingress.items a.egress.items) a.ids in
    let pdu = c.args.pdu.now in
    rw (← c.self.view_is) (refuses a.tables n (relay_side pdu.port) pdu _ (ap (hear_refusal pdu) (none_seen c.self.invariant.ports c.deref.result.now c.deref.ensures.value pdu.port c.in_default.ensures.none)))

pub index-requires-2 : goal.index-requires-2
index-requires-2 c = omega (arith, c.self.inside.egress.ok.0, within_egresses c.self.invariant.ports c.deref.result.now c.deref.ensures.value c.args.pdu.now.port c.in-Some.place c.in-Some.ensures.found)

pub returns-in-Some-refusal-clause-ok : goal.returns-in-Some-refusal-clause-ok
returns-in-Some-refusal-clause-ok c =
    let a = c.self.inside in
    let n = relay_with (sides_of a.ingress.items a.egress.items) a.ids in
    let pdu = c.args.pdu.now in
    let s = stands c.self.invariant.ports c.deref.result.now c.deref.ensures.value pdu.port c.in-Some.place c.in-Some.ensures.found c.index.result.now c.index.ensures c.index-2.result.now c.index-2.ensures in
    rw (← c.self.view_is) (refuses a.tables n (relay_side pdu.port) pdu c.in-Some-refusal.refusal (refusal_is s n refl pdu ∙ (sym c.refusal.ensures ∙ c.in-Some-refusal.is)))

pub index_mut-requires-2 : goal.index_mut-requires-2
index_mut-requires-2 c = omega (arith, c.self.inside.egress.ok.0, within_egresses c.self.invariant.ports c.deref.result.now c.deref.ensures.value c.args.pdu.now.port c.in-Some.place c.in-Some.ensures.found)

pub hear-requires-clause-is_open : goal.hear-requires-clause-is_open
hear-requires-clause-is_open c =
    let a = c.self.inside in
    let n = relay_with (sides_of a.ingress.items a.egress.items) a.ids in
    let pdu = c.args.pdu.now in
    let s = stands c.self.invariant.ports c.deref.result.now c.deref.ensures.value pdu.port c.in-Some.place c.in-Some.ensures.found c.index.result.now c.index.ensures c.index-2.result.now c.index-2.ensures in
    let t = stands c.self.invariant.ports c.deref.result.now c.deref.ensures.value pdu.port c.in-Some.place c.in-Some.ensures.found c.index_mut.result.now c.index_mut.ensures.value c.index_mut-2.result.now c.index_mut-2.ensures.value in
    let open_ = opens pdu (side_of c.index.result.now c.index-2.result.now) (entity_of c.index.result.now c.index-2.result.now) (sym c.refusal.ensures ∙ c.in_default-refusal.is) in
    ap (λ x. is_some x) (sym (entity_is t n refl) ∙ entity_is s n refl) ∙ open_

pub hear-requires-clause-sent : goal.hear-requires-clause-sent
hear-requires-clause-sent c =
    let a = c.self.inside in
    let t = stands c.self.invariant.ports c.deref.result.now c.deref.ensures.value c.args.pdu.now.port c.in-Some.place c.in-Some.ensures.found c.index_mut.result.now c.index_mut.ensures.value c.index_mut-2.result.now c.index_mut-2.ensures.value in
    let small = rw (← c.self.view_is) at c.requires in
    small_tx t (relay_with (sides_of a.ingress.items a.egress.items) a.ids) refl (λ entity is. (small entity is).sent)

pub hear-requires-clause-heard : goal.hear-requires-clause-heard
hear-requires-clause-heard c =
    let a = c.self.inside in
    let t = stands c.self.invariant.ports c.deref.result.now c.deref.ensures.value c.args.pdu.now.port c.in-Some.place c.in-Some.ensures.found c.index_mut.result.now c.index_mut.ensures.value c.index_mut-2.result.now c.index_mut-2.ensures.value in
    let small = rw (← c.self.view_is) at c.requires in
    small_rx t (relay_with (sides_of a.ingress.items a.egress.items) a.ids) refl (λ entity is. (small entity is).heard)

pub returns-in_err-hop-clause-memory : goal.returns-in_err-hop-clause-memory
returns-in_err-hop-clause-memory c =
    let a = c.self.inside in
    let t = stands c.self.invariant.ports c.deref.result.now c.deref.ensures.value c.args.pdu.now.port c.in-Some.place c.in-Some.ensures.found c.index_mut.result.now c.index_mut.ensures.value c.index_mut-2.result.now c.index_mut-2.ensures.value in
    let p = err_from_is_err_and c.from_residual.result c.from_residual.ensures.1 in
    rw (p.1, ← c.self.view_is, entity_is t (relay_with (sides_of a.ingress.items a.egress.items) a.ids) refl) (rw c.as_slice.ensures at c.in_err-hop.ensures.memory)

pub invariant_of-self-2 : goal.invariant_of-self-2
invariant_of-self-2 c =
    let a = c.self.inside in
    let n = relay_with (sides_of a.ingress.items a.egress.items) a.ids in
    let t = stands c.self.invariant.ports c.deref.result.now c.deref.ensures.value c.args.pdu.now.port c.in-Some.place c.in-Some.ensures.found c.index_mut.result.now c.index_mut.ensures.value c.index_mut-2.result.now c.index_mut-2.ensures.value in
    let name = entity_name t n refl c.hear.new.ingress c.hear.new.egress c.hear.ensures.changes in
    record {
      ports = stay t c.hear.new.ingress c.hear.new.egress name (entity_pair t n refl c.hear.new.ingress c.hear.new.egress c.hear.ensures.changes);
      leads = leads_stay t c.hear.new.ingress name a.tables.maps c.self.invariant.leads;
    }

pub follow-answer-requires-clause-of_relay : goal.follow-answer-requires-clause-of_relay
follow-answer-requires-clause-of_relay c =
    let t = stands c.self.invariant.ports c.deref.result.now c.deref.ensures.value c.args.pdu.now.port c.in-Some.place c.in-Some.ensures.found c.index_mut.result.now c.index_mut.ensures.value c.index_mut-2.result.now c.index_mut-2.ensures.value in
    subst IsOfRelay (its_name t) (its_pair t).of_relay

pub follow-answer-requires-clause-place : goal.follow-answer-requires-clause-place
follow-answer-requires-clause-place c =
    let a = c.self.inside in
    let n = relay_with (sides_of a.ingress.items a.egress.items) a.ids in
    let t = stands c.self.invariant.ports c.deref.result.now c.deref.ensures.value c.args.pdu.now.port c.in-Some.place c.in-Some.ensures.found c.index_mut.result.now c.index_mut.ensures.value c.index_mut-2.result.now c.index_mut-2.ensures.value in
    let name = entity_name t n refl c.hear.new.ingress c.hear.new.egress c.hear.ensures.changes in
    its_place (stands_still t c.hear.new.ingress c.hear.new.egress name (entity_pair t n refl c.hear.new.ingress c.hear.new.egress c.hear.ensures.changes))

pub returns-clause-ok : goal.returns-clause-ok
returns-clause-ok c =
    let a = c.self.inside in
    let n = relay_with (sides_of a.ingress.items a.egress.items) a.ids in
    let pdu = c.args.pdu.now in
    let s = stands c.self.invariant.ports c.deref.result.now c.deref.ensures.value pdu.port c.in-Some.place c.in-Some.ensures.found c.index.result.now c.index.ensures c.index-2.result.now c.index-2.ensures in
    let t = stands c.self.invariant.ports c.deref.result.now c.deref.ensures.value pdu.port c.in-Some.place c.in-Some.ensures.found c.index_mut.result.now c.index_mut.ensures.value c.index_mut-2.result.now c.index_mut-2.ensures.value in
    let name = entity_name t n refl c.hear.new.ingress c.hear.new.egress c.hear.ensures.changes in
    let none = refusal_is s n refl pdu ∙ (sym c.refusal.ensures ∙ c.in_default-refusal.is) in
    rw (← c.self.view_is) (hears_here t n refl a.tables (relay_side pdu.port) pdu refl none c.in_ok-hop.hop c.hear.new.ingress c.hear.new.egress name
    (rw c.as_slice.ensures at c.in_ok-hop.ensures.ok) c.follow-answer.result c.follow-answer.new.self.node c.follow-answer.ensures.follows)
