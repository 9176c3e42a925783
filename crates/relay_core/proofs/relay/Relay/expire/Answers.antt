use Rattle.std.proofs.Common.{◌≡◌, ℕ, List, length, true, false, Some, None, is_some, Option, refl, sym, ◌∙◌, ap, subst, arith}
use Rattle.std.specs.Prelude.{option_and_then}
use Rattle.std.proofs.lemmas.Result.{err_from_is_err_and}
use Rattle.node_model.specs.State.{entity_of}
use Rattle.relay_core.specs.Ports.{sides_of}
use Rattle.relay_core.specs.Relay.{relay_with}
use Rattle.relay_core.proofs.AtPlace.{seen_in_order, none_seen, within_egresses, stands, stay, leads_stay}
use Rattle.relay_core.proofs.Moving.{expires_port, entity_pair, entity_name}
use Rattle.relay_core.proofs.relay.Relay.expire.Goals as goal

pub row_of-requires : goal.row_of-requires
row_of-requires c = seen_in_order c.self.invariant.ports c.deref.result.now c.deref.ensures.value

pub returns-in_default-clause-expires : goal.returns-in_default-clause-expires
returns-in_default-clause-expires c =
    rw (← c.self.view_is) (ap (option_and_then entity_of) (none_seen c.self.invariant.ports c.deref.result.now c.deref.ensures.value c.args.port c.in_default.ensures.none), refl)

pub index_mut-requires-2 : goal.index_mut-requires-2
index_mut-requires-2 c = omega (arith, c.self.inside.egress.ok.0, within_egresses c.self.invariant.ports c.deref.result.now c.deref.ensures.value c.args.port c.in-Some.place c.in-Some.ensures.found)

pub invariant_of-self : goal.invariant_of-self
invariant_of-self c =
    let a = c.self.inside in
    let n = relay_with (sides_of a.ingress.items a.egress.items) a.ids in
    let s = stands c.self.invariant.ports c.deref.result.now c.deref.ensures.value c.args.port c.in-Some.place c.in-Some.ensures.found c.index_mut.result.now c.index_mut.ensures.value c.index_mut-2.result.now c.index_mut-2.ensures.value in
    let name = entity_name s n refl c.expire-expired.new.ingress c.expire-expired.new.egress c.expire-expired.ensures.changes in
    record {
      ports = stay s c.expire-expired.new.ingress c.expire-expired.new.egress name (entity_pair s n refl c.expire-expired.new.ingress c.expire-expired.new.egress c.expire-expired.ensures.changes);
      leads = leads_stay s c.expire-expired.new.ingress name a.tables.maps c.self.invariant.leads;
    }

pub returns-clause-expires : goal.returns-clause-expires
returns-clause-expires c =
    let a = c.self.inside in
    let n = relay_with (sides_of a.ingress.items a.egress.items) a.ids in
    let s = stands c.self.invariant.ports c.deref.result.now c.deref.ensures.value c.args.port c.in-Some.place c.in-Some.ensures.found c.index_mut.result.now c.index_mut.ensures.value c.index_mut-2.result.now c.index_mut-2.ensures.value in
    let name = entity_name s n refl c.expire-expired.new.ingress c.expire-expired.new.egress c.expire-expired.ensures.changes in
    rw (← c.self.view_is) (expires_port s n refl c.args.timer c.expire-expired.result c.expire-expired.new.ingress c.expire-expired.new.egress name c.expire-expired.ensures.expires)
