use Rattle.std.proofs.Common.{◌≡◌, ℕ, List, length, map, true, false, Some, None, is_some, Option, Ok, Err, refl, sym, ◌∙◌, ap, subst, arith}
use Rattle.std.proofs.lemmas.Result.{err_from_is_err_and}
use Rattle.relay_core.specs.Ports.{ingress_name, sides_of}
use Rattle.relay_core.specs.Relay.{relay_with}
use Rattle.relay_core.proofs.AtPlace.{row_of_place, stands_in, stands_any, stay_ingress, leads_stay}
use Rattle.relay_core.proofs.Moving.{with_sdu, keeps_slot, keeps_pair, drops}
use Rattle.relay_core.proofs.Heard.{goes_over, leads_among}
use Rattle.relay_core.proofs.relay.Relay.keep.Goals as goal

pub index_mut-requires : goal.index_mut-requires
index_mut-requires c =
    let row = row_of_place c.self.invariant.ports c.args.port c.args.place (rw (← c.self.view_is) at c.requires.place) in
    omega (arith, c.self.inside.ingress.ok.0, row.within)

pub invariant_of-self : goal.invariant_of-self
invariant_of-self c =
    let a = c.self.inside in
    let n = relay_with (sides_of a.ingress.items a.egress.items) a.ids in
    let row = row_of_place c.self.invariant.ports c.args.port c.args.place (rw (← c.self.view_is) at c.requires.place) in
    let s = stands_in c.self.invariant.ports a.ingress.items refl c.args.port c.args.place row c.index_mut.result.now c.index_mut.ensures.value in
    let leads = rw c.as_slice.ensures at (c.in-Ok.ensures n refl) in
    let over = goes_over a.tables n c.args.port c.args.sdu c.in-Ok.route c.requires.of_relay leads in
    let among = leads_among (map ingress_name a.ingress.items) a.tables c.args.sdu c.in-Ok.route.egress c.self.invariant.leads over in
    let pair = keeps_pair s n refl c.in-Ok.route c.args.sdu (record { header = over.header; is_srap = over.is_srap; long = c.requires.long }) among in
    record {
      ports = stay_ingress s (with_sdu s n refl c.in-Ok.route c.args.sdu) refl pair;
      leads = leads_stay s (with_sdu s n refl c.in-Ok.route c.args.sdu) refl a.tables.maps c.self.invariant.leads;
    }

pub returns-in-Ok-clause-keeps : goal.returns-in-Ok-clause-keeps
returns-in-Ok-clause-keeps c =
    let a = c.self.inside in
    let n = relay_with (sides_of a.ingress.items a.egress.items) a.ids in
    let row = row_of_place c.self.invariant.ports c.args.port c.args.place (rw (← c.self.view_is) at c.requires.place) in
    let s = stands_in c.self.invariant.ports a.ingress.items refl c.args.port c.args.place row c.index_mut.result.now c.index_mut.ensures.value in
    let leads = rw c.as_slice.ensures at (c.in-Ok.ensures n refl) in
    rw (← c.self.view_is) (λ side here. keeps_slot s n refl a.tables c.args.sdu c.in-Ok.route leads side here)

pub returns-in-Err-clause-keeps : goal.returns-in-Err-clause-keeps
returns-in-Err-clause-keeps c =
    let a = c.self.inside in
    let n = relay_with (sides_of a.ingress.items a.egress.items) a.ids in
    let row = row_of_place c.self.invariant.ports c.args.port c.args.place (rw (← c.self.view_is) at c.requires.place) in
    let s = stands_any c.self.invariant.ports a.ingress.items refl c.args.port c.args.place row in
    let leads = rw c.as_slice.ensures at (c.in-Err.ensures n refl) in
    rw (← c.self.view_is) (λ side here. drops s n refl a.tables c.args.sdu c.in-Err.discard leads side here)
