use Rattle.std.proofs.Common.{sym, refl, ◌∙◌, ap, arith}
use Rattle.std.specs.Prelude.{option_map, option_and_then}
use Rattle.node_model.specs.State.{entity_of}
use Rattle.node_ports.specs.Table.{rx_of}
use Rattle.relay_core.specs.Ports.{sides_of}
use Rattle.relay_core.specs.Relay.{relay_with}
use Rattle.relay_core.proofs.AtPlace.{seen_in_order, none_seen, within_egresses, stands_in}
use Rattle.relay_core.proofs.Moving.{rx_is}
use Rattle.relay_core.proofs.relay.Relay.rx.Goals as goal

pub row_of-requires : goal.row_of-requires
row_of-requires c = seen_in_order c.self.invariant.ports c.deref.result.now c.deref.ensures.value

pub returns-in_default : goal.returns-in_default
returns-in_default c = rw (← c.self.view_is)
    (sym (ap (λ s. option_map rx_of (option_and_then entity_of s)) (none_seen c.self.invariant.ports c.deref.result.now c.deref.ensures.value c.args.port c.in_default.ensures.none)))

pub returns : goal.returns
returns c =
    let a = c.self.inside in
    let s = stands_in c.self.invariant.ports c.deref.result.now c.deref.ensures.value c.args.port c.in-Some.place c.in-Some.ensures.found c.index.result.now c.index.ensures in
    rw (← c.self.view_is) (c.as_ref.ensures.value ∙ sym (rx_is s (relay_with (sides_of a.ingress.items a.egress.items) a.ids) refl))
