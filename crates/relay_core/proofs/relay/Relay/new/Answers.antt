use Rattle.std.proofs.Common.{◌≡◌, List, map, sym, ◌∙◌, ap}
use Rattle.node_model.specs.State.{PortSide, TabledNode}
use Rattle.node_model.specs.Opening.{all_attached}
use Rattle.node_model.specs.Tables.{settings}
use Rattle.bearer_map.specs.declared.settings.Settings.{Settings}
use Rattle.relay_core.specs.declared.ports.IngressPort.{IngressPort}
use Rattle.relay_core.specs.declared.ports.EgressPort.{EgressPort}
use Rattle.relay_core.specs.Opening.{new_ports, new_ingress, new_egress}
use Rattle.relay_core.specs.Relay.{relay_with}
use Rattle.relay_core.proofs.Opened.{are_ports, leads_new, ports_new}
use Rattle.relay_core.proofs.relay.Relay.new.Goals as goal

pub invariant_of-result : goal.invariant_of-result
invariant_of-result c =
    let t = c.args.tables.now in
    let ingress : c.in_ok-ingress.ingress.items ≡ map new_ingress (new_ports t) = c.in_ok-ingress.ensures ∙ ap (map new_ingress) (c.deref.ensures.value ∙ c.in_ok-ports.ensures.ports) in
    let egress : c.in_ok-egress.egress.items ≡ map (new_egress (settings t)) (new_ports t) = c.in_ok-egress.ensures
    ∙ ap (λ (x : Settings). map (new_egress x) c.deref-2.result.now) c.settings.ensures ∙ ap (map (new_egress (settings t))) (c.deref-2.ensures.value ∙ c.in_ok-ports.ensures.ports) in
    record {
      ports = rw (c.in_ok-tables.ensures, ingress, egress) (are_ports t c.in_ok-ports.ensures.order);
      leads = rw (c.in_ok-tables.ensures, ingress) (leads_new t c.requires.channels);
    }

pub returns : goal.returns
returns c =
    let t = c.args.tables.now in
    let ingress : c.in_ok-ingress.ingress.items ≡ map new_ingress (new_ports t) = c.in_ok-ingress.ensures ∙ ap (map new_ingress) (c.deref.ensures.value ∙ c.in_ok-ports.ensures.ports) in
    let egress : c.in_ok-egress.egress.items ≡ map (new_egress (settings t)) (new_ports t) = c.in_ok-egress.ensures
    ∙ ap (λ (x : Settings). map (new_egress x) c.deref-2.result.now) c.settings.ensures ∙ ap (map (new_egress (settings t))) (c.deref-2.ensures.value ∙ c.in_ok-ports.ensures.ports) in
    rw (c.in_ok-tables.ensures, c.in_ok-ids.ensures, ingress, egress) (ap (λ (xs : List PortSide). let m : TabledNode = record { tables = t; node = relay_with xs (all_attached t) } in m) (ports_new t))
