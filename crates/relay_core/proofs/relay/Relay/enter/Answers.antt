use Rattle.std.proofs.Common.{◌≡◌, ℕ, not, List, [], ◌∷◌, ◌++◌, length, map, take, drop, Option, sym, ◌∙◌, ap, subst, arith}
use Rattle.std.specs.List.{filter}
use Rattle.std.proofs.lemmas.List.{take_at, length-map}
use Rattle.link_base.specs.declared.names.Remote.{Remote}
use Rattle.link_base.specs.declared.names.Goal.TheVariants.{Direct}
use Rattle.bearer_map.specs.declared.ids.Attachment.{Attachment}
use Rattle.bearer_map.specs.declared.settings.Settings.{Settings}
use Rattle.bearer_map.specs.Ids.{has_remote, attachment, IsAttached}
use Rattle.bearer_map.proofs.Detached.{own_gone, none_has}
use Rattle.rlc_model.specs.Rx.{Rx}
use Rattle.rlc_model.specs.Tx.{Tx}
use Rattle.node_model.specs.State.{Node, TabledNode}
use Rattle.node_model.specs.Tables.{settings}
use Rattle.node_model.specs.Switching.{node_after}
use Rattle.relay_core.specs.declared.ports.IngressPort.{IngressPort}
use Rattle.relay_core.specs.declared.ports.EgressPort.{EgressPort}
use Rattle.relay_core.specs.Ports.{ArePort, ArePorts, sides_of, ingress_name}
use Rattle.relay_core.specs.Relay.{relay_with, queue_capacity}
use Rattle.relay_core.specs.Switching.{each_given, entering_rx, entering_tx, opened_ingress, opened_egress}
use Rattle.relay_core.proofs.Pairs.{pairs_long}
use Rattle.relay_core.proofs.Entered.{ports_are, leads_still, node_entered, as_many}
use Rattle.relay_core.proofs.relay.Relay.enter.Goals as goal

pub attach-requires-clause-remote : goal.attach-requires-clause-remote
attach-requires-clause-remote c = λ other there.
    let r = c.args.remote in
    let left : c.detach.new.self ≡ filter (λ a. not (has_remote r a)) c.self.inside.ids = c.detach.ensures ∙ ap (filter (λ a. not (has_remote r a))) c.in_ok-ids.ensures in
    own_gone r c.self.inside.ids other (subst (λ (xs : List Attachment). IsAttached xs r other) left there)

pub attach-requires-clause-id : goal.attach-requires-clause-id
attach-requires-clause-id c = λ other there.
    let r = c.args.remote in
    let id = c.args.id in
    let left : c.detach.new.self ≡ filter (λ a. not (has_remote r a)) c.self.inside.ids = c.detach.ensures ∙ ap (filter (λ a. not (has_remote r a))) c.in_ok-ids.ensures in
    let free : (x : Remote) → IsAttached c.self.inside.ids x id.0 → x ≡ r =
    λ x at. c.requires x (subst (λ (m : TabledNode). let n : Node = m.node in IsAttached n.attached x id.0) c.self.view_is at) in
    none_has r c.self.inside.ids id.0 free other (subst (λ (xs : List Attachment). IsAttached xs other id.0) left there)

pub open_ingresses-requires : goal.open_ingresses-requires
open_ingresses-requires c =
    let a = c.self.inside in
    let p = c.self-2.inside in
    let r = c.args.remote in
    let purges : relay_with (sides_of p.ingress.items p.egress.items) p.ids ≡ node_after (settings a.tables) r Direct 0 (relay_with (sides_of a.ingress.items a.egress.items) a.ids) =
    ap (λ (m : TabledNode). m.node) c.self-2.view_is ∙ c.purge-dropped.ensures.purges 0 ∙ ap (λ (m : TabledNode). node_after (settings m.tables) r Direct 0 m.node) (sym c.self.view_is) in
    let tables : p.tables ≡ a.tables = ap (λ (m : TabledNode). m.tables) c.self-2.view_is ∙ c.purge-dropped.ensures.tables ∙ ap (λ (m : TabledNode). m.tables) (sym c.self.view_is) in
    let ports' : ArePorts (queue_capacity a.tables) p.ingress.items p.egress.items = rw tables at c.self-2.invariant.ports in
    let many = as_many (settings a.tables) r (queue_capacity a.tables) a.ingress.items p.ingress.items a.egress.items p.egress.items a.ids p.ids c.self.invariant.ports ports' purges in
    ap length (c.deref_mut-2.ensures.value ∙ c.in_ok-receivers.ensures ∙ ap (map (entering_rx r)) c.deref.ensures.value) ∙ length-map a.ingress.items (entering_rx r)
    ∙ (sym many ∙ sym (ap length c.deref_mut.ensures.value))

pub open_egresses-requires : goal.open_egresses-requires
open_egresses-requires c =
    let a = c.self.inside in
    let p = c.self-2.inside in
    let r = c.args.remote in
    let purges : relay_with (sides_of p.ingress.items p.egress.items) p.ids ≡ node_after (settings a.tables) r Direct 0 (relay_with (sides_of a.ingress.items a.egress.items) a.ids) =
    ap (λ (m : TabledNode). m.node) c.self-2.view_is ∙ c.purge-dropped.ensures.purges 0 ∙ ap (λ (m : TabledNode). node_after (settings m.tables) r Direct 0 m.node) (sym c.self.view_is) in
    let tables : p.tables ≡ a.tables = ap (λ (m : TabledNode). m.tables) c.self-2.view_is ∙ c.purge-dropped.ensures.tables ∙ ap (λ (m : TabledNode). m.tables) (sym c.self.view_is) in
    let ports' : ArePorts (queue_capacity a.tables) p.ingress.items p.egress.items = rw tables at c.self-2.invariant.ports in
    let many = as_many (settings a.tables) r (queue_capacity a.tables) a.ingress.items p.ingress.items a.egress.items p.egress.items a.ids p.ids c.self.invariant.ports ports' purges in
    let pairs = pairs_long (ArePort (queue_capacity a.tables) (map ingress_name p.ingress.items)) p.ingress.items p.egress.items ports'.pairs in
    ap length (c.deref_mut-4.ensures.value ∙ c.in_ok-transmitters.ensures ∙ ap (map (entering_tx c.settings-settings.result r)) c.deref-2.ensures.value)
    ∙ length-map a.ingress.items (entering_tx c.settings-settings.result r) ∙ (sym many ∙ sym pairs ∙ sym (ap length c.deref_mut-3.ensures.value))

pub invariant_of-self : goal.invariant_of-self
invariant_of-self c =
    let a = c.self.inside in
    let p = c.self-2.inside in
    let r = c.args.remote in
    let s = settings a.tables in
    let purges : relay_with (sides_of p.ingress.items p.egress.items) p.ids ≡ node_after s r Direct 0 (relay_with (sides_of a.ingress.items a.egress.items) a.ids) =
    ap (λ (m : TabledNode). m.node) c.self-2.view_is ∙ c.purge-dropped.ensures.purges 0 ∙ ap (λ (m : TabledNode). node_after (settings m.tables) r Direct 0 m.node) (sym c.self.view_is) in
    let tables : p.tables ≡ a.tables = ap (λ (m : TabledNode). m.tables) c.self-2.view_is ∙ c.purge-dropped.ensures.tables ∙ ap (λ (m : TabledNode). m.tables) (sym c.self.view_is) in
    let ports' : ArePorts (queue_capacity a.tables) p.ingress.items p.egress.items = rw tables at c.self-2.invariant.ports in
    let is' = c.open_ingresses.new.ports in
    let es' = c.open_egresses.new.ports in
    let is_long : length is' ≡ p.ingress.len = omega (arith, c.deref_mut.ensures.len, c.open_ingresses.auto.ports) in
    let es_long : length es' ≡ p.egress.len = omega (arith, c.deref_mut-3.ensures.len, c.open_egresses.auto.ports) in
    let rxs = c.deref_mut-2.ensures.value ∙ c.in_ok-receivers.ensures ∙ ap (map (entering_rx r)) c.deref.ensures.value in
    let txs = c.deref_mut-4.ensures.value ∙ c.in_ok-transmitters.ensures ∙ ap (map (entering_tx c.settings-settings.result r)) c.deref-2.ensures.value
    ∙ ap (λ (x : Settings). map (entering_tx x r) a.ingress.items) c.settings-settings.ensures in
    let ingress : take p.ingress.len (is' ++ drop (length is') p.ingress.items) ≡ each_given (opened_ingress c.args.epoch) (map (entering_rx r) a.ingress.items) p.ingress.items =
    take_at is' _ _ is_long ∙ (c.open_ingresses.ensures ∙ ap (λ (ys : List (Option Rx)). each_given (opened_ingress c.args.epoch) ys c.deref_mut.result.now) rxs
    ∙ ap (each_given (opened_ingress c.args.epoch) (map (entering_rx r) a.ingress.items)) c.deref_mut.ensures.value) in
    let egress : take p.egress.len (es' ++ drop (length es') p.egress.items) ≡ each_given opened_egress (map (entering_tx s r) a.ingress.items) p.egress.items =
    take_at es' _ _ es_long ∙ (c.open_egresses.ensures ∙ ap (λ (ys : List (Option Tx)). each_given opened_egress ys c.deref_mut-3.result.now) txs
    ∙ ap (each_given opened_egress (map (entering_tx s r) a.ingress.items)) c.deref_mut-3.ensures.value) in
    let are = ports_are s r c.args.id c.args.epoch (queue_capacity a.tables) a.ingress.items p.ingress.items _ a.egress.items p.egress.items _ a.ids p.ids c.attach.new.self
    c.self.invariant.ports ports' purges ingress egress in
    record {
      ports = rw tables are;
      leads = leads_still s r c.args.id c.args.epoch (queue_capacity a.tables) a.ingress.items p.ingress.items _ a.egress.items p.egress.items _ a.ids p.ids c.attach.new.self
          c.self.invariant.ports ports' purges ingress egress p.tables.maps c.self-2.invariant.leads;
    }

pub returns-clause-ok : goal.returns-clause-ok
returns-clause-ok c =
    let a = c.self.inside in
    let p = c.self-2.inside in
    let r = c.args.remote in
    let s = settings a.tables in
    let purges : relay_with (sides_of p.ingress.items p.egress.items) p.ids ≡ node_after s r Direct 0 (relay_with (sides_of a.ingress.items a.egress.items) a.ids) =
    ap (λ (m : TabledNode). m.node) c.self-2.view_is ∙ c.purge-dropped.ensures.purges 0 ∙ ap (λ (m : TabledNode). node_after (settings m.tables) r Direct 0 m.node) (sym c.self.view_is) in
    let tables : p.tables ≡ a.tables = ap (λ (m : TabledNode). m.tables) c.self-2.view_is ∙ c.purge-dropped.ensures.tables ∙ ap (λ (m : TabledNode). m.tables) (sym c.self.view_is) in
    let ports' : ArePorts (queue_capacity a.tables) p.ingress.items p.egress.items = rw tables at c.self-2.invariant.ports in
    let is' = c.open_ingresses.new.ports in
    let es' = c.open_egresses.new.ports in
    let is_long : length is' ≡ p.ingress.len = omega (arith, c.deref_mut.ensures.len, c.open_ingresses.auto.ports) in
    let es_long : length es' ≡ p.egress.len = omega (arith, c.deref_mut-3.ensures.len, c.open_egresses.auto.ports) in
    let rxs = c.deref_mut-2.ensures.value ∙ c.in_ok-receivers.ensures ∙ ap (map (entering_rx r)) c.deref.ensures.value in
    let txs = c.deref_mut-4.ensures.value ∙ c.in_ok-transmitters.ensures ∙ ap (map (entering_tx c.settings-settings.result r)) c.deref-2.ensures.value
    ∙ ap (λ (x : Settings). map (entering_tx x r) a.ingress.items) c.settings-settings.ensures in
    let ingress : take p.ingress.len (is' ++ drop (length is') p.ingress.items) ≡ each_given (opened_ingress c.args.epoch) (map (entering_rx r) a.ingress.items) p.ingress.items =
    take_at is' _ _ is_long ∙ (c.open_ingresses.ensures ∙ ap (λ (ys : List (Option Rx)). each_given (opened_ingress c.args.epoch) ys c.deref_mut.result.now) rxs
    ∙ ap (each_given (opened_ingress c.args.epoch) (map (entering_rx r) a.ingress.items)) c.deref_mut.ensures.value) in
    let egress : take p.egress.len (es' ++ drop (length es') p.egress.items) ≡ each_given opened_egress (map (entering_tx s r) a.ingress.items) p.egress.items =
    take_at es' _ _ es_long ∙ (c.open_egresses.ensures ∙ ap (λ (ys : List (Option Tx)). each_given opened_egress ys c.deref_mut-3.result.now) txs
    ∙ ap (each_given opened_egress (map (entering_tx s r) a.ingress.items)) c.deref_mut-3.ensures.value) in
    let attached : c.attach.new.self ≡ filter (λ x. not (has_remote r x)) a.ids ++ attachment r c.args.id ∷ [] =
    c.in_ok-attach.ensures.ok ∙ ap (λ (xs : List Attachment). xs ++ attachment r c.args.id ∷ []) (c.detach.ensures ∙ ap (filter (λ x. not (has_remote r x))) c.in_ok-ids.ensures) in
    rw (← c.self.view_is) (node_entered s r c.args.id c.args.epoch (queue_capacity a.tables) a.ingress.items p.ingress.items _ a.egress.items p.egress.items _ a.ids p.ids c.attach.new.self
    c.self.invariant.ports ports' purges ingress egress attached)
