-- The sides of the relay's ports once a remote that was purged has entered.
use Rattle.std.proofs.Common.{◌≡◌, ℕ, ◌≤◌, Bool, true, false, cond, not, List, [], ◌∷◌, ◌++◌, length, get_or, drop, map, Option, Some, None, is_some, refl, sym, ◌∙◌, ap, subst, inl, inr}
use Rattle.std.specs.List.{filter, AllByRecursion}
use Rattle.std.proofs.lemmas.Bool.{cases_Bool, false≢true}
use Rattle.std.proofs.lemmas.List.{length-map}
use Rattle.link_base.specs.declared.names.LocalId.{LocalId}
use Rattle.link_base.specs.declared.names.Remote.{Remote}
use Rattle.link_base.specs.declared.names.Goal.{Goal}
use Rattle.link_base.specs.declared.names.Goal.TheVariants.{Direct as ToDirect, Relay as ToRelay}
use Rattle.link_base.specs.declared.names.PortName.{PortName}
use Rattle.link_base.specs.declared.names.PortName.TheVariants.{Direct, Pc5, Uu}
use Rattle.bearer_map.specs.declared.ids.Attachment.{Attachment}
use Rattle.bearer_map.specs.declared.rows.MapRow.{MapRow}
use Rattle.bearer_map.specs.declared.settings.Settings.{Settings}
use Rattle.bearer_map.specs.Ids.{has_remote, attachment}
use Rattle.rlc_model.specs.Rx.{Rx}
use Rattle.rlc_model.specs.Tx.{Tx}
use Rattle.node_model.specs.Names.{is_of, is_remote}
use Rattle.node_model.specs.Rows.{AreOrdered}
use Rattle.node_model.specs.State.{PortSide, Node}
use Rattle.node_model.specs.Opening.{new_entity}
use Rattle.node_model.specs.Tables.{is_open_on}
use Rattle.node_model.specs.Switching.{side_after, attached_after, node_after}
use Rattle.node_ports.specs.Order.{side_before}
use Rattle.relay_core.specs.declared.ports.IngressPort.{IngressPort}
use Rattle.relay_core.specs.declared.ports.EgressPort.{EgressPort}
use Rattle.relay_core.specs.Ports.{ArePort, ArePorts, Pairwise, IsOfRelay, side_of, sides_of, ingress_name}
use Rattle.relay_core.specs.Relay.{relay_with, LeadsAmong}
use Rattle.relay_core.specs.Switching.{each_given, entering_rx, entering_tx, opened_ingress, opened_egress}
use Rattle.relay_core.proofs.Pairs.{sides_long}
use Rattle.relay_core.proofs.Purged.{left_out, order_kept}

-- ports keep their names where some of them are opened
name_opened : (epoch : ℕ) (rx : Option Rx) (i : IngressPort) → (opened_ingress epoch rx i).name ≡ i.name
name_opened epoch None i = refl
name_opened epoch (Some rx) i = refl

pub names_opened : (epoch : ℕ) (rxs : List (Option Rx)) (is : List IngressPort) → map ingress_name (each_given (opened_ingress epoch) rxs is) ≡ map ingress_name is
names_opened epoch [] is = refl
names_opened epoch (rx ∷ rxs) [] = refl
names_opened epoch (rx ∷ rxs) (i ∷ is) = ap (λ (n : PortName). n ∷ map ingress_name (each_given (opened_ingress epoch) rxs is)) (name_opened epoch rx i)
    ∙ ap (λ (ns : List PortName). i.name ∷ ns) (names_opened epoch rxs is)

-- a port of a remote is on its relay path, at the relay
on_relay_path : (remote : Remote) (id : LocalId) (name : PortName) → IsOfRelay name → is_of remote name ≡ true → is_open_on (ToRelay id) name ≡ true
on_relay_path remote id (Direct r d) of_relay its = absurd of_relay
on_relay_path remote id (Pc5 r c) of_relay its = refl
on_relay_path remote id (Uu c) of_relay its = absurd (false≢true its)

module _ (s : Settings) (remote : Remote) where
  both_or_none : (i : IngressPort) → is_some (entering_tx s remote i) ≡ is_some (entering_rx remote i)
  both_or_none i = elim (cases_Bool (is_of remote i.name)) [ inl its ↦ rw its refl | inr other ↦ rw other refl ]

  module _ (epoch : ℕ) where
    module _ (capacity : ℕ) (names : List PortName) where
      port_opened : (rx : Option Rx) (tx : Option Tx) (i : IngressPort) (e : EgressPort) → is_some tx ≡ is_some rx → ArePort capacity names i e
          → ArePort capacity names (opened_ingress epoch rx i) (opened_egress tx e)
      port_opened None None i e both are = are
      port_opened None (Some tx) i e both are = absurd (false≢true (sym both))
      port_opened (Some rx) None i e both are = absurd (false≢true both)
      port_opened (Some rx) (Some tx) i e both are = record {
        of_relay = are.of_relay;
        name = are.name;
        opens = refl;
        capacity_is = are.capacity_is;
        in_slot = are.in_slot;
        in_queue = are.in_queue;
      }

      pub pairs_opened : (old is : List IngressPort) (es : List EgressPort) → Pairwise (ArePort capacity names) is es
          → Pairwise (ArePort capacity names) (each_given (opened_ingress epoch) (map (entering_rx remote) old) is) (each_given opened_egress (map (entering_tx s remote) old) es)
      pairs_opened [] is es all = all
      pairs_opened (x ∷ old) [] [] all = tt
      pairs_opened (x ∷ old) [] (e ∷ es) all = absurd all
      pairs_opened (x ∷ old) (i ∷ is) [] all = absurd all
      pairs_opened (x ∷ old) (i ∷ is) (e ∷ es) all = (port_opened (entering_rx remote x) (entering_tx s remote x) i e (both_or_none x) all.0, pairs_opened old is es all.1)

    module _ (id : LocalId) where
      abbrev purged : PortSide → PortSide
      purged = side_after s remote ToDirect 0

      abbrev entered : PortSide → PortSide
      entered = side_after s remote (ToRelay id) epoch

      side_entered : (i i' : IngressPort) (e e' : EgressPort) → IsOfRelay i.name → side_of i' e' ≡ purged (side_of i e)
          → side_of (opened_ingress epoch (entering_rx remote i) i') (opened_egress (entering_tx s remote i) e') ≡ entered (side_of i e)
      side_entered i i' e e' of_relay is = elim (cases_Bool (is_of remote i.name)) [
        | inl its ↦
            let on = on_relay_path remote id i.name of_relay its in
            rw (its, on) (ap (λ (x : PortSide). let side : PortSide = record x { entity = Some (new_entity s i.size epoch) } in side) (rw its at is))
        | inr other ↦ rw other (rw other at is)
      ]

      module _ (capacity : ℕ) (names names' : List PortName) where
        pub sides_entered : (is is' : List IngressPort) (es es' : List EgressPort) → Pairwise (ArePort capacity names) is es → Pairwise (ArePort capacity names') is' es'
            → sides_of is' es' ≡ map purged (sides_of is es)
            → sides_of (each_given (opened_ingress epoch) (map (entering_rx remote) is) is') (each_given opened_egress (map (entering_tx s remote) is) es') ≡ map entered (sides_of is es)
        sides_entered [] is' es es' all all' same = same
        sides_entered (i ∷ is) is' [] es' all all' same = absurd all
        sides_entered (i ∷ is) [] (e ∷ es) [] all all' same = absurd cc
        sides_entered (i ∷ is) [] (e ∷ es) (e' ∷ es') all all' same = absurd all'
        sides_entered (i ∷ is) (i' ∷ is') (e ∷ es) [] all all' same = absurd all'
        sides_entered (i ∷ is) (i' ∷ is') (e ∷ es) (e' ∷ es') all all' same =
            let first : side_of i' e' ≡ purged (side_of i e) = ap (λ (xs : List PortSide). get_or xs 0 (side_of i' e')) same in
            let rest : sides_of is' es' ≡ map purged (sides_of is es) = ap (drop 1) same in
            ap (λ (x : PortSide). x ∷ sides_of (each_given (opened_ingress epoch) (map (entering_rx remote) is) is') (each_given opened_egress (map (entering_tx s remote) is) es'))
            (side_entered i i' e e' (let are : ArePort capacity names i e = all.0 in are.of_relay) first)
            ∙ ap (λ (xs : List PortSide). entered (side_of i e) ∷ xs) (sides_entered is is' es es' all.1 all'.1 rest)

-- the relay once a remote has entered whose ports were purged
module _ (s : Settings) (remote : Remote) (id : LocalId) (epoch capacity : ℕ) (is is' is'' : List IngressPort) (es es' es'' : List EgressPort) (ids ids' ids'' : List Attachment)
    (ports : ArePorts capacity is es) (ports' : ArePorts capacity is' es') (purges : relay_with (sides_of is' es') ids' ≡ node_after s remote ToDirect 0 (relay_with (sides_of is es) ids))
    (ingress : is'' ≡ each_given (opened_ingress epoch) (map (entering_rx remote) is) is') (egress : es'' ≡ each_given opened_egress (map (entering_tx s remote) is) es') where
  abbrev names : List PortName
  names = map ingress_name is

  abbrev names' : List PortName
  names' = map ingress_name is'

  sides_purged : sides_of is' es' ≡ map (side_after s remote ToDirect 0) (sides_of is es)
  sides_purged = ap (λ (n : Node). n.ports) purges

  pub sides_are : sides_of is'' es'' ≡ map (side_after s remote (ToRelay id) epoch) (sides_of is es)
  sides_are = ap (λ (xs : List IngressPort). sides_of xs es'') ingress ∙ ap (sides_of (each_given (opened_ingress epoch) (map (entering_rx remote) is) is')) egress
      ∙ sides_entered s remote epoch id capacity names names' is is' es es' ports.pairs ports'.pairs sides_purged

  same_names : map ingress_name is'' ≡ names'
  same_names = ap (map ingress_name) ingress ∙ names_opened epoch (map (entering_rx remote) is) is'

  pairs_are : Pairwise (ArePort capacity names') is'' es''
  pairs_are = subst (λ (xs : List IngressPort). Pairwise (ArePort capacity names') xs es'') (sym ingress)
      (subst (Pairwise (ArePort capacity names') (each_given (opened_ingress epoch) (map (entering_rx remote) is) is')) (sym egress) (pairs_opened s remote epoch capacity names' is is' es' ports'.pairs))

  pub ports_are : ArePorts capacity is'' es''
  ports_are = record {
    pairs = subst (λ (ns : List PortName). Pairwise (ArePort capacity ns) is'' es'') (sym same_names) pairs_are;
    ordered = subst (AreOrdered side_before) (sym sides_are) (order_kept s remote (ToRelay id) epoch (sides_of is es) ports.ordered);
  }

  pub leads_still : (maps : List MapRow) → AllByRecursion (LeadsAmong names') maps → AllByRecursion (LeadsAmong (map ingress_name is'')) maps
  leads_still maps all = subst (λ (ns : List PortName). AllByRecursion (LeadsAmong ns) maps) (sym same_names) all

  pub node_entered : ids'' ≡ filter (λ a. not (has_remote remote a)) ids ++ attachment remote id ∷ [] → relay_with (sides_of is'' es'') ids'' ≡ node_after s remote (ToRelay id) epoch (relay_with (sides_of is es) ids)
  node_entered attached = ap (λ (xs : List PortSide). relay_with xs ids'') sides_are
      ∙ ap (relay_with (map (side_after s remote (ToRelay id) epoch) (sides_of is es))) (attached ∙ ap (λ (xs : List Attachment). xs ++ attachment remote id ∷ []) (left_out remote ids))

-- a purge leaves as many ports
pub as_many : (s : Settings) (remote : Remote) (capacity : ℕ) (is is' : List IngressPort) (es es' : List EgressPort) (ids ids' : List Attachment) → ArePorts capacity is es → ArePorts capacity is' es'
    → relay_with (sides_of is' es') ids' ≡ node_after s remote ToDirect 0 (relay_with (sides_of is es) ids) → length is' ≡ length is
as_many s remote capacity is is' es es' ids ids' ports ports' purges =
    sym (sides_long (ArePort capacity (map ingress_name is')) is' es' ports'.pairs) ∙ ap (λ (n : Node). length n.ports) purges
    ∙ (length-map (sides_of is es) (side_after s remote ToDirect 0) ∙ sides_long (ArePort capacity (map ingress_name is)) is es ports.pairs)
