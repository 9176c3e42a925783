-- The sides of the relay's ports once a remote is purged, and how many SDUs that drops.
use Rattle.std.proofs.Common.{◌≡◌, ℕ, ◌+◌, ◌==◌, Bool, true, false, cond, not, ◌&&◌, ◌||◌, List, [], ◌∷◌, ◌++◌}
use Rattle.std.proofs.Common.{length, map, sum_by, Option, Some, None, is_some, refl, sym, ◌∙◌, ap, subst, arith, inl, inr}
use Rattle.std.specs.Prelude.{◌-◌, ◌^◌, min, IfSome}
use Rattle.std.specs.List.{filter, AllByRecursion}
use Rattle.std.proofs.lemmas.Bool.{cases_eq, eq-eqb, ne_eqb}
use Rattle.std.proofs.lemmas.List.{append-nil}
use Rattle.std.proofs.lemmas.List.Sums.{sum_by-cons}
use Rattle.link_base.specs.declared.names.Remote.{Remote}
use Rattle.link_base.specs.declared.names.Goal.{Goal}
use Rattle.link_base.specs.declared.names.Goal.TheVariants.{Direct as ToDirect}
use Rattle.link_base.specs.declared.names.PortName.{PortName}
use Rattle.link_base.specs.declared.names.PortName.TheVariants.{Direct, Pc5, Uu}
use Rattle.bearer_map.specs.declared.ids.Attachment.{Attachment}
use Rattle.bearer_map.specs.declared.settings.Settings.{Settings}
use Rattle.bearer_map.specs.declared.rows.MapRow.{MapRow}
use Rattle.bearer_map.specs.Ids.{has_remote}
use Rattle.rlc_model.specs.Rx.{Rx}
use Rattle.rlc_model.specs.Tx.{Tx}
use Rattle.rlc_model.specs.Sides.{Entity}
use Rattle.node_model.specs.declared.parcel.Parcel.{Parcel}
use Rattle.node_model.specs.Names.{is_remote, is_of}
use Rattle.node_model.specs.Rows.{AreOrdered}
use Rattle.node_model.specs.State.{PortSide, Node}
use Rattle.node_model.specs.Opening.{new_entity}
use Rattle.node_model.specs.Tables.{is_open_on}
use Rattle.node_model.specs.Switching.{leads_to, side_after, unconfirmed_in, dropped_at, attached_after, node_after}
use Rattle.node_ports.specs.Order.{side_before}
use Rattle.relay_core.specs.declared.ports.IngressPort.{IngressPort}
use Rattle.relay_core.specs.declared.ports.EgressPort.{EgressPort}
use Rattle.relay_core.specs.Ports.{ArePort, ArePorts, Pairwise, IsOfRelay, IsQueued, entity_by, side_of, sides_of, ingress_name}
use Rattle.relay_core.specs.Relay.{relay_with, LeadsAmong}
use Rattle.relay_core.specs.Switching.{fitting, is_emptied, purged_ingress, dropped_in_slot, purged_egress, unconfirmed_of, dropped_in_queue}

-- two numbers are compared either way
eqb_sym : (a b : ℕ) → (a == b) ≡ (b == a)
eqb_sym a b = elim (cases_eq a b) [
  | inl same ↦ eq-eqb a b same ∙ sym (eq-eqb b a (sym same))
  | inr other ↦ ne_eqb a b other ∙ sym (ne_eqb b a (λ e. other (sym e)))
]

unconfirmed_same : (rx : Option Rx) (tx : Option Tx) (epoch : ℕ) → is_some tx ≡ is_some rx → unconfirmed_of tx ≡ unconfirmed_in (entity_by rx tx epoch)
unconfirmed_same (Some rx) (Some tx) epoch opens = refl
unconfirmed_same None None epoch opens = refl
unconfirmed_same (Some rx) None epoch opens = refl
unconfirmed_same None (Some tx) epoch opens = absurd cc

opens_still : (its : Bool) (rx : Option Rx) (tx : Option Tx) → is_some tx ≡ is_some rx → is_some (cond its None tx) ≡ is_some (cond its None rx)
opens_still true rx tx opens = refl
opens_still false rx tx opens = opens

slot_still : (P : Parcel → Type 0) (emptied : Bool) (slot : Option Parcel) → IfSome slot P → IfSome (cond emptied None slot) P
slot_still P true slot holds = tt
slot_still P false slot holds = holds

queue_still : (its : Bool) (parcels : List Parcel) → AllByRecursion IsQueued parcels → AllByRecursion IsQueued (cond its [] parcels)
queue_still true parcels all = tt
queue_still false parcels all = all

module _ (remote : Remote) where
  -- the attachments without the remote's
  pub left_out : (xs : List Attachment) → filter (λ a. not (has_remote remote a)) xs ≡ filter (λ (a : Attachment). not (is_remote remote a.remote)) xs
  left_out [] = refl
  left_out (a ∷ xs) =
      ap (λ (b : Bool). cond (not b) (a ∷ filter (λ x. not (has_remote remote x)) xs) (filter (λ x. not (has_remote remote x)) xs)) (eqb_sym a.remote.0 remote.0)
      ∙ ap (λ (ys : List Attachment). cond (not (is_remote remote a.remote)) (a ∷ ys) ys) (left_out xs)

  pub detached : (xs : List Attachment) → filter (λ a. not (has_remote remote a)) xs ≡ attached_after remote ToDirect xs
  detached xs = left_out xs ∙ sym (append-nil (filter (λ (a : Attachment). not (is_remote remote a.remote)) xs))

  -- an entity is closed, or stays
  entity_purged : (name : PortName) (its : Bool) → IsOfRelay name → (rx : Option Rx) (tx : Option Tx) (epoch : ℕ) (new : Option Entity)
      → entity_by (cond its None rx) (cond its None tx) epoch ≡ cond its (cond (is_open_on ToDirect name) new None) (entity_by rx tx epoch)
  entity_purged name false of_relay rx tx epoch new = refl
  entity_purged (Direct r d) true of_relay rx tx epoch new = absurd of_relay
  entity_purged (Pc5 r c) true of_relay rx tx epoch new = refl
  entity_purged (Uu c) true of_relay rx tx epoch new = refl

  module _ (capacity : ℕ) (names : List PortName) (s : Settings) (epoch : ℕ) where
    pub side_purged : (i : IngressPort) (e : EgressPort) → ArePort capacity names i e
        → side_of (purged_ingress remote i) (purged_egress remote e) ≡ side_after s remote ToDirect epoch (side_of i e)
    side_purged i e are =
        let slot : Option Parcel = cond (is_emptied remote i) None i.slot in
        ap (λ (name : PortName). let side : PortSide = record {
          name = i.name;
          size = i.size;
          entity = entity_by (cond (is_of remote i.name) None i.rx) (cond (is_of remote name) None e.tx) i.epoch;
          slot = slot;
          queue = cond (is_of remote name) [] e.queue.parcels;
        } in side) are.name
        ∙ ap (λ (x : Option Entity). let side : PortSide = record { name = i.name; size = i.size; entity = x; slot = slot; queue = cond (is_of remote i.name) [] e.queue.parcels } in side)
        (entity_purged i.name (is_of remote i.name) are.of_relay i.rx e.tx i.epoch (Some (new_entity s i.size epoch)))

    pub sides_purged : (is : List IngressPort) (es : List EgressPort) → Pairwise (ArePort capacity names) is es
        → sides_of (map (purged_ingress remote) is) (map (purged_egress remote) es) ≡ map (side_after s remote ToDirect epoch) (sides_of is es)
    sides_purged [] es all = refl
    sides_purged (i ∷ is) [] all = absurd all
    sides_purged (i ∷ is) (e ∷ es) all = ap (λ (x : PortSide). x ∷ sides_of (map (purged_ingress remote) is) (map (purged_egress remote) es)) (side_purged i e all.0)
        ∙ ap (λ (xs : List PortSide). side_after s remote ToDirect epoch (side_of i e) ∷ xs) (sides_purged is es all.1)

  module _ (capacity : ℕ) (names : List PortName) where
    pub dropped_there : (i : IngressPort) (e : EgressPort) → ArePort capacity names i e → dropped_in_slot remote i + dropped_in_queue remote e ≡ dropped_at remote (side_of i e)
    dropped_there i e are = ap (λ (name : PortName). dropped_in_slot remote i + cond (is_of remote name) (length e.queue.parcels + unconfirmed_of e.tx) 0) are.name
        ∙ ap (λ (n : ℕ). dropped_in_slot remote i + cond (is_of remote i.name) (length e.queue.parcels + n) 0) (unconfirmed_same i.rx e.tx i.epoch are.opens)

    pub dropped_sum : (is : List IngressPort) (es : List EgressPort) → Pairwise (ArePort capacity names) is es
        → sum_by (dropped_in_slot remote) is + sum_by (dropped_in_queue remote) es ≡ sum_by (dropped_at remote) (sides_of is es)
    dropped_sum [] [] all = refl
    dropped_sum [] (e ∷ es) all = absurd all
    dropped_sum (i ∷ is) [] all = absurd all
    dropped_sum (i ∷ is) (e ∷ es) all = omega (
      arith,
      sum_by-cons (dropped_in_slot remote) i is,
      sum_by-cons (dropped_in_queue remote) e es,
      sum_by-cons (dropped_at remote) (side_of i e) (sides_of is es),
      dropped_there i e all.0,
      dropped_sum is es all.1,
    )

    pub port_purged : (i : IngressPort) (e : EgressPort) → ArePort capacity names i e → ArePort capacity names (purged_ingress remote i) (purged_egress remote e)
    port_purged i e are = record {
      of_relay = are.of_relay;
      name = are.name;
      opens = ap (λ (name : PortName). is_some (cond (is_of remote name) None e.tx)) are.name ∙ opens_still (is_of remote i.name) i.rx e.tx are.opens;
      capacity_is = are.capacity_is;
      in_slot = slot_still _ (is_emptied remote i) i.slot are.in_slot;
      in_queue = queue_still (is_of remote e.name) e.queue.parcels are.in_queue;
    }

    pub pairs_purged : (is : List IngressPort) (es : List EgressPort) → Pairwise (ArePort capacity names) is es
        → Pairwise (ArePort capacity names) (map (purged_ingress remote) is) (map (purged_egress remote) es)
    pairs_purged [] [] all = tt
    pairs_purged [] (e ∷ es) all = absurd all
    pairs_purged (i ∷ is) [] all = absurd all
    pairs_purged (i ∷ is) (e ∷ es) all = (port_purged i e all.0, pairs_purged is es all.1)

-- ports keep their names, and so their order, where each side is changed into one of its name
pub names_kept : (f : IngressPort → IngressPort) → ((i : IngressPort) → (f i).name ≡ i.name) → (is : List IngressPort) → map ingress_name (map f is) ≡ map ingress_name is
names_kept f same [] = refl
names_kept f same (i ∷ is) = ap (λ (n : PortName). n ∷ map ingress_name (map f is)) (same i) ∙ ap (λ (ns : List PortName). i.name ∷ ns) (names_kept f same is)

module _ (s : Settings) (remote : Remote) (goal : Goal) (epoch : ℕ) where
  abbrev sided : PortSide → PortSide
  sided = side_after s remote goal epoch

  behind_still : (x : PortSide) (xs : List PortSide) → AllByRecursion (λ y. side_before x y ≡ true) xs → AllByRecursion (λ y. side_before (sided x) y ≡ true) (map sided xs)
  behind_still x [] all = tt
  behind_still x (y ∷ xs) all = (all.0, behind_still x xs all.1)

  pub order_kept : (xs : List PortSide) → AreOrdered side_before xs → AreOrdered side_before (map sided xs)
  order_kept [] up = tt
  order_kept (x ∷ xs) up = (behind_still x xs up.0, order_kept xs up.1)

pub ports_purged : (remote : Remote) (capacity : ℕ) (is : List IngressPort) (es : List EgressPort) → Settings → ArePorts capacity is es
    → ArePorts capacity (map (purged_ingress remote) is) (map (purged_egress remote) es)
ports_purged remote capacity is es s ports = record {
  pairs = subst (λ (names : List PortName). Pairwise (ArePort capacity names) (map (purged_ingress remote) is) (map (purged_egress remote) es))
      (sym (names_kept (purged_ingress remote) (λ i. refl) is)) (pairs_purged remote capacity (map ingress_name is) is es ports.pairs);
  ordered = subst (AreOrdered side_before) (sym (sides_purged remote capacity (map ingress_name is) s 0 is es ports.pairs)) (order_kept s remote ToDirect 0 (sides_of is es) ports.ordered);
}

-- the relay's node once its ingresses, its egresses and its attachments are those without the remote
module _ (s : Settings) (remote : Remote) (capacity : ℕ) (is : List IngressPort) (es : List EgressPort) (ids : List Attachment) (ports : ArePorts capacity is es)
    (is' : List IngressPort) (es' : List EgressPort) (ids' : List Attachment) (ingress : is' ≡ map (purged_ingress remote) is) (egress : es' ≡ map (purged_egress remote) es)
    (attached : ids' ≡ filter (λ a. not (has_remote remote a)) ids) where
  pub node_purged : (epoch : ℕ) → relay_with (sides_of is' es') ids' ≡ node_after s remote ToDirect epoch (relay_with (sides_of is es) ids)
  node_purged epoch = ap (λ (xs : List IngressPort). relay_with (sides_of xs es') ids') ingress
      ∙ ap (λ (xs : List EgressPort). relay_with (sides_of (map (purged_ingress remote) is) xs) ids') egress
      ∙ ap (λ (xs : List PortSide). relay_with xs ids') (sides_purged remote capacity (map ingress_name is) s epoch is es ports.pairs)
      ∙ ap (relay_with (map (side_after s remote ToDirect epoch) (sides_of is es))) (attached ∙ detached remote ids)

  pub ports_are : ArePorts capacity is' es'
  ports_are = subst (λ (xs : List IngressPort). ArePorts capacity xs es') (sym ingress)
      (subst (ArePorts capacity (map (purged_ingress remote) is)) (sym egress) (ports_purged remote capacity is es s ports))

  pub leads_still : (maps : List MapRow) → AllByRecursion (LeadsAmong (map ingress_name is)) maps → AllByRecursion (LeadsAmong (map ingress_name is')) maps
  leads_still maps all =
      subst (λ (names : List PortName). AllByRecursion (LeadsAmong names) maps) (sym (ap (map ingress_name) ingress ∙ names_kept (purged_ingress remote) (λ i. refl) is)) all

-- what two counts tell together, each as far as it fits
pub fits_both : (a b total x y z : ℕ) → x ≡ fitting a → y ≡ fitting b → z ≡ min (x + y) (2 ^ 64 - 1) → a + b ≡ total → z ≡ fitting total
fits_both a b total x y z in_a in_b both sum = omega (arith, in_a, in_b, both, sum)
