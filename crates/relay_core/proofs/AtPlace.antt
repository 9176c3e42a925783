-- A port of the relay at its place in both lists.
use Rattle.std.proofs.Common.{◌≡◌, ℕ, suc, ◌<◌, true, List, [], ◌∷◌, length, get_or, set, map, Some, None, refl, sym, ◌∙◌, ap, subst, inl, inr, arith}
use Rattle.std.proofs.lemmas.Bool.{true≢false, or_cases}
use Rattle.std.proofs.Math.ListN.{get_or-map}
use Rattle.std.proofs.Math.Seq.{map-set_same}
use Rattle.std.specs.List.{AllByRecursion}
use Rattle.std.proofs.lemmas.List.{set-get_or, get_or_default, get_or-set_same, length-set}
use Rattle.bearer_map.specs.declared.rows.MapRow.{MapRow}
use Rattle.link_base.specs.declared.names.PortName.{PortName}
use Rattle.node_model.specs.Names.{replaced, is_port}
use Rattle.node_model.specs.Rows.{AreOrdered}
use Rattle.node_model.specs.State.{PortSide, Node, side_at, set_side}
use Rattle.node_model.specs.Places.{side_name}
use Rattle.node_model.proofs.Rows.{ordered_rows}
use Rattle.node_ports.specs.Order.{side_before, by_port, IsRowOf}
use Rattle.node_ports.specs.Table.{IsPlace, side_in}
use Rattle.node_ports.proofs.Before.{same_port}
use Rattle.node_ports.proofs.Places.{row_at, place_is, none_is}
use Rattle.relay_core.specs.declared.ports.IngressPort.{IngressPort}
use Rattle.relay_core.specs.declared.ports.EgressPort.{EgressPort}
use Rattle.relay_core.specs.Ports.{ArePort, ArePorts, Pairwise, side_of, sides_of, ingress_name, is_among}
use Rattle.relay_core.specs.Relay.{LeadsAmong}
use Rattle.relay_core.proofs.Pairs.{pairs_long, pair_at, pairs_set, sides_long, sides_at, sides_set, ingresses_ordered}

module _ {capacity : ℕ} {is : List IngressPort} {es : List EgressPort} (ports : ArePorts capacity is es) where
  abbrev Are : IngressPort → EgressPort → Type 0
  Are = ArePort capacity (map ingress_name is)

  pub in_order : AreOrdered (by_port ingress_name) is
  in_order = ingresses_ordered Are is es ports.pairs ports.ordered

  pub egresses_long : length es ≡ length is
  egresses_long = pairs_long Are is es ports.pairs

  pub ports_long : length (sides_of is es) ≡ length is
  ports_long = sides_long Are is es ports.pairs

  row_of_side : (port : PortName) (place : ℕ) → IsRowOf side_name (sides_of is es) port place → IsRowOf ingress_name is port place
  row_of_side port place row =
      let lt : place < length is = omega (arith, row.within, ports_long) in
      let e : EgressPort = row_at es place (omega (arith, lt, egresses_long)) in
      record { within = lt; its = λ i. sym (ap side_name (sides_at Are is es ports.pairs place i e (side_of i e) lt)) ∙ row.its (side_of i e) }

  -- where a side stands, so does its ingress
  pub row_of_place : (port : PortName) (place : ℕ) → IsPlace (sides_of is es) port place → IsRowOf ingress_name is port place
  row_of_place port place p = row_of_side port place (record { within = p.within; its = λ s. ap side_name (get_or_default (sides_of is es) place s p.side p.within ∙ sym p.here) ∙ p.name })

  -- a port without an ingress is none of the relay's
  pub no_side : (port : PortName) → ((place : ℕ) → IsRowOf ingress_name is port place → ⊥) → side_in (sides_of is es) port ≡ None
  no_side port none = none_is (ordered_rows PortSide) (sides_of is es) port ports.ordered (λ place row. none place (row_of_side port place row))

-- a port that is among those of ingresses has one
pub row_among : (is : List IngressPort) (port : PortName) → is_among (map ingress_name is) port ≡ true → (place : ℕ) × IsRowOf ingress_name is port place
row_among [] port any = absurd (true≢false (sym any))
row_among (i ∷ is) port any = elim (or_cases (is_port port i.name) (is_among (map ingress_name is) port) any) [
  | inl here ↦ (0, record { within = omega arith; its = λ d. sym (same_port port i.name here) })
  | inr later ↦
      let rest = row_among is port later in
      let row : IsRowOf ingress_name is port rest.0 = rest.1 in
      (suc rest.0, record { within = omega (arith, row.within); its = row.its })
]

-- the relay's port of this name stands at this place, with this ingress and this egress
pub record StandsAt (capacity : ℕ) (is : List IngressPort) (es : List EgressPort) (port : PortName) (place : ℕ) (i : IngressPort) (e : EgressPort) : Type 0 where
  pub ports : ArePorts capacity is es
  pub row : IsRowOf ingress_name is port place
  pub here : i ≡ get_or is place i
  pub there : e ≡ get_or es place e

module _ {capacity : ℕ} {is : List IngressPort} {es : List EgressPort} {port : PortName} {place : ℕ} {i : IngressPort} {e : EgressPort} (a : StandsAt capacity is es port place i e) where
  abbrev Pair : IngressPort → EgressPort → Type 0
  Pair = ArePort capacity (map ingress_name is)

  pub its_name : i.name ≡ port
  its_name = ap ingress_name a.here ∙ a.row.its i

  pub its_pair : Pair i e
  its_pair = subst (λ (x : IngressPort). Pair x e) (sym a.here) (subst (Pair (get_or is place i)) (sym a.there) (pair_at Pair is es a.ports.pairs place i e a.row.within))

  pub side_here : side_of i e ≡ get_or (sides_of is es) place (side_of i e)
  side_here = ap (λ (x : IngressPort). side_of x e) a.here ∙ ap (side_of (get_or is place i)) a.there ∙ sym (sides_at Pair is es a.ports.pairs place i e (side_of i e) a.row.within)

  -- the side of the port stands at the place among all
  pub its_place : IsPlace (sides_of is es) port place
  its_place = place_is (ordered_rows PortSide) (sides_of is es) port a.ports.ordered place (side_of i e) (omega (arith, a.row.within, ports_long a.ports)) side_here its_name

  its_side : its_place.side ≡ side_of i e
  its_side = its_place.here ∙ (get_or_default (sides_of is es) place its_place.side (side_of i e) its_place.within ∙ sym side_here)

  -- it is found by its name
  pub found : (n : Node) → n.ports ≡ sides_of is es → side_at n port ≡ Some (side_of i e)
  found n same = subst (λ (xs : List PortSide). side_in xs port ≡ Some (side_of i e)) (sym same) (its_place.found ∙ ap (λ (s : PortSide). Some s) its_side)

  pub same_ingress : set is place i ≡ is
  same_ingress = ap (set is place) a.here ∙ set-get_or is place i

  pub same_egress : set es place e ≡ es
  same_egress = ap (set es place) a.there ∙ set-get_or es place e

  -- an ingress and an egress are set at the place
  pub sets : (i' : IngressPort) (e' : EgressPort) → sides_of (set is place i') (set es place e') ≡ set (sides_of is es) place (side_of i' e')
  sets i' e' = sides_set Pair is es a.ports.pairs place i' e'

  -- the names stay where both are of the same port
  pub same_names : (i' : IngressPort) → i'.name ≡ i.name → map ingress_name (set is place i') ≡ map ingress_name is
  same_names i' same = map-set_same ingress_name is place i' i (same ∙ ap ingress_name a.here)

  pub stay : (i' : IngressPort) (e' : EgressPort) → i'.name ≡ i.name → Pair i' e' → ArePorts capacity (set is place i') (set es place e')
  stay i' e' same are = record {
    pairs = subst (λ (names : List PortName). Pairwise (ArePort capacity names) (set is place i') (set es place e')) (sym (same_names i' same)) (pairs_set Pair is es a.ports.pairs place i' e' are);
    ordered = subst (AreOrdered side_before) (sym (sets i' e')) (its_place.stays (side_of i' e') (same ∙ its_name));
  }

  -- the same where the egress alone is set, and where the ingress alone is
  pub stay_egress : (e' : EgressPort) → Pair i e' → ArePorts capacity is (set es place e')
  stay_egress e' are = subst (λ (xs : List IngressPort). ArePorts capacity xs (set es place e')) same_ingress (stay i e' refl are)

  pub stay_ingress : (i' : IngressPort) → i'.name ≡ i.name → Pair i' e → ArePorts capacity (set is place i') es
  stay_ingress i' same are = subst (ArePorts capacity (set is place i')) same_egress (stay i' e same are)

  -- to set the side of the port at a node is to set them at the place
  pub sets_side : (n : Node) → n.ports ≡ sides_of is es → (i' : IngressPort) (e' : EgressPort) → i'.name ≡ i.name
      → record n { ports = sides_of (set is place i') (set es place e') } ≡ set_side n (side_of i' e')
  sets_side n same i' e' kept =
      let new : PortSide = side_of i' e' in
      let named : i'.name ≡ port = kept ∙ its_name in
      let written : sides_of (set is place i') (set es place e') ≡ replaced (λ (x : PortSide). is_port i'.name x.name) new n.ports =
      sets i' e' ∙ sym (ap (λ (xs : List PortSide). replaced (λ (x : PortSide). is_port i'.name x.name) new xs) same
      ∙ (ap (λ (q : PortName). replaced (λ (x : PortSide). is_port q x.name) new (sides_of is es)) named ∙ its_place.replaces new)) in
      ap (λ (xs : List PortSide). let m : Node = record n { ports = xs } in m) written

  -- the rows of all ports stay at their places
  pub row_stays : (i' : IngressPort) → i'.name ≡ i.name → (other : PortName) (at : ℕ) → IsRowOf ingress_name is other at → IsRowOf ingress_name (set is place i') other at
  row_stays i' same other at row = record {
    within = omega (arith, row.within, length-set is place i');
    its = λ d.
        let names : get_or (map ingress_name (set is place i')) at (ingress_name d) ≡ get_or (map ingress_name is) at (ingress_name d) =
        ap (λ (ns : List PortName). get_or ns at (ingress_name d)) (same_names i' same) in
        sym (get_or-map ingress_name (set is place i') at d) ∙ names ∙ get_or-map ingress_name is at d ∙ row.its d;
  }

  -- each route leads to one of the ports still
  pub leads_stay : (i' : IngressPort) → i'.name ≡ i.name → (maps : List MapRow) → AllByRecursion (LeadsAmong (map ingress_name is)) maps → AllByRecursion (LeadsAmong (map ingress_name (set is place i'))) maps
  leads_stay i' same maps all = subst (λ (names : List PortName). AllByRecursion (LeadsAmong names) maps) (sym (same_names i' same)) all

  pub egress_within : place < length es
  egress_within = omega (arith, a.row.within, egresses_long a.ports)

  -- it stands there still
  pub stands_still : (i' : IngressPort) (e' : EgressPort) → i'.name ≡ i.name → Pair i' e' → StandsAt capacity (set is place i') (set es place e') port place i' e'
  stands_still i' e' same are = record {
    ports = stay i' e' same are;
    row = row_stays i' same port place a.row;
    here = sym (get_or-set_same is place i' i' a.row.within);
    there = sym (get_or-set_same es place e' e' egress_within);
  }

pub is_at : {T : Type 0} (xs : List T) (place : ℕ) (lt : place < length xs) → get_or xs place (row_at xs place lt) ≡ get_or xs place (get_or xs place (row_at xs place lt))
is_at xs place lt = get_or_default xs place (row_at xs place lt) (get_or xs place (row_at xs place lt)) lt

-- two that are read at one place are one
pub same_at : {T : Type 0} (xs : List T) (place : ℕ) (x y : T) → place < length xs → x ≡ get_or xs place x → y ≡ get_or xs place y → x ≡ y
same_at xs place x y lt p q = p ∙ (get_or_default xs place x y lt ∙ sym q)

-- the same of ingresses that are seen
module _ {capacity : ℕ} {is : List IngressPort} {es : List EgressPort} (ports : ArePorts capacity is es) (seen : List IngressPort) (same : seen ≡ is) where
  pub seen_in_order : AreOrdered (by_port ingress_name) seen
  seen_in_order = subst (AreOrdered (by_port ingress_name)) (sym same) (in_order ports)

  row_seen : (port : PortName) (place : ℕ) → IsRowOf ingress_name seen port place → IsRowOf ingress_name is port place
  row_seen port place row = subst (λ (xs : List IngressPort). IsRowOf ingress_name xs port place) same row

  pub none_seen : (port : PortName) → ((place : ℕ) → IsRowOf ingress_name seen port place → ⊥) → side_in (sides_of is es) port ≡ None
  none_seen port none = no_side ports port (λ place row. none place (subst (λ (xs : List IngressPort). IsRowOf ingress_name xs port place) (sym same) row))

  pub within_egresses : (port : PortName) (place : ℕ) → IsRowOf ingress_name seen port place → place < length es
  within_egresses port place row = omega (arith, (row_seen port place row).within, egresses_long ports)

  pub within_ingresses : (port : PortName) (place : ℕ) → IsRowOf ingress_name seen port place → place < length is
  within_ingresses port place row = (row_seen port place row).within

  pub stands : (port : PortName) (place : ℕ) → IsRowOf ingress_name seen port place → (i : IngressPort) → i ≡ get_or is place i → (e : EgressPort) → e ≡ get_or es place e → StandsAt capacity is es port place i e
  stands port place row i here e there = record { ports = ports; row = row_seen port place row; here = here; there = there }

  abbrev egress_at : (port : PortName) (place : ℕ) → IsRowOf ingress_name seen port place → EgressPort
  egress_at port place row = get_or es place (row_at es place (within_egresses port place row))

  pub stands_in : (port : PortName) (place : ℕ) (row : IsRowOf ingress_name seen port place) (i : IngressPort) → i ≡ get_or is place i → StandsAt capacity is es port place i (egress_at port place row)
  stands_in port place row i here = stands port place row i here (egress_at port place row) (is_at es place (within_egresses port place row))

  abbrev ingress_of : (port : PortName) (place : ℕ) → IsRowOf ingress_name seen port place → IngressPort
  ingress_of port place row = get_or is place (row_at is place (within_ingresses port place row))

  pub stands_out : (port : PortName) (place : ℕ) (row : IsRowOf ingress_name seen port place) (e : EgressPort) → e ≡ get_or es place e → StandsAt capacity is es port place (ingress_of port place row) e
  stands_out port place row e there = stands port place row (ingress_of port place row) (is_at is place (within_ingresses port place row)) e there

  -- a port that is among them has one
  pub among_seen : (port : PortName) → is_among (map ingress_name is) port ≡ true → ((place : ℕ) → IsRowOf ingress_name seen port place → ⊥) → ⊥
  among_seen port among none =
      let has = row_among is port among in
      none has.0 (subst (λ (xs : List IngressPort). IsRowOf ingress_name xs port has.0) (sym same) has.1)

  pub stands_any : (port : PortName) (place : ℕ) (row : IsRowOf ingress_name seen port place) → StandsAt capacity is es port place (ingress_of port place row) (egress_at port place row)
  stands_any port place row = stands port place row (ingress_of port place row) (is_at is place (within_ingresses port place row)) (egress_at port place row) (is_at es place (within_egresses port place row))

-- a side that stands at the place of a port is the port's
pub name_at : (sides : List PortSide) (port : PortName) (place : ℕ) → IsPlace sides port place → (s : PortSide) → s ≡ get_or sides place s → s.name ≡ port
name_at sides port place p s is = ap side_name (same_at sides place s p.side p.within is p.here) ∙ p.name
