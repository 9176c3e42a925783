-- A push: the item in a slot goes to the end of a queue.
use mathlib.Core.Path.{fun_ext}
use Rattle.std.proofs.Common.{◌≡◌, inl, inr, ℕ, Bool, List, [], ◌∷◌, ◌++◌, Option, Some, None, refl, sym, ◌∙◌, ap, subst}
use Rattle.std.specs.Option.{unwrap_or, option_map, option_and_then}
use Rattle.std.proofs.lemmas.Option.{none-some, same_Some}
use Rattle.link_base.specs.declared.names.PortName.{PortName}
use Rattle.link_base.specs.declared.names.Remote.{Remote}
use Rattle.link_base.specs.declared.names.Way.{Way}
use Rattle.rlc_law.specs.Ports.{hop_of}
use Rattle.script_text.specs.declared.event.Event.{Event}
use Rattle.script_text.specs.declared.reply.Reply.{Reply}
use Rattle.node_model.specs.declared.answers.PushReply.{PushReply}
use Rattle.node_model.specs.declared.answers.PushReply.TheVariants as pushed
use Rattle.node_model.specs.declared.parcel.Parcel.{Parcel}
use Rattle.node_model.specs.Names.{AtRelay, is_port}
use Rattle.node_model.specs.State.{PortSide, Node, side_at, slot_of, queue_of, set_side}
use Rattle.node_model.specs.Relaying.{Pushes, PushesPort}
use Rattle.chain_model.specs.State.{Chain, node_at, set_node}
use Rattle.chain_model.specs.Lines.{PushesAt, queue_capacity}
use Rattle.chain_law.proofs.Chains.{node_name}
use Rattle.item_law.specs.State.{Spot, InSlot, InQueue, Arrived, is_number, put}
use Rattle.item_law.specs.State.{Chain as ItemChain}
use Rattle.item_law.specs.Steps.{push}
use Rattle.item_law.proofs.base.Puts.{Decides, put_same, put_other, cases_same}
use Rattle.item_place.specs.Places.{Station, Link, Ingress, Egress, Box, at, moved, queue}
use Rattle.item_place.specs.HopFits.{HopFits}
use Rattle.item_place.proofs.Moving.{moves_on, slot_of as spot_in_slot}
use Rattle.item_chain.specs.View.{View, view}
use Rattle.item_chain.specs.Stands.{FitsDirect, routed_for, IsParcel, RowFits, as_list, IsQueued, item_tables, Ghost, Stands, Refines, IsOfSlot}
use Rattle.item_chain.proofs.Puts.{of_port}
use Rattle.item_chain.proofs.Views.{same_node, relay_side_set, set_twice, node_behind}
use Rattle.item_chain.proofs.Rows.{front, row_pop, row_from, row_to, row_other, box_other, parcel_keeps, parcel_moves}
use Rattle.item_chain.proofs.Tags.{direct_spot, standing}
use Rattle.item_chain.proofs.Goings.{stays, one_step, reaches_on}
use Rattle.item_chain.proofs.Given.{given_same}

pub ingress_is : (p q : PortName) → Ingress p ≡ Ingress q → p ≡ q
ingress_is p q e = cc

pub egress_is : (p q : PortName) → Egress p ≡ Egress q → p ≡ q
egress_is p q e = cc

pub ingress_egress : (p q : PortName) → Ingress p ≡ Egress q → ⊥
ingress_egress p q e = cc

pub link_ingress : (p q : PortName) (v : Way) (e : ℕ) → Link p v e ≡ Ingress q → ⊥
link_ingress p q v e h = cc

pub link_egress : (p q : PortName) (v : Way) (e : ℕ) → Link p v e ≡ Egress q → ⊥
link_egress p q v e h = cc

routed_slot : (to q : Remote) (x : Spot) → x ≡ InSlot to → routed_for x ≡ Some q → to ≡ q
routed_slot to q x is e = same_Some to q (sym (ap routed_for is) ∙ e)

module _ (g : Ghost) (v : View) (st : Stands g v) (p : PortName) (x : Parcel) (full : v.slot p ≡ Some x) where
  abbrev P : Parcel → ℕ → Type 0
  P = IsParcel v.tables g.chain.items g.chain.spot g.spell

  row : RowFits P (g.layout.box (Ingress p)) (x ∷ [])
  row = subst (λ (o : Option Parcel). RowFits P (g.layout.box (Ingress p)) (as_list o)) full (st.places.slots p)

  its : (n : ℕ) × (at (g.layout.box (Ingress p)) row.from ≡ Some n) × P x n
  its = front P (g.layout.box (Ingress p)) x [] row

  abbrev n : ℕ
  n = its.0

  abbrev A : Station
  A = Ingress p

  abbrev e : PortName
  e = x.route.egress

  abbrev B : Station
  B = Egress e

  abbrev r : Remote
  r = x.route.key.remote

  at_slot : g.chain.spot n ≡ InSlot r
  at_slot =
      let was = st.layout.stands A row.from n its.1 in
      let to = spot_in_slot v.tables was.0 (g.chain.spot n) p was.2 in
      to.1 ∙ ap InSlot (routed_slot to.0 r (g.chain.spot n) to.1 its.2.routed)

  abbrev after : ItemChain
  after = record g.chain { spot = put is_number g.chain.spot n (InQueue r) }

  abbrev box : Station → Box
  box = moved g.layout.box A row.from B n

  abbrev Q : Parcel → ℕ → Type 0
  Q = IsParcel v.tables g.chain.items after.spot g.spell

  keeps : (y : Parcel) (l : ℕ) → (l ≡ n → ⊥) → P y l → Q y l
  keeps y l ne w = parcel_keeps v.tables g.chain.items g.chain.spot g.spell n (InQueue r) y l ne w

  now : Q x n
  now = parcel_moves v.tables g.chain.items g.chain.spot g.spell n (InQueue r) x refl its.2

  abbrev apart : A ≡ B → ⊥
  apart = ingress_egress p e

  abbrev slot_after : PortName → Option Parcel
  slot_after = put is_port v.slot p None

  abbrev queue_after : PortName → List Parcel
  queue_after = put is_port v.queue e (v.queue e ++ x ∷ [])

  slots : (q : PortName) → RowFits Q (box (Ingress q)) (as_list (slot_after q))
  slots q = elim (cases_same of_port q p) [
    | inl same ↦ subst (λ (q : PortName). RowFits Q (box (Ingress q)) (as_list (slot_after q))) (sym same)
        (subst (λ (o : Option Parcel). RowFits Q (box A) (as_list o)) (sym (put_same of_port v.slot p None))
        (row_from g.layout.box A row.from B n apart its.1 st.layout.once P Q keeps [] (row_pop P (g.layout.box A) x [] row)))
    | inr ne ↦ subst (λ (o : Option Parcel). RowFits Q (box (Ingress q)) (as_list o)) (sym (put_other of_port v.slot p None q ne))
        (row_other g.layout.box A row.from B n apart its.1 st.layout.once P Q keeps (Ingress q) (as_list (v.slot q)) (λ h. ne (ingress_is q p h)) (ingress_egress q e)
        (st.places.slots q))
  ]

  queues : (q : PortName) → RowFits (IsQueued Q q) (box (Egress q)) (queue_after q)
  queues q = elim (cases_same of_port q e) [
    | inl same ↦ subst (λ (q : PortName). RowFits (IsQueued Q q) (box (Egress q)) (queue_after q)) (sym same)
        (subst (RowFits (IsQueued Q e) (box B)) (sym (put_same of_port v.queue e (v.queue e ++ x ∷ [])))
        (row_to g.layout.box A row.from B n apart its.1 st.layout.once (IsQueued P e) (IsQueued Q e) (λ y l ne w. (w.0, keeps y l ne w.1)) (v.queue e) x (refl, now)
        (st.places.queues e)))
    | inr ne ↦ subst (RowFits (IsQueued Q q) (box (Egress q))) (sym (put_other of_port v.queue e (v.queue e ++ x ∷ []) q ne))
        (row_other g.layout.box A row.from B n apart its.1 st.layout.once (IsQueued P q) (IsQueued Q q) (λ y l ne w. (w.0, keeps y l ne w.1))
        (Egress q) (v.queue q) (λ h. ingress_egress p q (sym h)) (λ h. ne (egress_is q e h)) (st.places.queues q))
  ]

  owns : (q : PortName) (y : Parcel) → slot_after q ≡ Some y → IsOfSlot q y
  owns q y is = elim (cases_same of_port q p) [
    | inl same ↦ absurd (none-some y (sym (ap slot_after same ∙ put_same of_port v.slot p None) ∙ is))
    | inr ne ↦ st.places.own q y (sym (put_other of_port v.slot p None q ne) ∙ is)
  ]

  -- it has not arrived
  not_arrived : g.chain.spot n ≡ Arrived → ⊥
  not_arrived = let was = st.layout.stands A row.from n its.1 in standing v.tables was.0 (g.chain.spot n) A was.2

  pub push_items : Refines v.tables g (record v { slot = slot_after; queue = queue_after })
  push_items = record {
    ghost = record g { chain = after; layout = record g.layout { box = box } };
    goes = one_step (item_tables v.tables) g.chain after (push n r at_slot refl);
    given = given_same g.ports;
    stands = record {
      good = st.good;
      reaches = reaches_on (item_tables v.tables) g.chain after st.reaches (push n r at_slot refl);
      layout = moves_on v.tables g.layout g.chain.items g.chain.spot st.layout A row.from B n its.1 (InQueue r) (λ i is. queue e r refl refl);
      spelt = st.spelt;
      lengths = st.lengths;
      ports = st.ports;
      sides = st.sides;
      hops = λ q f port is w. subst (HopFits g.spell (hop_of port w))
          (sym (box_other g.layout.box A row.from B n apart (Link q w f) (link_ingress q p w f) (link_egress q e w f))) (st.hops q f port is w);
      directs = λ q f port is w. subst (λ (b : Box). FitsDirect q w v.tables g.chain.items after.spot b (hop_of port w).tx)
          (sym (box_other g.layout.box A row.from B n apart (Link q w f) (link_ingress q p w f) (link_egress q e w f)))
          (direct_spot v.tables g.chain.items g.chain.spot w q (g.layout.box (Link q w f)) (hop_of port w).tx n (InQueue r) not_arrived (st.directs q f port is w));
      unopened = λ q f none w. ap (λ (b : Box). b.log) (box_other g.layout.box A row.from B n apart (Link q w f) (link_ingress q p w f) (link_egress q e w f))
          ∙ st.unopened q f none w;
      places = record { slots = slots; queues = queues; own = owns };
      paths = st.paths;
      openings = st.openings;
      ends = st.ends;
    };
  }

module _ {K X : Type 0} {is : K → K → Bool} (test : Decides is) where
  pub put_twice : (f h : K → X) (k : K) (x : X) → ((l : K) → h l ≡ f l) → (l : K) → put is h k x l ≡ put is f k x l
  put_twice f h k x same l = elim (cases_same test l k) [
    | inl e ↦ ap (put is h k x) e ∙ put_same test h k x ∙ sym (ap (put is f k x) e ∙ put_same test f k x)
    | inr ne ↦ put_other test h k x l ne ∙ same l ∙ sym (put_other test f k x l ne)
  ]

  pub put_kept : (f : K → X) (k : K) (x : X) → f k ≡ x → (l : K) → put is f k x l ≡ f l
  put_kept f k x as_was l = elim (cases_same test l k) [
    | inl e ↦ ap (put is f k x) e ∙ put_same test f k x ∙ sym as_was ∙ ap f (sym e)
    | inr ne ↦ put_other test f k x l ne
  ]

module _ (g : Ghost) (old : Chain) (st : Stands g (view old)) (port egress : PortName) (node : Node) (x : Pushes (node_at old AtRelay) port egress node) where
  abbrev relay : Node
  relay = node_at old AtRelay

  abbrev emptied : PortSide
  emptied = record x.from { slot = None }

  abbrev first : Chain
  first = set_node old (set_side relay emptied)

  abbrev longer : PortSide
  longer = record x.to { queue = x.to.queue ++ x.parcel ∷ [] }

  is_mid : node_at first AtRelay ≡ x.mid
  is_mid = node_behind old AtRelay (set_side relay emptied) port x.from x.here (node_name old AtRelay) ∙ sym x.empties

  there : side_at (node_at first AtRelay) egress ≡ Some x.to
  there = ap (λ (n : Node). side_at n egress) is_mid ∙ x.there

  abbrev second : Chain
  second = set_node first (set_side (node_at first AtRelay) longer)

  -- the node of the line is that of both changes
  is_second : second ≡ set_node old node
  is_second =
      ap (λ (n : Node). set_node first (set_side n longer)) is_mid
      ∙ ap (set_node first) (sym x.is)
      ∙ set_twice old (set_side relay emptied) node (ap (λ (n : Node). n.name) (sym x.empties) ∙ sym (ap (λ (n : Node). n.name) x.is))

  abbrev v : View
  v = view old

  full : v.slot port ≡ Some x.parcel
  full = ap (option_and_then slot_of) x.here ∙ x.full

  v1 : view first ≡ record v { slot = put is_port v.slot port None; queue = put is_port v.queue port x.from.queue }
  v1 = relay_side_set old port x.from emptied x.here refl refl refl

  slot1 : (q : PortName) → (view first).slot q ≡ put is_port v.slot port None q
  slot1 q = ap (λ (w : View). w.slot q) v1

  queue1 : (q : PortName) → (view first).queue q ≡ v.queue q
  queue1 q = ap (λ (w : View). w.queue q) v1 ∙ put_kept of_port v.queue port x.from.queue (ap (λ (o : Option PortSide). unwrap_or (option_map queue_of o) []) x.here) q

  v2 : view second ≡ record (view first) { slot = put is_port (view first).slot egress x.to.slot; queue = put is_port (view first).queue egress longer.queue }
  v2 = relay_side_set first egress x.to longer there refl refl refl

  slots_are : put is_port (view first).slot egress x.to.slot ≡ put is_port v.slot port None
  slots_are = fun_ext (λ q. put_kept of_port (view first).slot egress x.to.slot (ap (option_and_then slot_of) there) q ∙ slot1 q)

  queue_is : x.to.queue ≡ v.queue egress
  queue_is = sym (ap (λ (o : Option PortSide). unwrap_or (option_map queue_of o) []) there) ∙ queue1 egress

  queues_are : put is_port (view first).queue egress longer.queue ≡ put is_port v.queue egress (v.queue egress ++ x.parcel ∷ [])
  queues_are = fun_ext (λ q. put_twice of_port v.queue (view first).queue egress longer.queue queue1 q)
      ∙ ap (λ (xs : List Parcel). put is_port v.queue egress (xs ++ x.parcel ∷ [])) queue_is

  pushed_view : view (set_node old node) ≡ record v { slot = put is_port v.slot port None; queue = put is_port v.queue egress (v.queue egress ++ x.parcel ∷ []) }
  pushed_view =
      ap view (sym is_second) ∙ v2
      ∙ ap (λ (w : View). record w { slot = put is_port (view first).slot egress x.to.slot; queue = put is_port (view first).queue egress longer.queue }) v1
      ∙ ap (λ (s : PortName → Option Parcel). record v { slot = s; queue = put is_port (view first).queue egress longer.queue }) slots_are
      ∙ ap (λ (s : PortName → List Parcel). record v { slot = put is_port v.slot port None; queue = s }) queues_are

  pub push_stands : Refines old.tables g (view (set_node old node))
  push_stands = subst (Refines old.tables g)
      (sym (pushed_view ∙ ap (λ (q : PortName). record v { slot = put is_port v.slot port None; queue = put is_port v.queue q (v.queue q ++ x.parcel ∷ []) }) x.its_egress))
      (push_items g v st port x.parcel full)

pub push_refines : (g : Ghost) (old : Chain) → Stands g (view old) → (port : PortName) (events : List Event) (reply : Reply) (new : Chain) → PushesAt old port events reply new
    → Refines old.tables g (view new)
push_refines g old st port events reply new x = subst (λ (c : Chain). Refines old.tables g (view c)) (sym x.is) (go x.answer x.pushes)
  where
    same : x.node ≡ node_at old AtRelay → Refines old.tables g (view (set_node old x.node))
    same e = stays old.tables g (view old) (view (set_node old x.node)) (ap (λ (n : Node). view (set_node old n)) e ∙ same_node old AtRelay) st

    go : (answer : PushReply) → PushesPort (queue_capacity old) (node_at old AtRelay) port answer x.node → Refines old.tables g (view (set_node old x.node))
    go (pushed.Done egress) p = push_stands g old st port egress x.node p.1
    go pushed.NoPort p = same p.1
    go pushed.Nothing p = same p.1
    go pushed.QueueFull p = same p.1
