-- The relay applies a plan: it purges the slots and queues that hold what leads to the remote over its old path.
use Rattle.std.proofs.Common.{◌≡◌, inl, inr, ℕ, ◌&&◌, ◌||◌, Bool, true, false, cond, List, [], length, Option, Some, None, is_some, option_map, refl, sym, ◌∙◌, ap, subst, arith}
use Rattle.std.specs.Option.{unwrap_or, option_and_then}
use Rattle.std.proofs.lemmas.Bool.{cases_Bool, cond-true, cond-false, and_from, or_parts, lt-ltb, le-ltb, false≢true}
use Rattle.std.proofs.lemmas.Option.{none-some, same_Some}
use Rattle.link_base.specs.declared.names.Node.TheVariants as kinds
use Rattle.link_base.specs.declared.names.PortName.{PortName}
use Rattle.link_base.specs.declared.names.Remote.{Remote}
use Rattle.link_base.specs.declared.names.Way.{Way}
use Rattle.link_base.specs.declared.names.Way.TheVariants.{Ul, Dl}
use Rattle.bearer_map.specs.declared.rows.MapRow.{MapRow}
use Rattle.script_text.specs.declared.event.Event.{Event}
use Rattle.script_text.specs.declared.reply.Reply.{Reply}
use Rattle.node_model.specs.declared.parcel.Parcel.{Parcel}
use Rattle.node_model.specs.Names.{AtRelay, is_of, is_remote, is_way}
use Rattle.node_model.specs.State.{PortSide, side_at, slot_of, queue_of}
use Rattle.node_model.specs.Switching.{leads_to}
use Rattle.node_model.proofs.Names.{remote_is, remote_refl}
use Rattle.chain_model.specs.declared.plan.Plan.{Plan}
use Rattle.chain_model.specs.Lines.{Unless, apply_refusal, Applies}
use Rattle.chain_model.specs.Plans.{is_open, marks}
use Rattle.chain_model.specs.State.{Chain, node_at, plan_at}
use Rattle.chain_law.proofs.Nodes.{side_name}
use Rattle.item_law.specs.State.{Item, Spot, OnFirstHop, InSlot, InQueue, OnSecondHop, Arrived, Lost, way_of, is_on_its_way}
use Rattle.item_law.specs.Steps.{purged}
use Rattle.item_place.specs.Places.{Station, Link, Ingress, Egress, Box, at, emptied, emptied_at, Layout, IsSpot, first, slot, queue, second}
use Rattle.item_place.proofs.Emptying.{emptied_on}
use Rattle.item_place.proofs.Moving.{slot_of as spot_in_slot, queue_of as spot_in_queue}
use Rattle.item_chain.specs.View.{View, view}
use Rattle.item_chain.specs.Stands.{routed_for, egress_of, IsParcel, RowFits, as_list, IsQueued, PlacesFit, Ghost, Stands, Refines, IsOfSlot}
use Rattle.item_chain.proofs.Applies.{behind, apply_refines, applies_by}
use Rattle.item_chain.proofs.FirstHops.{row_remote}
use Rattle.item_chain.proofs.FreeIds.{in_row, slot_is}
use Rattle.item_chain.proofs.Rows.{row_map}
use Rattle.item_chain.proofs.SwitchedItems.{same_remote}
use Rattle.item_chain.proofs.SwitchedNodes.{turned, sides_here}
use Rattle.item_chain.proofs.SwitchedPaths.{there}
use Rattle.chain_model.specs.Places.{find_node}

-- the spot of an item that is purged, or isn't
slot_lost : (r q : Remote) (o : Option Item) → q ≡ r → purged r (InSlot q) o ≡ Lost
slot_lost r q o same = cond-true (is_remote q r) Lost (InSlot q) (ap (is_remote q) (sym same) ∙ remote_refl q)

slot_stays : (r q : Remote) (o : Option Item) → is_remote r q ≡ false → purged r (InSlot q) o ≡ InSlot q
slot_stays r q o other = cond-false (is_remote q r) Lost (InSlot q) (same_remote q r ∙ other)

queue_lost : (r q : Remote) (i : Item) → q ≡ r → way_of i ≡ Dl → purged r (InQueue q) (Some i) ≡ Lost
queue_lost r q i same way = cond-true (is_remote q r && is_way (way_of i) Dl) Lost (InQueue q)
    (and_from _ _ (ap (is_remote q) (sym same) ∙ remote_refl q) (ap (λ (w : Way). is_way w Dl) way))

queue_stays : (r q : Remote) (i : Item) → (is_remote q r && is_way (way_of i) Dl) ≡ false → purged r (InQueue q) (Some i) ≡ InQueue q
queue_stays r q i other = cond-false (is_remote q r && is_way (way_of i) Dl) Lost (InQueue q) other

-- an item on its way after the purge is where it was
still_there : (r : Remote) (x : Spot) (o : Option Item) → is_on_its_way (purged r x o) ≡ true → purged r x o ≡ x
still_there r OnFirstHop o goes = refl
still_there r (InSlot q) o goes = by (is_remote q r) goes
  where
    by : (b : Bool) → is_on_its_way (cond b Lost (InSlot q)) ≡ true → cond b Lost (InSlot q) ≡ InSlot q
    by true goes = absurd (false≢true goes)
    by false goes = refl
still_there r (InQueue q) None goes = refl
still_there r (InQueue q) (Some i) goes = by (is_remote q r && is_way (way_of i) Dl) goes
  where
    by : (b : Bool) → is_on_its_way (cond b Lost (InQueue q)) ≡ true → cond b Lost (InQueue q) ≡ InQueue q
    by true goes = absurd (false≢true goes)
    by false goes = refl
still_there r (OnSecondHop q e) o goes = refl
still_there r Arrived o goes = absurd (false≢true goes)
still_there r Lost o goes = absurd (false≢true goes)

-- a row of which nothing is left
empty_row : (P : Parcel → ℕ → Type 0) (b : Box) → RowFits P (emptied b) []
empty_row P b = record {
  from = length b.log;
  long = omega arith;
  gone = λ k lt. lt-ltb k (length b.log) lt;
  stays = λ k le. le-ltb k (length b.log) le;
  each = λ j x e. absurd (none-some x e);
}

and_false : (b : Bool) → (b && false) ≡ false
and_false true = refl
and_false false = refl

none_stays : (b : Bool) → ◌≡◌ {A = Option Parcel} None (cond b None None)
none_stays true = refl
none_stays false = refl

nothing_stays : (b : Bool) → ◌≡◌ {A = List Parcel} [] (cond b [] [])
nothing_stays true = refl
nothing_stays false = refl

module _ (g : Ghost) (old : Chain) (st : Stands g (view old)) (remote : Remote) (plan : Plan) (its : plan_at old remote ≡ Some plan)
    (none : apply_refusal old remote kinds.Relay ≡ None) where
  abbrev still : Bool
  still = is_open (marks plan kinds.Relay)

  abbrev v : View
  v = view old

  abbrev node_is_there : is_some (find_node old AtRelay) ≡ true
  node_is_there = there g old st remote kinds.Relay plan its none still refl

  abbrev now : Chain
  now = behind g old st remote kinds.Relay plan its none still refl

  -- the slots and queues that are purged
  abbrev slot_goes : PortName → Bool
  slot_goes q = is_of remote q || leads_to remote (v.slot q)

  abbrev goes : Station → Bool
  goes (Link q w e) = false
  goes (Ingress q) = slot_goes q
  goes (Egress q) = is_of remote q

  abbrev spots : ℕ → Spot
  spots n = purged remote (g.chain.spot n) (g.chain.items n)

  abbrev layout : Layout
  layout = record g.layout { box = emptied_at goes g.layout.box }

  abbrev P : Parcel → ℕ → Type 0
  P = IsParcel old.tables g.chain.items g.chain.spot g.spell

  abbrev Q : Parcel → ℕ → Type 0
  Q = IsParcel old.tables g.chain.items spots g.spell

  ---- what slots and queues hold then

  side_slot : (q : PortName) (o : Option PortSide) → side_at (node_at old AtRelay) q ≡ o
      → option_and_then slot_of (option_map (turned old remote kinds.Relay plan node_is_there still) o) ≡ cond (is_of remote q || leads_to remote
      (option_and_then slot_of o)) None (option_and_then slot_of o)
  side_slot q None is = none_stays (is_of remote q || leads_to remote None)
  side_slot q (Some s) is = ap (λ (p : PortName). cond (is_of remote p || leads_to remote s.slot) None s.slot) (sym (side_name (node_at old AtRelay) q s is))

  slot_now : (q : PortName) → (view now).slot q ≡ cond (slot_goes q) None (v.slot q)
  slot_now q = ap (option_and_then slot_of) (sides_here old remote kinds.Relay plan node_is_there still AtRelay q refl) ∙ side_slot q (side_at (node_at old AtRelay) q) refl

  side_queue : (q : PortName) (o : Option PortSide) → side_at (node_at old AtRelay) q ≡ o
      → unwrap_or (option_map queue_of (option_map (turned old remote kinds.Relay plan node_is_there still) o)) [] ≡ cond (is_of remote q) [] (unwrap_or (option_map queue_of o) [])
  side_queue q None is = nothing_stays (is_of remote q)
  side_queue q (Some s) is = ap (λ (p : PortName). cond (is_of remote p) [] s.queue) (sym (side_name (node_at old AtRelay) q s is))

  queue_now : (q : PortName) → (view now).queue q ≡ cond (is_of remote q) [] (v.queue q)
  queue_now q = ap (λ (o : Option PortSide). unwrap_or (option_map queue_of o) []) (sides_here old remote kinds.Relay plan node_is_there still AtRelay q refl)
      ∙ side_queue q (side_at (node_at old AtRelay) q) refl

  ---- what stands in them

  -- the SDU in a slot, and the item that it is
  slotted : (q : PortName) (k n : ℕ) → at (g.layout.box (Ingress q)) k ≡ Some n → (x : Parcel) × (v.slot q ≡ Some x) × P x n × (g.chain.spot n ≡ InSlot x.route.key.remote)
  slotted q k n here =
      let x = in_row P (g.layout.box (Ingress q)) (as_list (v.slot q)) (st.places.slots q) k n here in
      let s = st.layout.stands (Ingress q) k n here in
      let to = spot_in_slot old.tables s.0 (g.chain.spot n) q s.2 in
      (x.0, slot_is (v.slot q) x.0 x.1, x.2, to.1 ∙ ap InSlot (same_Some to.0 x.0.route.key.remote (sym (ap routed_for to.1) ∙ x.2.routed)))

  queued : (q : PortName) (k n : ℕ) → at (g.layout.box (Egress q)) k ≡ Some n → (x : Parcel) × IsQueued P q x n × (g.chain.spot n ≡ InQueue x.route.key.remote)
  queued q k n here =
      let x = in_row (IsQueued P q) (g.layout.box (Egress q)) (v.queue q) (st.places.queues q) k n here in
      let s = st.layout.stands (Egress q) k n here in
      let to = spot_in_queue old.tables s.0 (g.chain.spot n) q s.2 in
      (x.0, x.2, to.1 ∙ ap InQueue (same_Some to.0 x.0.route.key.remote (sym (ap routed_for to.1) ∙ x.2.1.routed)))

  -- in a slot that is purged it leads to the remote
  leads : (q : PortName) (x : Parcel) → v.slot q ≡ Some x → slot_goes q ≡ true → x.route.key.remote ≡ remote
  leads q x is purge = elim (cases_Bool (is_of remote q)) [
    | inl of ↦ (st.places.own q x is).1 remote of
    | inr other ↦ sym (remote_is remote x.route.key.remote (sym (ap (leads_to remote) is) ∙ sym (ap (λ (b : Bool). b || leads_to remote (v.slot q)) other) ∙ purge))
  ]

  -- the queue of a remote's port holds what goes down to this remote, and no other queue does
  down : (w : Way) (row : MapRow) (r : Remote) → r ≡ row.remote → is_of remote (egress_of w row) ≡ true → (w ≡ Dl) × (r ≡ remote)
  down Ul row r same of = absurd (false≢true of)
  down Dl row r same of = (refl, same ∙ sym (remote_is remote row.remote of))

  not_down : (w : Way) (row : MapRow) (r : Remote) → r ≡ row.remote → is_of remote (egress_of w row) ≡ false → (is_remote r remote && is_way w Dl) ≡ false
  not_down Ul row r same of = and_false (is_remote r remote)
  not_down Dl row r same of = ap (λ (b : Bool). b && true) (ap (λ (x : Remote). is_remote x remote) same ∙ same_remote row.remote remote ∙ of)

  egress_row : (x : Parcel) (q : PortName) (n : ℕ) → IsQueued P q x n → (row : MapRow) × (x.route.key.remote ≡ row.remote) × (q ≡ egress_of x.route.key.way row)
  egress_row x q n p = let e = p.1.egress in (e.0, row_remote old.tables x.route.key.remote x.route.key.drb e.0 e.1, sym p.0 ∙ e.2)

  its_spot : (n : ℕ) (x : Spot) (o : Option Item) → g.chain.spot n ≡ x → g.chain.items n ≡ o → spots n ≡ purged remote x o
  its_spot n x o is item = ap (λ (y : Spot). purged remote y (g.chain.items n)) is ∙ ap (purged remote x) item

  gone : (a : Station) (k n : ℕ) → goes a ≡ true → at (g.layout.box a) k ≡ Some n → is_on_its_way (spots n) ≡ false
  gone (Link q w e) k n purge here = absurd (false≢true purge)
  gone (Ingress q) k n purge here =
      let x = slotted q k n here in
      ap is_on_its_way (its_spot n (InSlot x.0.route.key.remote) (g.chain.items n) x.3 refl ∙ slot_lost remote x.0.route.key.remote (g.chain.items n) (leads q x.0 x.1 purge))
  gone (Egress q) k n purge here =
      let x = queued q k n here in
      let row = egress_row x.0 q n x.1 in
      let d = down x.0.route.key.way row.0 x.0.route.key.remote row.1 (ap (is_of remote) (sym row.2) ∙ purge) in
      ap is_on_its_way (its_spot n (InQueue x.0.route.key.remote) (Some x.1.1.item) x.2 x.1.1.is
      ∙ queue_lost remote x.0.route.key.remote x.1.1.item d.1 (x.1.1.way ∙ d.0))

  on_hop : (n : ℕ) (i : Item) (q : PortName) (w : Way) (e : ℕ) → IsSpot old.tables i (g.chain.spot n) (Link q w e) → spots n ≡ g.chain.spot n
  on_hop n i q w e (first p f link same by) = ap (λ (x : Spot). purged remote x (g.chain.items n)) same ∙ sym same
  on_hop n i q w e (second p f to own link same by) = ap (λ (x : Spot). purged remote x (g.chain.items n)) same ∙ sym same
  on_hop n i q w e (slot p to link same) = absurd (ne link)
    where
      ne : Link q w e ≡ Ingress p → ⊥
      ne link = cc
  on_hop n i q w e (queue p to link same) = absurd (ne link)
    where
      ne : Link q w e ≡ Egress p → ⊥
      ne link = cc

  stay : (a : Station) (k n : ℕ) → goes a ≡ false → at (g.layout.box a) k ≡ Some n → spots n ≡ g.chain.spot n
  stay (Link q w e) k n kept here = let s = st.layout.stands (Link q w e) k n here in on_hop n s.0 q w e s.2
  stay (Ingress q) k n kept here =
      let x = slotted q k n here in
      let other : is_remote remote x.0.route.key.remote ≡ false = ap (leads_to remote) (sym x.1) ∙ (or_parts (is_of remote q) (leads_to remote (v.slot q)) kept).1 in
      its_spot n (InSlot x.0.route.key.remote) (g.chain.items n) x.3 refl ∙ slot_stays remote x.0.route.key.remote (g.chain.items n) other ∙ sym x.3
  stay (Egress q) k n kept here =
      let x = queued q k n here in
      let row = egress_row x.0 q n x.1 in
      let other = not_down x.0.route.key.way row.0 x.0.route.key.remote row.1 (ap (is_of remote) (sym row.2) ∙ kept) in
      its_spot n (InQueue x.0.route.key.remote) (Some x.1.1.item) x.2 x.1.1.is
      ∙ queue_stays remote x.0.route.key.remote x.1.1.item (ap (λ (w : Way). is_remote x.0.route.key.remote remote && is_way w Dl) x.1.1.way ∙ other) ∙ sym x.2

  ---- rows

  keeps : (a : Station) → goes a ≡ false → (k n : ℕ) (x : Parcel) → at (g.layout.box a) k ≡ Some n → P x n → Q x n
  keeps a kept k n x here p = record {
    item = p.item;
    is = p.is;
    sdu = p.sdu;
    ue = p.ue;
    way = p.way;
    drb = p.drb;
    routed = ap routed_for (stay a k n kept here) ∙ p.routed;
    egress = p.egress;
  }

  slots : (q : PortName) (b : Bool) → slot_goes q ≡ b → RowFits Q (cond b (emptied (g.layout.box (Ingress q))) (g.layout.box (Ingress q))) (as_list (cond b None (v.slot q)))
  slots q true purge = empty_row Q (g.layout.box (Ingress q))
  slots q false kept = row_map P Q (g.layout.box (Ingress q)) (as_list (v.slot q)) (st.places.slots q) (keeps (Ingress q) kept)

  queues : (q : PortName) (b : Bool) → is_of remote q ≡ b → RowFits (IsQueued Q q) (cond b (emptied (g.layout.box (Egress q))) (g.layout.box (Egress q))) (cond b [] (v.queue q))
  queues q true purge = empty_row (IsQueued Q q) (g.layout.box (Egress q))
  queues q false kept = row_map (IsQueued P q) (IsQueued Q q) (g.layout.box (Egress q)) (v.queue q) (st.places.queues q)
      (λ k n x here p. (p.0, keeps (Egress q) kept k n x here p.1))

  owns : (q : PortName) (x : Parcel) (b : Bool) → cond b None (v.slot q) ≡ Some x → IsOfSlot q x
  owns q x true is = absurd (none-some x is)
  owns q x false is = st.places.own q x is

  places : PlacesFit Q layout.box (view now).slot (view now).queue
  places = record {
    slots = λ q. subst (λ (o : Option Parcel). RowFits Q (layout.box (Ingress q)) (as_list o)) (sym (slot_now q)) (slots q (slot_goes q) refl);
    queues = λ q. subst (RowFits (IsQueued Q q) (layout.box (Egress q))) (sym (queue_now q)) (queues q (is_of remote q) refl);
    own = λ q x is. owns q x (slot_goes q) (sym (slot_now q) ∙ is);
  }

  pub purges : Refines old.tables g (view now)
  purges = apply_refines g old st remote kinds.Relay plan its none still refl layout (λ name w f. refl)
      (emptied_on old.tables g.layout g.chain.items g.chain.spot st.layout goes spots gone stay (λ n. still_there remote (g.chain.spot n) (g.chain.items n)))
      (λ n is. ap (λ (x : Spot). purged remote x (g.chain.items n)) is) places

pub relay_applies : (g : Ghost) (old : Chain) → Stands g (view old) → (remote : Remote) (events : List Event) (reply : Reply) (new : Chain)
    → Unless (apply_refusal old remote kinds.Relay) old events reply new (Applies old remote kinds.Relay events reply new)
    → Refines old.tables g (view new)
relay_applies g old st remote = applies_by g old st remote kinds.Relay (purges g old st remote)
