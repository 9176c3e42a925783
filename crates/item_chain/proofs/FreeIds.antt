-- A local identity that is in use at no place: no path has it, and no item is held under it at the relay or on a Uu hop.
use Rattle.std.proofs.Common.{◌≡◌, ◌⊎◌, inl, inr, ℕ, zero, suc, ◌+◌, ◌-◌, ◌≤◌, ◌==◌, ◌&&◌, Bool, true, false, not}
use Rattle.std.proofs.Common.{List, [], ◌∷◌, ◌++◌, get_or, map, find, Option, Some, None, refl, sym, ◌∙◌, ap, subst, arith}
use Rattle.std.specs.List.{list_any, slice_get}
use Rattle.std.specs.Option.{unwrap_or, option_map, option_and_then}
use Rattle.std.proofs.lemmas.Bool.{cases_Bool, cases_lt, cond-true, cond-false, and_from, or_left, or_right, true≢false, false≢true, eq-eqb}
use Rattle.std.proofs.lemmas.Option.{none-some, same_Some, slice_get_within}
use Rattle.link_base.specs.declared.names.Chan.{Chan}
use Rattle.link_base.specs.declared.names.Drb.{Drb}
use Rattle.link_base.specs.declared.names.Goal.{Goal}
use Rattle.link_base.specs.declared.names.Goal.TheVariants.{Direct as ToDirect, Relay as ToRelay}
use Rattle.link_base.specs.declared.names.LocalId.{LocalId}
use Rattle.link_base.specs.declared.names.Node.{Node as NodeKind}
use Rattle.link_base.specs.declared.names.Node.TheVariants as kinds
use Rattle.link_base.specs.declared.names.Place.{Place}
use Rattle.link_base.specs.declared.names.Place.TheVariants.{Attached, Planned, Slot, Queue, Uu as UuChan}
use Rattle.link_base.specs.declared.names.PortName.{PortName}
use Rattle.link_base.specs.declared.names.PortName.TheVariants.{Uu}
use Rattle.link_base.specs.declared.names.Remote.{Remote}
use Rattle.link_base.specs.declared.names.Way.{Way}
use Rattle.link_base.specs.declared.names.Way.TheVariants.{Ul, Dl}
use Rattle.bearer_map.specs.declared.ids.Attachment.{Attachment}
use Rattle.bearer_map.specs.declared.rows.MapRow.{MapRow}
use Rattle.bearer_map.specs.declared.rows.RemoteRow.{RemoteRow}
use Rattle.bearer_map.specs.declared.rows.UuRow.{UuRow}
use Rattle.rlc_model.specs.Sides.{Entity, sender_of}
use Rattle.rlc_model.specs.Tx.{Tx, Kept, kept_at}
use Rattle.rlc_law.specs.Hop.{Hop, Reaches}
use Rattle.rlc_law.specs.Ports.{hop_of}
use Rattle.rlc_law.proofs.Safety.{confirms_complete}
use Rattle.node_model.specs.declared.parcel.Parcel.{Parcel}
use Rattle.node_model.specs.Names.{NodeName, AtRelay, is_id, is_remote, node_of}
use Rattle.node_model.specs.Relaying.{ue_of}
use Rattle.node_model.specs.State.{PortSide, Node, side_at, slot_at, slot_of, queue_at, queue_of, id_in, no_node}
use Rattle.node_model.specs.Tables.{has_remote, map_row}
use Rattle.node_model.proofs.Finding.{find_passes}
use Rattle.node_model.proofs.Names.{port_is, remote_is}
use Rattle.chain_model.specs.declared.plan.Plan.{Plan}
use Rattle.chain_model.specs.Places.{find_node}
use Rattle.chain_model.specs.Plans.{is_open, kept_bears, entity_bears, slot_bears, plan_asks, is_at, places, tag_bears, asks_for}
use Rattle.chain_model.specs.State.{Chain, node_at, plan_at}
use Rattle.chain_model.proofs.Lookups.{cases_found}
use Rattle.chain_law.proofs.Members.{IsIn, contains, found_in, get_in, in_first, in_second, made_in, none_found, passes_any, any_found}
use Rattle.chain_law.proofs.Nodes.{side_name}
use Rattle.item_law.specs.State.{Item, Spot, OnFirstHop, InSlot, InQueue, OnSecondHop, Arrived, Lost, way_of, is_on_its_way, is_off_pc5, goal_at, Reserves, goal_in}
use Rattle.item_law.specs.State.{Plan as ItemPlan}
use Rattle.item_place.specs.Places.{Station, Link, Ingress, Egress, Box, at, FirstBy, SecondBy, IsSpot, first, slot, queue, second}
use Rattle.item_place.specs.HopFits.{HopFits}
use Rattle.item_place.proofs.Boxes.{at_log}
use Rattle.item_chain.specs.View.{view}
use Rattle.item_chain.specs.Stands.{has_uu, goal_of, id_of, IsParcel, RowFits, as_list, PlanFits, opened, closed, Ghost, Stands, IsQueued, BearIds}
use Rattle.item_chain.proofs.Calls.{way_sends}
use Rattle.item_chain.proofs.Confirms.{has_at}
use Rattle.item_chain.proofs.Headers.{uu_chan}
use Rattle.item_chain.proofs.Ports.{own}
use Rattle.item_chain.proofs.Receives.{some_is}

-- two names of an identity are one
id_refl : (u : LocalId) → is_id u u ≡ true
id_refl u = eq-eqb u.0 u.0 refl

id_bears : (u v : LocalId) → v ≡ u → is_id u v ≡ true
id_bears u v e = ap (is_id u) e ∙ id_refl u

-- an identity is read of a path
pub goal_some : (o : Option LocalId) (u : LocalId) → goal_of o ≡ ToRelay u → o ≡ Some u
goal_some None u e = absurd (ne e)
  where
    ne : ToDirect ≡ ToRelay u → ⊥
    ne e = cc
goal_some (Some v) u e = ap (λ (g : Goal). id_of g) e

same_id : (u v : LocalId) → ToRelay u ≡ ToRelay v → u ≡ v
same_id u v e = cc

-- an attachment that is read is among them
id_any : (xs : List Attachment) (q : Remote) (u : LocalId) → id_in xs q ≡ Some u → list_any (λ (a : Attachment). is_remote q a.remote && is_id u a.id) xs ≡ true
id_any [] q u e = absurd (none-some u e)
id_any (a ∷ more) q u e = elim (cases_Bool (is_remote q a.remote)) [
  | inl p ↦ or_left _ _ (and_from _ _ p (id_bears u a.id (same_Some a.id u (sym (cond-true (is_remote q a.remote) (Some a.id) (id_in more q) p) ∙ e))))
  | inr f ↦ or_right _ _ (id_any more q u (sym (cond-false (is_remote q a.remote) (Some a.id) (id_in more q) f) ∙ e))
]

-- what stands somewhere has not gone
pub still_there : (b : Box) (k n : ℕ) → at b k ≡ Some n → b.left k ≡ false
still_there b k n e = elim (cases_Bool (b.left k)) [
  | inl gone ↦ absurd (none-some n (sym (cond-true (b.left k) None (slice_get b.log k) gone) ∙ e))
  | inr stays ↦ stays
]

-- what stands in a row is one of its SDUs, at its position behind what went on
pub at_row : (P : Parcel → ℕ → Type 0) (b : Box) (xs : List Parcel) (row : RowFits P b xs) (k n : ℕ) → at b k ≡ Some n
    → (j : ℕ) × (x : Parcel) × (slice_get xs j ≡ Some x) × (row.from + j ≡ k) × P x n
at_row P b xs row k n e =
    let stays : b.left k ≡ false = still_there b k n e in
    let log : slice_get b.log k ≡ Some n = at_log b k n e in
    let from : row.from ≤ k = not_gone k stays in
    let j : ℕ = k - row.from in
    let x = has_at xs j (omega (arith, slice_get_within b.log k n log, row.long, from)) in
    let its = row.each j x.0 x.1 in
    let here : row.from + j ≡ k = omega (arith, from) in
    let same : its.0 ≡ n = same_Some its.0 n (sym its.1 ∙ ap (slice_get b.log) here ∙ log) in
    (j, x.0, x.1, here, subst (P x.0) same its.2)
  where
    not_gone : (k : ℕ) → b.left k ≡ false → row.from ≤ k
    not_gone k stays = elim (cases_lt k row.from) [
      | inl lt ↦ absurd (true≢false (sym (row.gone k lt) ∙ stays))
      | inr le ↦ le
    ]

pub in_row : (P : Parcel → ℕ → Type 0) (b : Box) (xs : List Parcel) → RowFits P b xs → (k n : ℕ) → at b k ≡ Some n → (x : Parcel) × IsIn xs x × P x n
in_row P b xs row k n e = let x = at_row P b xs row k n e in (x.1, get_in xs x.0 x.1 x.2, x.4)

-- what a slot holds
pub slot_is : (o : Option Parcel) (x : Parcel) → IsIn (as_list o) x → o ≡ Some x
slot_is None x i = absurd i
slot_is (Some y) x (inl e) = ap (λ (z : Parcel). Some z) e
slot_is (Some y) x (inr i) = absurd i

module _ (g : Ghost) (c : Chain) (st : Stands g (view c)) (u : LocalId) (free : find (is_at c u) (places c) ≡ None) where
  not_at : (p : Place) → IsIn (places c) p → is_at c u p ≡ true → ⊥
  not_at p among busy = true≢false (sym busy ∙ none_found (is_at c u) (places c) p free among)

  ---- where it could be

  abbrev attached_places : List Place
  attached_places = map (λ (row : RemoteRow). Attached row.remote) c.tables.remotes

  abbrev planned_places : List Place
  planned_places = map (λ (row : RemoteRow). Planned row.remote) c.tables.remotes

  abbrev slot_places : List Place
  slot_places = map (λ (s : PortSide). Slot s.name) (node_at c AtRelay).ports

  abbrev queue_places : List Place
  queue_places = map (λ (s : PortSide). Queue s.name) (node_at c AtRelay).ports

  abbrev uu_places : List Place
  uu_places = map (λ (row : UuRow). UuChan row.chan) c.tables.uus

  -- the places at remotes, and those before the Uu channels
  abbrev remote_places : List Place
  remote_places = attached_places ++ planned_places

  abbrev with_slots : List Place
  with_slots = remote_places ++ slot_places

  abbrev with_queues : List Place
  with_queues = with_slots ++ queue_places

  of_remote : (p : Place) → IsIn remote_places p → IsIn (places c) p
  of_remote p i = in_first with_queues uu_places p (in_first with_slots queue_places p (in_first remote_places slot_places p i))

  remote_row : (q : Remote) → has_remote c.tables q ≡ true → (row : RemoteRow) × IsIn c.tables.remotes row × (q ≡ row.remote)
  remote_row q has =
      let row = any_found (λ (row : RemoteRow). is_remote q row.remote) c.tables.remotes has in (
        row.0,
        found_in (λ (row : RemoteRow). is_remote q row.remote) c.tables.remotes row.0 row.1,
        remote_is q row.0.remote (find_passes (λ (row : RemoteRow). is_remote q row.remote) c.tables.remotes row.0 row.1),
      )

  -- no node attaches it
  pub not_attached : (q : Remote) → has_remote c.tables q ≡ true → (name : NodeName) → id_in (node_at c name).attached q ≡ Some u → ⊥
  not_attached q has name is =
      let row = remote_row q has in
      not_at (Attached row.0.remote)
      (of_remote (Attached row.0.remote) (in_first attached_places planned_places (Attached row.0.remote) (made_in
      (λ (row : RemoteRow). Attached row.remote) c.tables.remotes row.0 row.1)))
      (subst (λ (q : Remote). is_at c u (Attached q) ≡ true) row.2 (among (cases_found (find_node c name))))
    where
      among : ((n : Node) × (find_node c name ≡ Some n)) ⊎ (find_node c name ≡ None) → is_at c u (Attached q) ≡ true
      among (inr none) = absurd (none-some u (sym (ap (λ (o : Option Node). id_in (unwrap_or o (no_node name)).attached q) none) ∙ is))
      among (inl found) = passes_any (λ (n : Node). list_any (λ (a : Attachment). is_remote q a.remote && is_id u a.id) n.attached) c.nodes found.0
          (found_in _ c.nodes found.0 found.1)
          (id_any found.0.attached q u (sym (ap (λ (o : Option Node). id_in (unwrap_or o (no_node name)).attached q) found.1) ∙ is))

  -- no open plan asks for it
  pub not_planned : (q : Remote) → has_remote c.tables q ≡ true → (p : Plan) → plan_at c q ≡ Some p → is_open p ≡ true → p.goal ≡ ToRelay u → ⊥
  not_planned q has p is still asks =
      let row = remote_row q has in
      not_at (Planned row.0.remote)
      (of_remote (Planned row.0.remote) (in_second attached_places planned_places (Planned row.0.remote) (made_in
      (λ (row : RemoteRow). Planned row.remote) c.tables.remotes row.0 row.1)))
      (subst (λ (q : Remote). is_at c u (Planned q) ≡ true) row.2
      (ap (plan_asks u) is ∙ and_from _ _ still (ap (asks_for u) asks ∙ id_refl u)))

  -- no path has it
  pub not_reserved : (q : Remote) → Reserves (g.chain.path q) u → ⊥
  not_reserved q has =
      let known = st.paths.listed q u has in
      let last = st.paths.lasts q known in
      by known last.0 last.1 (st.paths.plans q last.0 last.1) has
    where
      kind_has : has_remote c.tables q ≡ true → (kind : NodeKind) → goal_at (g.chain.path q) kind ≡ ToRelay u → ⊥
      kind_has known kind is = not_attached q known (node_of kind q) (goal_some (id_in (node_at c (node_of kind q)).attached q) u (st.paths.ids kind q ∙ is))

      some_not : (at_remote at_relay at_gnb : Bool) → not (at_remote && (at_relay && at_gnb)) ≡ true → (goal asks : Goal)
          → ((kind : NodeKind) → goal_in goal (Some (record { asks = asks; at_remote = at_remote; at_relay = at_relay; at_gnb = at_gnb })) kind ≡ ToRelay u → ⊥)
          → goal ≡ ToRelay u → ⊥
      some_not true true true still goal asks none is = absurd (false≢true still)
      some_not false b d still goal asks none is = none kinds.Remote is
      some_not true false d still goal asks none is = none kinds.Relay is
      some_not true true false still goal asks none is = none kinds.Gnb is

      by : has_remote c.tables q ≡ true → (p : Plan) → plan_at c q ≡ Some p → PlanFits (g.chain.path q) p → Reserves (g.chain.path q) u → ⊥
      by known p is (closed shut none epoch goal) (inl has) = kind_has known kinds.Gnb (ap (λ (o : Option ItemPlan). goal_in (g.chain.path q).goal o kinds.Gnb) none ∙ has)
      by known p is (closed shut none epoch goal) (inr asks) = none-some asks.0 (sym none ∙ asks.1)
      by known p is (opened still plan epoch) (inl has) = some_not p.at_remote p.at_relay p.at_gnb still (g.chain.path q).goal p.goal
          (λ kind e. kind_has known kind (ap (λ (o : Option ItemPlan). goal_in (g.chain.path q).goal o kind) plan ∙ e)) has
      by known p is (opened still plan epoch) (inr asks) = not_planned q known p is still
          (ap (λ (x : ItemPlan). x.asks) (same_Some _ asks.0 (sym plan ∙ asks.1)) ∙ asks.2)

  ---- no item is held under it

  -- an SDU in a slot or in a queue
  side_there : (o : Option PortSide) (x : Parcel) → option_and_then slot_of o ≡ Some x → (s : PortSide) × (o ≡ Some s)
  side_there None x e = absurd (none-some x e)
  side_there (Some s) x e = (s, refl)

  pub not_in_slot : (p : PortName) (x : Parcel) → slot_at (node_at c AtRelay) p ≡ Some x → ue_of x ≡ u → ⊥
  not_in_slot p x is same =
      let s = side_there (side_at (node_at c AtRelay) p) x is in
      not_at (Slot s.0.name)
      (in_first with_queues uu_places (Slot s.0.name) (in_first with_slots queue_places (Slot s.0.name) (in_second remote_places slot_places (Slot s.0.name)
      (made_in (λ (s : PortSide). Slot s.name) (node_at c AtRelay).ports s.0 (found_in _ (node_at c AtRelay).ports s.0 s.1)))))
      (subst (λ (p : PortName). is_at c u (Slot p) ≡ true) (side_name (node_at c AtRelay) p s.0 s.1) (ap (slot_bears u) is ∙ id_bears u (ue_of x) same))

  queue_there : (o : Option PortSide) (x : Parcel) → IsIn (unwrap_or (option_map queue_of o) []) x → (s : PortSide) × (o ≡ Some s)
  queue_there None x i = absurd i
  queue_there (Some s) x i = (s, refl)

  pub not_in_queue : (p : PortName) (x : Parcel) → IsIn (queue_at (node_at c AtRelay) p) x → ue_of x ≡ u → ⊥
  not_in_queue p x among same =
      let s = queue_there (side_at (node_at c AtRelay) p) x among in
      not_at (Queue s.0.name)
      (in_first with_queues uu_places (Queue s.0.name) (in_second with_slots queue_places (Queue s.0.name)
      (made_in (λ (s : PortSide). Queue s.name) (node_at c AtRelay).ports s.0 (found_in _ (node_at c AtRelay).ports s.0 s.1))))
      (subst (λ (p : PortName). is_at c u (Queue p) ≡ true) (side_name (node_at c AtRelay) p s.0 s.1)
      (passes_any (λ (x : Parcel). is_id u (ue_of x)) (queue_at (node_at c AtRelay) p) x among (id_bears u (ue_of x) same)))

  -- an SDU in the transmitter of a Uu port that isn't confirmed
  pub uu_place : (chan : Chan) → has_uu c.tables chan ≡ true → is_at c u (UuChan chan) ≡ true → ⊥
  uu_place chan has busy =
      let row = any_found (λ (row : UuRow). chan.0 == row.chan.0) c.tables.uus has in
      let same : chan ≡ row.0.chan = uu_chan chan row.0.chan (port_is (Uu chan) (Uu row.0.chan)
      (find_passes (λ (row : UuRow). chan.0 == row.chan.0) c.tables.uus row.0 row.1)) in
      not_at (UuChan row.0.chan)
      (in_second with_queues uu_places (UuChan row.0.chan)
      (made_in (λ (row : UuRow). UuChan row.chan) c.tables.uus row.0 (found_in (λ (row : UuRow). chan.0 == row.chan.0) c.tables.uus row.0 row.1)))
      (subst (λ (x : Chan). is_at c u (UuChan x) ≡ true) same busy)

  pub at_transmitter : (w : Way) (chan : Chan) (e : Entity) → (view c).entity (sender_of w) (Uu chan) ≡ Some e → entity_bears u (Some e) ≡ true → is_at c u (UuChan chan) ≡ true
  at_transmitter Ul chan e is bears = or_left _ _ (ap (entity_bears u) is ∙ bears)
  at_transmitter Dl chan e is bears = or_right _ _ (ap (entity_bears u) is ∙ bears)

  pub kept_in : (ks : List (Option Kept)) (k : ℕ) (x : Kept) → get_or ks k None ≡ Some x → IsIn ks (Some x)
  kept_in [] k x e = absurd (none-some x e)
  kept_in (y ∷ ys) zero x e = inl e
  kept_in (y ∷ ys) (suc k) x e = inr (kept_in ys k x e)

  not_on_uu : (w : Way) (chan : Chan) (k n : ℕ) (i : Item) → has_uu c.tables chan ≡ true → at (g.layout.box (Link (Uu chan) w 0)) k ≡ Some n → g.chain.items n ≡ Some i
      → i.goal ≡ ToRelay u → ⊥
  not_on_uu w chan k n i has here is goal =
      let some = some_is ((view c).entity (sender_of w) (Uu chan)) (st.openings.uus (sender_of w) chan has) in
      let e = some.0 in
      let o = own g (view c) st (sender_of w) (Uu chan) e some.1 in
      let h : Hop = hop_of o.0 w in
      let tx_is : e.tx ≡ h.tx = o.2.its_tx ∙ ap (λ (z : Way). (hop_of o.0 z).tx) (way_sends w) in
      let zero : e.epoch ≡ 0 = st.paths.opens (sender_of w) (Uu chan) e some.1 in
      let port : g.ports (Uu chan) 0 ≡ Some o.0 = ap (g.ports (Uu chan)) (sym zero) ∙ o.1 in
      let b : Box = g.layout.box (Link (Uu chan) w 0) in
      let fits : HopFits g.spell h b = st.hops (Uu chan) 0 o.0 port w in
      let log = at_log b k n here in
      kept_or_not e some.1 h tx_is b fits (st.directs (Uu chan) 0 o.0 port w) log (still_there b k n here) (st.ports.reaches (Uu chan) 0 o.0 port w) (kept_at h.tx k) refl
    where
      kept_or_not : (e : Entity) → (view c).entity (sender_of w) (Uu chan) ≡ Some e → (h : Hop) → e.tx ≡ h.tx → (b : Box) → HopFits g.spell h b
          → BearIds g.chain.items b h.tx → slice_get b.log k ≡ Some n → b.left k ≡ false → Reaches h
          → (o : Option Kept) → kept_at h.tx k ≡ o → ⊥
      kept_or_not e its h tx_is b fits bear log stays run None none =
          let done = confirms_complete h run k (omega (arith, slice_get_within b.log k n log, fits.long)) none in
          true≢false (sym ((fits.left k).1 done.0) ∙ stays)
      kept_or_not e its h tx_is b fits bear log stays run (Some x) some =
          let ue = bear k n i x log is some ∙ ap id_of goal in
          uu_place chan has (at_transmitter w chan e its
          (ap (λ (t : Tx). list_any (kept_bears u) t.kept) tx_is
          ∙ passes_any (kept_bears u) h.tx.kept (Some x) (kept_in h.tx.kept k x some)
          (ap (tag_bears u) ue ∙ id_refl u)))

  row_uu : (r : Remote) (d : Drb) (row : MapRow) → map_row c.tables r d ≡ Some row → has_uu c.tables row.uu ≡ true
  row_uu r d row is = st.good.uus row (contains c.tables.maps row (found_in _ c.tables.maps row is))

  abbrev P : Parcel → ℕ → Type 0
  P = IsParcel c.tables g.chain.items g.chain.spot g.spell

  its_ue : (x : Parcel) (n : ℕ) (i : Item) → P x n → g.chain.items n ≡ Some i → i.goal ≡ ToRelay u → ue_of x ≡ u
  its_ue x n i p is goal = same_id (ue_of x) u (sym p.ue ∙ ap (λ (i : Item). i.goal) (same_Some p.item i (sym p.is ∙ is)) ∙ goal)

  on_first : (w : Way) (p : PortName) (f k n : ℕ) (i : Item) → at (g.layout.box (Link p w f)) k ≡ Some n → g.chain.items n ≡ Some i → i.goal ≡ ToRelay u
      → FirstBy c.tables i (ToRelay u) w p f → is_off_pc5 OnFirstHop w ≡ true → ⊥
  on_first Ul p f k n i here is goal by off = false≢true off
  on_first Dl p f k n i here is goal by off = not_on_uu Dl by.0.uu k n i (row_uu i.key.remote i.key.drb by.0 by.1)
      (subst (λ (p : PortName). at (g.layout.box (Link p Dl 0)) k ≡ Some n) by.2 (subst (λ (f : ℕ). at (g.layout.box (Link p Dl f)) k ≡ Some n) by.3 here)) is goal

  on_second : (w : Way) (p : PortName) (f k n : ℕ) (i : Item) (to : Remote) (at_pull : ℕ) → at (g.layout.box (Link p w f)) k ≡ Some n → g.chain.items n ≡ Some i
      → i.goal ≡ ToRelay u
      → SecondBy c.tables i w to at_pull p f → is_off_pc5 (OnSecondHop to at_pull) w ≡ true → ⊥
  on_second Dl p f k n i to at_pull here is goal by off = false≢true off
  on_second Ul p f k n i to at_pull here is goal by off = not_on_uu Ul by.0.uu k n i (row_uu to i.key.drb by.0 by.1)
      (subst (λ (p : PortName). at (g.layout.box (Link p Ul 0)) k ≡ Some n) by.2 (subst (λ (f : ℕ). at (g.layout.box (Link p Ul f)) k ≡ Some n) by.3 here)) is goal

  by_spot : (n k : ℕ) (i : Item) (x : Spot) (a : Station) → at (g.layout.box a) k ≡ Some n → g.chain.items n ≡ Some i → i.goal ≡ ToRelay u → IsSpot c.tables i x a
      → is_off_pc5 x (way_of i) ≡ true → ⊥
  by_spot n k i x a here is goal (first p f link same by) off = on_first (way_of i) p f k n i (subst (λ (a : Station). at (g.layout.box a) k ≡ Some n) link here) is goal
      (subst (λ (o : Goal). FirstBy c.tables i o (way_of i) p f) goal by) (ap (λ (x : Spot). is_off_pc5 x (way_of i)) (sym same) ∙ off)
  by_spot n k i x a here is goal (slot p to link same) off =
      let y = in_row P (g.layout.box (Ingress p)) (as_list (slot_at (node_at c AtRelay) p)) (st.places.slots p) k n (subst
      (λ (a : Station). at (g.layout.box a) k ≡ Some n) link here) in
      not_in_slot p y.0 (slot_is (slot_at (node_at c AtRelay) p) y.0 y.1) (its_ue y.0 n i y.2 is goal)
  by_spot n k i x a here is goal (queue p to link same) off =
      let y = in_row (IsQueued P p) (g.layout.box (Egress p)) (queue_at (node_at c AtRelay) p) (st.places.queues p) k n
      (subst (λ (a : Station). at (g.layout.box a) k ≡ Some n) link here) in
      not_in_queue p y.0 y.1 (its_ue y.0 n i y.2.1 is goal)
  by_spot n k i x a here is goal (second p f to at_pull link same by) off = on_second (way_of i) p f k n i to at_pull
      (subst (λ (a : Station). at (g.layout.box a) k ≡ Some n) link here) is goal by (ap (λ (x : Spot). is_off_pc5 x (way_of i)) (sym same) ∙ off)

  off_moves : (x : Spot) (w : Way) → is_off_pc5 x w ≡ true → is_on_its_way x ≡ true
  off_moves OnFirstHop w off = refl
  off_moves (InSlot q) w off = refl
  off_moves (InQueue q) w off = refl
  off_moves (OnSecondHop q e) w off = refl
  off_moves Arrived w off = absurd (false≢true off)
  off_moves Lost w off = absurd (false≢true off)

  -- nothing is held under it off PC5 hops
  pub none_held : (n : ℕ) (i : Item) → g.chain.items n ≡ Some i → i.goal ≡ ToRelay u → is_off_pc5 (g.chain.spot n) (way_of i) ≡ false
  none_held n i is goal = elim (cases_Bool (is_off_pc5 (g.chain.spot n) (way_of i))) [
    | inr off ↦ off
    | inl off ↦
        let found = st.layout.found n i is (off_moves (g.chain.spot n) (way_of i) off) in
        let stood = st.layout.stands found.0 found.1 n found.2 in
        let same : stood.0 ≡ i = same_Some stood.0 i (sym stood.1 ∙ is) in
        absurd (by_spot n found.1 i (g.chain.spot n) found.0 found.2 is goal (subst (λ (i : Item). IsSpot c.tables i (g.chain.spot n) found.0) same stood.2) off)
  ]
