-- What is live over the relay is an item of the bearer: whose identity it bears, and to whose end the way ahead is open.
use Rattle.std.proofs.Common.{◌≡◌, ℕ, ◌+◌, true, false, List, Option, Some, None, refl, sym, ◌∙◌, ap, subst, arith}
use Rattle.std.specs.List.{slice_get}
use Rattle.std.proofs.lemmas.Bool.{cond-false}
use Rattle.link_base.specs.declared.names.Chan.{Chan}
use Rattle.link_base.specs.declared.names.Goal.{Goal}
use Rattle.link_base.specs.declared.names.Goal.TheVariants.{Direct as ToDirect, Relay as ToRelay}
use Rattle.link_base.specs.declared.names.Key.{Key}
use Rattle.link_base.specs.declared.names.LocalId.{LocalId}
use Rattle.link_base.specs.declared.names.Node.TheVariants as kinds
use Rattle.link_base.specs.declared.names.PortName.{PortName}
use Rattle.link_base.specs.declared.names.PortName.TheVariants.{Direct, Pc5, Uu}
use Rattle.link_base.specs.declared.names.Remote.{Remote}
use Rattle.link_base.specs.declared.names.Side.TheVariants.{Low, High}
use Rattle.link_base.specs.declared.names.Way.{Way}
use Rattle.link_base.specs.declared.names.Way.TheVariants.{Ul, Dl}
use Rattle.bearer_map.specs.declared.rows.MapRow.{MapRow}
use Rattle.srap_header.specs.Srap.{IsSrap}
use Rattle.pdcp_pdu.specs.Pdcp.{pdcp_bytes}
use Rattle.node_model.specs.declared.parcel.Parcel.{Parcel}
use Rattle.node_model.specs.Names.{AtRelay, key_of}
use Rattle.node_model.specs.Relaying.{ue_of}
use Rattle.node_model.specs.State.{slot_at, queue_at}
use Rattle.chain_model.specs.Bursts.{way_in, way_out}
use Rattle.chain_model.specs.OneCopy.{Spot, OnHop, InSlot, InQueue, WaitsOnHop, IsAt, OpenBehindRelay, IsLiveOver, IsLivePdu, direct, over_relay}
use Rattle.chain_model.specs.State.{Chain, node_at}
use Rattle.item_law.specs.Live.{LiveTowards, LiveOverRelay, IsOpenDown}
use Rattle.item_law.specs.State.{Item, OnFirstHop, OnSecondHop, epoch_at, goal_at, way_of, is_off_pc5}
use Rattle.item_law.specs.State.{Spot as ItemSpot, InSlot as InItemSlot, InQueue as InItemQueue}
use Rattle.item_law.proofs.base.Nodes.{not_ahead, reserves_at}
use Rattle.item_law.proofs.moving.AtEnd.{of_hop}
use Rattle.item_law.proofs.moving.Moves.{owned, own_goal}
use Rattle.item_place.specs.Places.{Link, Ingress, Egress, Box, at, SecondBy, FirstBy, IsSpot, first, slot, queue, second}
use Rattle.item_chain.specs.Runs.{Remembers}
use Rattle.item_chain.specs.View.{view}
use Rattle.item_chain.specs.Stands.{as_list, egress_of, IsParcel, RowFits, Ghost, Stands}
use Rattle.item_chain.proofs.Headers.{drb_is, pc5_remote, pc5_direct, pc5_uu, uu_direct, ul_dl, first_of, srap_is}
use Rattle.item_chain.proofs.Ports.{link_port, link_way, link_epoch}
use Rattle.item_chain.proofs.Pushes.{ingress_egress, link_ingress, link_egress}
use Rattle.item_chain.proofs.Seconds.{bears, for_own}
use Rattle.item_run.proofs.Coming.{IsFor}
use Rattle.item_run.proofs.LiveSpots.{inv, attaches_goal, joined, on_link, direct_live, LiveItem}

-- the way in which an SDU goes on is that of its queue
pub egress_way : (way : Way) (row : MapRow) → way ≡ way_out (egress_of way row)
egress_way Ul row = refl
egress_way Dl row = refl

module _ (g : Ghost) (c : Chain) (st : Stands g (view c)) where
  -- an item that bears what is read of a SRAP PDU, and whose way ahead is open, is live for the key
  module _ (key : Key) (going : Way) (spot : Spot) (sdu pdu : List ℕ) (over : IsLiveOver c key going spot sdu pdu) (n : ℕ) (i : Item) (is : g.chain.items n ≡ Some i)
      (u : LocalId) (goal : i.goal ≡ ToRelay u) (spelled : sdu ≡ g.spell n) where
    header_is : (over.header.ue ≡ u.0) × (over.header.bearer + 1 ≡ i.key.drb.0) × (over.header.body ≡ pdcp_bytes (st.spelt n i is).row.pdcp (st.spelt n i is).pdu)
    header_is = srap_is g (view c) st n i u is goal over.header (subst (IsSrap over.header) spelled over.reads)

    ue : over.header.ue ≡ u.0
    ue = header_is.0

    is_for : i.key.remote ≡ key.remote → way_of i ≡ going → LiveOverRelay g.chain i u (g.chain.spot n) (way_of i) → IsFor g (view c) st n (key_of key.remote key.drb going) pdu
    is_for remote way live = record {
      item = i;
      its = is;
      remote = remote;
      drb = drb_is i.key.drb key.drb (sym header_is.1 ∙ sym over.bearer);
      way = way;
      live = record { is = is; live = subst (λ (z : Goal). LiveTowards g.chain i (g.chain.spot n) z) (sym goal) live };
      spelled = sym over.body ∙ header_is.2;
    }

    -- behind the relay, off the PC5 hops, the way ahead is open for the item's own remote
    abbrev OpenFor : Way → Type 0
    OpenFor Ul = goal_at (g.chain.path i.key.remote) kinds.Gnb ≡ ToRelay u
    OpenFor Dl = IsOpenDown (g.chain.path i.key.remote) (ToRelay u)

    behind : (w : Way) → is_off_pc5 (g.chain.spot n) (way_of i) ≡ true → OpenBehindRelay c key.remote over.row (record { 0 = over.header.ue }) w
        → (i.key.remote ≡ key.remote) × OpenFor w
    behind Ul off ahead =
        let gnb = attaches_goal g c st kinds.Gnb key.remote over.header.ue u ahead.1 ue in
        let own = owned (inv g c st) n i is key.remote u kinds.Gnb off goal gnb in
        (sym own, ap (λ (q : Remote). goal_at (g.chain.path q) kinds.Gnb) (sym own) ∙ gnb)
    behind Dl off ahead =
        let remote = attaches_goal g c st kinds.Remote key.remote over.header.ue u ahead.1 ue in
        let own = owned (inv g c st) n i is key.remote u kinds.Remote off goal remote in (
          sym own,
          subst (λ (q : Remote). IsOpenDown (g.chain.path q) (ToRelay u)) own (joined g c st key.remote over.row.pc5 ahead.0, remote),
        )

    off_pc5 : (x : ItemSpot) (w : Way) → g.chain.spot n ≡ x → way_of i ≡ w → is_off_pc5 x w ≡ true → is_off_pc5 (g.chain.spot n) (way_of i) ≡ true
    off_pc5 x w at way off = ap (is_off_pc5 (g.chain.spot n)) way ∙ ap (λ (y : ItemSpot). is_off_pc5 y w) at ∙ off

    live_by : (x : ItemSpot) (w : Way) → g.chain.spot n ≡ x → way_of i ≡ w → LiveOverRelay g.chain i u x w → LiveOverRelay g.chain i u (g.chain.spot n) (way_of i)
    live_by x w at way live = subst (LiveOverRelay g.chain i u (g.chain.spot n)) (sym way) (subst (λ (y : ItemSpot). LiveOverRelay g.chain i u y w) (sym at) live)

    -- in a slot or in a queue it is so
    slot_for : (to : Remote) → g.chain.spot n ≡ InItemSlot to → way_of i ≡ going → OpenBehindRelay c key.remote over.row (record { 0 = over.header.ue }) going
        → IsFor g (view c) st n (key_of key.remote key.drb going) pdu
    slot_for to at way ahead =
        let b = behind going (off_pc5 (InItemSlot to) going at way refl) ahead in
        is_for b.0 way (live_by (InItemSlot to) going at way (by going b.1))
      where
        by : (w : Way) → OpenFor w → LiveOverRelay g.chain i u (InItemSlot to) w
        by Ul open_for = open_for
        by Dl open_for = open_for

    queue_for : (to : Remote) → g.chain.spot n ≡ InItemQueue to → way_of i ≡ going → OpenBehindRelay c key.remote over.row (record { 0 = over.header.ue }) going
        → IsFor g (view c) st n (key_of key.remote key.drb going) pdu
    queue_for to at way ahead =
        let b = behind going (off_pc5 (InItemQueue to) going at way refl) ahead in
        is_for b.0 way (live_by (InItemQueue to) going at way (by going b.1))
      where
        by : (w : Way) → OpenFor w → LiveOverRelay g.chain i u (InItemQueue to) w
        by Ul open_for = open_for
        by Dl open_for = open_for

  -- what stands on a Uu hop up, or on a PC5 hop down, is on its second hop
  record IsSecondHop (i : Item) (x : ItemSpot) (w : Way) (p : PortName) (e : ℕ) : Type 0 where
    pub to : Remote
    pub own : ℕ
    pub spot : x ≡ OnSecondHop to own
    pub way : way_of i ≡ w
    pub by : SecondBy c.tables i w to own p e

  second_of : (i : Item) (x : ItemSpot) (w : Way) (p : PortName) (e : ℕ) → ((o : Goal) → FirstBy c.tables i o w p e → ⊥) → IsSpot c.tables i x (Link p w e) → IsSecondHop i x w p e
  second_of i x w p e no_first (first q f a is by) = absurd (no_first i.goal (moved i w p q e f a (FirstBy c.tables i i.goal) by))
    where
      moved : (i : Item) (w : Way) (p q : PortName) (e f : ℕ) → Link p w e ≡ Link q (way_of i) f → (P : Way → PortName → ℕ → Type 0) → P (way_of i) q f → P w p e
      moved i w p q e f a P x = subst (λ (v : Way). P v p e) (sym (link_way p q w (way_of i) e f a))
          (subst (λ (r : PortName). P (way_of i) r e) (sym (link_port p q w (way_of i) e f a)) (subst (P (way_of i) q) (sym (link_epoch p q w (way_of i) e f a)) x))
  second_of i x w p e no_first (slot q to a is) = absurd (link_ingress p q w e a)
  second_of i x w p e no_first (queue q to a is) = absurd (link_egress p q w e a)
  second_of i x w p e no_first (second q f to own a is by) = record {
    to = to;
    own = own;
    spot = is;
    way = sym (link_way p q w (way_of i) e f a);
    by = subst (λ (v : Way). SecondBy c.tables i v to own p e) (sym (link_way p q w (way_of i) e f a))
        (subst (λ (r : PortName). SecondBy c.tables i (way_of i) to own r e) (sym (link_port p q w (way_of i) e f a))
        (subst (SecondBy c.tables i (way_of i) to own q) (sym (link_epoch p q w (way_of i) e f a)) by));
  }

  module _ (past : List Chain) (remembers : Remembers past g) (key : Key) (sdu pdu : List ℕ) where
    ---- on hops

    up_pc5 : (r : Remote) (ch : Chan) (k : ℕ) → WaitsOnHop past c (Pc5 r ch) Ul k sdu → IsLiveOver c key Ul (OnHop (Pc5 r ch) Ul k) sdu pdu
        → LiveItem g c st past remembers key Ul (OnHop (Pc5 r ch) Ul k) pdu
    up_pc5 r ch k w over =
        let o = on_link g c st past remembers (Pc5 r ch) Ul k sdu w in
        let i : Item = o.item in
        let f = first_of c.tables i (g.chain.spot o.n) w.receiver.epoch (Pc5 r ch) Ul (λ q d. pc5_direct r q ch d) (λ u w s. pc5_uu r ch u s) (λ q d w s. ul_dl w) o.spot in
        let own : r ≡ i.key.remote = pc5_remote r i.key.remote ch f.by.0.pc5 f.by.2 in
        let opened = st.paths.opens High (Pc5 r ch) w.receiver w.is_open in
        let epoch : epoch_at (g.chain.path i.key.remote) kinds.Relay ≡ i.epoch =
        ap (λ (q : Remote). epoch_at (g.chain.path q) kinds.Relay) (sym own) ∙ sym opened.0 ∙ f.by.3 in
        let then = not_ahead (g.chain.path i.key.remote) kinds.Relay i.epoch ((inv g c st).own o.n i o.is refl).limit epoch in
        let relay = own_goal (inv g c st) o.n i o.is refl kinds.Relay then.1 then.0 ∙ f.goal in
        let same = ue key Ul (OnHop (Pc5 r ch) Ul k) sdu pdu over o.n i o.is f.u f.goal o.spelled in
        let mine = attaches_goal g c st kinds.Relay key.remote over.header.ue f.u over.ahead.0 same in
        let remote : i.key.remote ≡ key.remote = (inv g c st).ids.apart i.key.remote key.remote f.u
        (reserves_at (g.chain.path i.key.remote) kinds.Relay f.u relay) (reserves_at (g.chain.path key.remote) kinds.Relay f.u mine) in
        let gnb = ap (λ (q : Remote). goal_at (g.chain.path q) kinds.Gnb) remote ∙ attaches_goal g c st kinds.Gnb key.remote over.header.ue f.u over.ahead.1.1 same in
        record {
          number = o.n;
          stands = (w.receiver.epoch, o.stands);
          is_for = is_for key Ul (OnHop (Pc5 r ch) Ul k) sdu pdu over o.n i o.is f.u f.goal o.spelled remote f.way
              (live_by key Ul (OnHop (Pc5 r ch) Ul k) sdu pdu over o.n i o.is f.u f.goal o.spelled OnFirstHop Ul f.spot f.way (epoch, relay, gnb));
        }

    down_uu : (ch : Chan) (k : ℕ) → WaitsOnHop past c (Uu ch) Dl k sdu → IsLiveOver c key Dl (OnHop (Uu ch) Dl k) sdu pdu
        → LiveItem g c st past remembers key Dl (OnHop (Uu ch) Dl k) pdu
    down_uu ch k w over =
        let o = on_link g c st past remembers (Uu ch) Dl k sdu w in
        let i : Item = o.item in
        let f = first_of c.tables i (g.chain.spot o.n) w.receiver.epoch (Uu ch) Dl (λ q d. uu_direct ch q d) (λ u w s. ul_dl (sym w)) (λ q d w s. pc5_uu q d ch (sym s)) o.spot in
        let same = ue key Dl (OnHop (Uu ch) Dl k) sdu pdu over o.n i o.is f.u f.goal o.spelled in
        let off = off_pc5 key Dl (OnHop (Uu ch) Dl k) sdu pdu over o.n i o.is f.u f.goal o.spelled OnFirstHop Dl f.spot f.way refl in
        let b = behind key Dl (OnHop (Uu ch) Dl k) sdu pdu over o.n i o.is f.u f.goal o.spelled Dl off over.ahead.1 in
        let relay = ap (λ (q : Remote). goal_at (g.chain.path q) kinds.Relay) b.0 ∙ attaches_goal g c st kinds.Relay key.remote over.header.ue f.u over.ahead.0 same in
        record {
          number = o.n;
          stands = (w.receiver.epoch, o.stands);
          is_for = is_for key Dl (OnHop (Uu ch) Dl k) sdu pdu over o.n i o.is f.u f.goal o.spelled b.0 f.way
              (live_by key Dl (OnHop (Uu ch) Dl k) sdu pdu over o.n i o.is f.u f.goal o.spelled OnFirstHop Dl f.spot f.way (relay, b.1));
        }

    up_uu : (ch : Chan) (k : ℕ) → WaitsOnHop past c (Uu ch) Ul k sdu → IsLiveOver c key Ul (OnHop (Uu ch) Ul k) sdu pdu
        → LiveItem g c st past remembers key Ul (OnHop (Uu ch) Ul k) pdu
    up_uu ch k w over =
        let o = on_link g c st past remembers (Uu ch) Ul k sdu w in
        let i : Item = o.item in
        let s = second_of i (g.chain.spot o.n) Ul (Uu ch) w.receiver.epoch (none i) o.spot in
        let u = bears g (view c) st o.n i o.is s.to s.own s.spot in
        let same = ue key Ul (OnHop (Uu ch) Ul k) sdu pdu over o.n i o.is u.0 u.1 o.spelled in
        let off = off_pc5 key Ul (OnHop (Uu ch) Ul k) sdu pdu over o.n i o.is u.0 u.1 o.spelled (OnSecondHop s.to s.own) Ul s.spot s.way refl in
        let gnb = attaches_goal g c st kinds.Gnb key.remote over.header.ue u.0 over.ahead same in
        let own = owned (inv g c st) o.n i o.is key.remote u.0 kinds.Gnb off u.1 gnb in
        record {
          number = o.n;
          stands = (w.receiver.epoch, o.stands);
          is_for = is_for key Ul (OnHop (Uu ch) Ul k) sdu pdu over o.n i o.is u.0 u.1 o.spelled (sym own) s.way
              (live_by key Ul (OnHop (Uu ch) Ul k) sdu pdu over o.n i o.is u.0 u.1 o.spelled (OnSecondHop s.to s.own) Ul s.spot s.way
              (ap (λ (q : Remote). goal_at (g.chain.path q) kinds.Gnb) (sym own) ∙ gnb));
        }
      where
        none : (i : Item) (o : Goal) → FirstBy c.tables i o Ul (Uu ch) w.receiver.epoch → ⊥
        none i ToDirect by = uu_direct ch i.key.remote i.key.drb by.0
        none i (ToRelay u) by = pc5_uu i.key.remote by.0.pc5 ch (sym by.2)

    down_pc5 : (r : Remote) (ch : Chan) (k : ℕ) → WaitsOnHop past c (Pc5 r ch) Dl k sdu → IsLiveOver c key Dl (OnHop (Pc5 r ch) Dl k) sdu pdu
        → LiveItem g c st past remembers key Dl (OnHop (Pc5 r ch) Dl k) pdu
    down_pc5 r ch k w over =
        let o = on_link g c st past remembers (Pc5 r ch) Dl k sdu w in
        let i : Item = o.item in
        let s = second_of i (g.chain.spot o.n) Dl (Pc5 r ch) w.receiver.epoch (none i) o.spot in
        let u = bears g (view c) st o.n i o.is s.to s.own s.spot in
        let own : s.to ≡ i.key.remote = for_own g (view c) st o.n i o.is s.to s.own s.spot in
        let port : r ≡ s.to = pc5_remote r s.to ch s.by.0.pc5 s.by.2 in
        let opened = st.paths.opens Low (Pc5 r ch) w.receiver w.is_open in
        let hop : epoch_at (g.chain.path s.to) kinds.Remote ≡ s.own = ap (λ (q : Remote). epoch_at (g.chain.path q) kinds.Remote) (sym port) ∙ sym opened.0 ∙ s.by.3 in
        let epoch : epoch_at (g.chain.path i.key.remote) kinds.Remote ≡ i.epoch =
        ap (λ (q : Remote). epoch_at (g.chain.path q) kinds.Remote) (sym own) ∙ hop ∙ sym (of_hop (inv g c st) o.n i s.to s.own o.is s.spot refl s.way) in
        let then = not_ahead (g.chain.path i.key.remote) kinds.Remote i.epoch ((inv g c st).own o.n i o.is refl).limit epoch in
        let its = own_goal (inv g c st) o.n i o.is refl kinds.Remote then.1 then.0 ∙ u.1 in
        let same = ue key Dl (OnHop (Pc5 r ch) Dl k) sdu pdu over o.n i o.is u.0 u.1 o.spelled in
        let mine = attaches_goal g c st kinds.Remote key.remote over.header.ue u.0 over.ahead same in
        let remote : i.key.remote ≡ key.remote = (inv g c st).ids.apart i.key.remote key.remote u.0
        (reserves_at (g.chain.path i.key.remote) kinds.Remote u.0 its) (reserves_at (g.chain.path key.remote) kinds.Remote u.0 mine) in
        record {
          number = o.n;
          stands = (w.receiver.epoch, o.stands);
          is_for = is_for key Dl (OnHop (Pc5 r ch) Dl k) sdu pdu over o.n i o.is u.0 u.1 o.spelled remote s.way
              (live_by key Dl (OnHop (Pc5 r ch) Dl k) sdu pdu over o.n i o.is u.0 u.1 o.spelled (OnSecondHop s.to s.own) Dl s.spot s.way (hop, its));
        }
      where
        none : (i : Item) (o : Goal) → FirstBy c.tables i o Dl (Pc5 r ch) w.receiver.epoch → ⊥
        none i ToDirect by = pc5_direct r i.key.remote ch i.key.drb by.0
        none i (ToRelay u) by = pc5_uu r ch by.0.uu by.2

    ---- in slots and queues

    -- a parcel of a row stands in its box
    stands_in : (b : Box) (k n : ℕ) → b.left k ≡ false → slice_get b.log k ≡ Some n → at b k ≡ Some n
    stands_in b k n stays is = cond-false (b.left k) None (slice_get b.log k) stays ∙ is

    slot_spot : (port : PortName) (i : Item) (x : ItemSpot) → IsSpot c.tables i x (Ingress port) → (to : Remote) × (x ≡ InItemSlot to)
    slot_spot port i x (first q f a is by) = absurd (link_ingress q port (way_of i) f (sym a))
    slot_spot port i x (second q f to own a is by) = absurd (link_ingress q port (way_of i) f (sym a))
    slot_spot port i x (queue q to a is) = absurd (ingress_egress port q a)
    slot_spot port i x (slot q to a is) = (to, is)

    queue_spot : (port : PortName) (i : Item) (x : ItemSpot) → IsSpot c.tables i x (Egress port) → (to : Remote) × (x ≡ InItemQueue to)
    queue_spot port i x (first q f a is by) = absurd (link_egress q port (way_of i) f (sym a))
    queue_spot port i x (second q f to own a is by) = absurd (link_egress q port (way_of i) f (sym a))
    queue_spot port i x (slot q to a is) = absurd (ingress_egress q port (sym a))
    queue_spot port i x (queue q to a is) = (to, is)

    in_slot : (port : PortName) (parcel : Parcel) → slot_at (node_at c AtRelay) port ≡ Some parcel → parcel.sdu ≡ sdu → (going : Way) → going ≡ way_in port
        → IsLiveOver c key going (InSlot port) sdu pdu → LiveItem g c st past remembers key going (InSlot port) pdu
    in_slot port parcel there its going way over =
        let b : Box = g.layout.box (Ingress port) in
        let row = subst (λ (o : Option Parcel). RowFits (IsParcel c.tables g.chain.items g.chain.spot g.spell) b (as_list o)) there (st.places.slots port) in
        let x = row.each 0 parcel refl in
        let p = x.2 in
        let here = stands_in b (row.from + 0) x.0 (row.stays (row.from + 0) (omega arith)) x.1 in
        let was = st.layout.stands (Ingress port) (row.from + 0) x.0 here in
        let spot = slot_spot port was.0 (g.chain.spot x.0) was.2 in
        let goes : way_of p.item ≡ going = p.way ∙ (st.places.own port parcel there).0 ∙ sym way in
        record {
          number = x.0;
          stands = (row.from + 0, here);
          is_for = slot_for key going (InSlot port) sdu pdu over x.0 p.item p.is (ue_of parcel) p.ue (sym its ∙ p.sdu) spot.0 spot.1 goes (ahead going over);
        }
      where
        ahead : (w : Way) (over : IsLiveOver c key w (InSlot port) sdu pdu) → OpenBehindRelay c key.remote over.row (record { 0 = over.header.ue }) w
        ahead Ul over = over.ahead
        ahead Dl over = over.ahead

    in_queue : (port : PortName) (position : ℕ) (parcel : Parcel) → slice_get (queue_at (node_at c AtRelay) port) position ≡ Some parcel → parcel.sdu ≡ sdu → (going : Way)
        → going ≡ way_out port → IsLiveOver c key going (InQueue port position) sdu pdu → LiveItem g c st past remembers key going (InQueue port position) pdu
    in_queue port position parcel there its going way over =
        let b : Box = g.layout.box (Egress port) in
        let row = st.places.queues port in
        let x = row.each position parcel there in
        let p = x.2.1 in
        let here = stands_in b (row.from + position) x.0 (row.stays (row.from + position) (omega arith)) x.1 in
        let was = st.layout.stands (Egress port) (row.from + position) x.0 here in
        let spot = queue_spot port was.0 (g.chain.spot x.0) was.2 in
        let goes : way_of p.item ≡ going =
        p.way ∙ egress_way parcel.route.key.way p.egress.0 ∙ ap way_out (sym p.egress.2 ∙ x.2.0) ∙ sym way in
        record {
          number = x.0;
          stands = here;
          is_for = queue_for key going (InQueue port position) sdu pdu over x.0 p.item p.is (ue_of parcel) p.ue (sym its ∙ p.sdu) spot.0 spot.1 goes (ahead going over);
        }
      where
        ahead : (w : Way) (over : IsLiveOver c key w (InQueue port position) sdu pdu) → OpenBehindRelay c key.remote over.row (record { 0 = over.header.ue }) w
        ahead Ul over = over.ahead
        ahead Dl over = over.ahead

    -- wherever it is
    over_item : (going : Way) (spot : Spot) → IsAt past c spot going sdu → IsLiveOver c key going spot sdu pdu → LiveItem g c st past remembers key going spot pdu
    over_item going (InSlot port) is_at over = in_slot port is_at.1 is_at.2 is_at.3 going is_at.0 over
    over_item going (InQueue port position) is_at over = in_queue port position is_at.1 is_at.2 is_at.3 going is_at.0 over
    over_item going (OnHop port way k) is_at over =
        subst (λ (v : Way). LiveItem g c st past remembers key v (OnHop port way k) pdu) (sym is_at.0)
        (by_port port way is_at.1 (subst (λ (v : Way). IsLiveOver c key v (OnHop port way k) sdu pdu) is_at.0 over))
      where
        by_port : (port : PortName) (way : Way) → WaitsOnHop past c port way k sdu → IsLiveOver c key way (OnHop port way k) sdu pdu
            → LiveItem g c st past remembers key way (OnHop port way k) pdu
        by_port (Direct r d) Ul w over = absurd over.ahead
        by_port (Direct r d) Dl w over = absurd over.ahead
        by_port (Pc5 r ch) Ul w over = up_pc5 r ch k w over
        by_port (Pc5 r ch) Dl w over = down_pc5 r ch k w over
        by_port (Uu ch) Ul w over = up_uu ch k w over
        by_port (Uu ch) Dl w over = down_uu ch k w over

  pub live_item : (past : List Chain) (remembers : Remembers past g) (key : Key) (going : Way) (spot : Spot) (pdu : List ℕ) → IsLivePdu past c key going spot pdu
      → LiveItem g c st past remembers key going spot pdu
  live_item past remembers key going spot pdu (direct number is here) =
      subst (λ (s : Spot). LiveItem g c st past remembers key going s pdu) (sym is)
      (direct_live g c st past remembers key going number pdu (subst (λ (s : Spot). IsAt past c s going pdu) is here).1)
  live_item past remembers key going spot pdu (over_relay sdu here over) = over_item past remembers key sdu pdu going spot here over
