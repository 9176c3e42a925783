-- An item that is live while its remote has no open plan is live at a spot of the chain: both sides of each hop ahead are open, and each node ahead attaches it.
use Rattle.std.proofs.Common.{◌≡◌, ℕ, ◌-◌, true, List, Option, Some, None, Contains, refl, sym, ◌∙◌, ap, subst, arith}
use Rattle.std.proofs.lemmas.Bool.{true≢false}
use Rattle.std.proofs.lemmas.Option.{same_Some}
use Rattle.link_base.specs.declared.names.Goal.{Goal}
use Rattle.link_base.specs.declared.names.Goal.TheVariants.{Direct as ToDirect, Relay as ToRelay}
use Rattle.link_base.specs.declared.names.LocalId.{LocalId}
use Rattle.link_base.specs.declared.names.Node.{Node as NodeKind}
use Rattle.link_base.specs.declared.names.Node.TheVariants as kinds
use Rattle.link_base.specs.declared.names.PortName.{PortName}
use Rattle.link_base.specs.declared.names.PortName.TheVariants.{Direct, Pc5, Uu}
use Rattle.link_base.specs.declared.names.Remote.{Remote}
use Rattle.link_base.specs.declared.names.Side.TheVariants.{Low, High}
use Rattle.link_base.specs.declared.names.Way.{Way}
use Rattle.link_base.specs.declared.names.Way.TheVariants.{Ul, Dl}
use Rattle.bearer_map.specs.declared.rows.MapRow.{MapRow}
use Rattle.srap_header.specs.Srap.{Srap, srap, IsSrap}
use Rattle.pdcp_pdu.specs.Pdcp.{pdcp_bytes}
use Rattle.rlc_model.specs.Rx.{Rx, Done, got}
use Rattle.rlc_model.specs.Sides.{Entity, hearer_of, sender_of}
use Rattle.rlc_model.specs.Tx.{Tx, Kept, kept_at}
use Rattle.rlc_law.specs.Hop.{Hop}
use Rattle.rlc_law.specs.Ports.{Port, hop_of}
use Rattle.rlc_law.proofs.Safety.{confirms_complete, keeps_given}
use Rattle.node_model.specs.Feeding.{under}
use Rattle.node_model.specs.Names.{node_of}
use Rattle.node_model.specs.State.{id_at}
use Rattle.node_model.specs.Tables.{map_row}
use Rattle.chain_model.specs.Bursts.{way_in, way_out}
use Rattle.chain_model.specs.OneCopy.{Spot, OnHop, InSlot, InQueue, WaitsOnHop, Attaches, IsJoined, OpenBehindRelay, IsOpenAhead, IsLiveOver, IsLivePdu, direct, over_relay}
use Rattle.chain_model.specs.State.{Chain, node_at}
use Rattle.table_law.specs.Declared.{AreDeclared}
use Rattle.item_law.specs.State.{Item, OnSecondHop, way_of, is_on_its_way}
use Rattle.item_law.specs.State.{Spot as ItemSpot}
use Rattle.item_law.proofs.base.Apart.{relay_goal}
use Rattle.item_law.proofs.kept.Invariant.{is_past_relay}
use Rattle.item_place.specs.Places.{Station, Link, Ingress, Egress, Box, at, FirstBy, SecondBy, IsSpot, first, slot, queue, second}
use Rattle.item_place.proofs.Boxes.{at_log, within}
use Rattle.item_chain.specs.View.{view}
use Rattle.item_chain.specs.Stands.{id_of, as_list, uu_of, IsParcel, IsQueued, Ghost, Stands}
use Rattle.item_chain.proofs.FirstHops.{mapped}
use Rattle.item_chain.proofs.FreeIds.{at_row, in_row, slot_is, goal_some, still_there}
use Rattle.item_chain.proofs.Headers.{as_header, some_octets}
use Rattle.item_chain.proofs.Hearing.{hears_way}
use Rattle.item_chain.proofs.Seconds.{bears}
use Rattle.item_run.proofs.LiveOverRelay.{egress_way}
use Rattle.item_run.proofs.LiveSpots.{inv}
use Rattle.item_run.proofs.Quiet.{BothOpen, sends_back, its_goal, pc5_both, uu_of_row, first_both, second_both}

module _ (g : Ghost) (c : Chain) (st : Stands g (view c)) where
  -- a port of which both sides are open in one epoch is joined
  is_joined : (p : PortName) (e : ℕ) → BothOpen g c st p e → IsJoined c p
  is_joined p e both = record {
    low = (both Low).0;
    high = (both High).0;
    low_open = (both Low).1;
    high_open = (both High).1;
    same = (both Low).2 ∙ sym (both High).2;
  }

  -- what stands on a hop whose sides are open waits there
  module _ (past : List Chain) (among : Contains past c) (p : PortName) (w : Way) (e k n : ℕ) (both : BothOpen g c st p e)
      (stands : at (g.layout.box (Link p w e)) k ≡ Some n) where
    abbrev b : Box
    b = g.layout.box (Link p w e)

    abbrev sender : Entity
    sender = (both (sender_of w)).0

    abbrev receiver : Entity
    receiver = (both (hearer_of w)).0

    -- the port in this epoch
    its_port : (port : Port) × (g.ports p e ≡ Some port) × (sender.tx ≡ (hop_of port w).tx)
    its_port =
        let o = st.sides.open_port (sender_of w) p sender (both (sender_of w)).1 in
        (o.0, ap (g.ports p) (sym (both (sender_of w)).2) ∙ o.1, o.2.its_tx ∙ ap (λ (v : Way). (hop_of o.0 v).tx) (sends_back w))

    abbrev h : Hop
    h = hop_of its_port.0 w

    hears_rx : receiver.rx ≡ h.rx
    hears_rx =
        let o = st.sides.open_port (hearer_of w) p receiver (both (hearer_of w)).1 in
        let same : o.0 ≡ its_port.0 = same_Some o.0 its_port.0 (sym (ap (g.ports p) (sym (both (hearer_of w)).2) ∙ o.1) ∙ its_port.1) in
        o.2.its_rx ∙ ap (λ (v : Way). (hop_of o.0 v).rx) (hears_way w) ∙ ap (λ (q : Port). (hop_of q w).rx) same

    not_done : got h.rx k ≡ Done → ⊥
    not_done done = true≢false (sym (((st.hops p e its_port.0 its_port.1 w).left k).1 done) ∙ still_there b k n stands)

    hop_waits : WaitsOnHop past c p w k (g.spell n)
    hop_waits = by (kept_at sender.tx k) refl
      where
        by : (o : Option Kept) → kept_at sender.tx k ≡ o → WaitsOnHop past c p w k (g.spell n)
        by None none = absurd (not_done (confirms_complete h (st.ports.reaches p e its_port.0 its_port.1 w) k
            (omega (arith, within b k n stands, (st.hops p e its_port.0 its_port.1 w).long)) (ap (λ (t : Tx). kept_at t k) (sym its_port.2) ∙ none)).0)
        by (Some kept) there = record {
          receiver = receiver;
          is_open = (both (hearer_of w)).1;
          given = record {
            chain = c;
            among = among;
            entity = sender;
            its = (both (sender_of w)).1;
            its_epoch = (both (sender_of w)).2 ∙ sym (both (hearer_of w)).2;
            kept = kept;
            there = there;
            is = keeps_given h (st.ports.reaches p e its_port.0 its_port.1 w) k kept (ap (λ (t : Tx). kept_at t k) (sym its_port.2) ∙ there)
                ∙ (st.hops p e its_port.0 its_port.1 w).sdus k n (at_log b k n stands);
          };
          open_number = λ done. not_done (ap (λ (r : Rx). got r k) (sym hears_rx) ∙ done);
        }

  module _ (declared : AreDeclared c.tables) (past : List Chain) (among : Contains past c) (n : ℕ) (i : Item) (is : g.chain.items n ≡ Some i)
      (no_plan : (g.chain.path i.key.remote).plan ≡ None) (now : i.epoch ≡ (g.chain.path i.key.remote).epoch) where
    abbrev r : Remote
    r = i.key.remote

    abbrev pub octets : List ℕ
    octets = pdcp_bytes (st.spelt n i is).row.pdcp (st.spelt n i is).pdu

    -- the item is live at a spot
    pub record LiveAt : Type 0 where
      pub spot : Spot
      pub live : IsLivePdu past c i.key (way_of i) spot octets

    -- so it is where it goes in this way
    by_way : (w : Way) (spot : Spot) → way_of i ≡ w → IsLivePdu past c i.key w spot octets → LiveAt
    by_way w spot way live = record { spot = spot; live = subst (λ (v : Way). IsLivePdu past c i.key v spot octets) (sym way) live }

    ---- over the relay

    module _ (u : LocalId) (goal : i.goal ≡ ToRelay u) where
      attached : (kind : NodeKind) → Attaches c (node_of kind r) r u
      attached kind = goal_some (id_at (node_at c (node_of kind r)) r) u (st.paths.ids kind r ∙ its_goal g c st declared n i is no_plan now kind ∙ goal)

      its_map : (row : MapRow) × (map_row c.tables r i.key.drb ≡ Some row)
      its_map =
          let has = ((inv g c st).each n i is).row u goal in
          let row = mapped uu_of (map_row c.tables r i.key.drb) has.chan has.is in
          (row.0, row.1)

      abbrev header : Srap
      header = srap (i.key.drb.0 - 1) u.0 octets

      reads : IsSrap header (g.spell n)
      reads =
          let drb = st.good.drbs r i.key.drb (st.spelt n i is).row (st.spelt n i is).its_row in
          subst (IsSrap header) (sym (as_header g (view c) st n i u is goal)) (
            record { is_data = omega (arith, drb.0, drb.1); bearer_id = omega (arith, drb.0, drb.1) },
            refl,
            refl,
            some_octets (st.spelt n i is).row.pdcp (st.spelt n i is).pdu,
          )

      live_over : (w : Way) (spot : Spot) → IsOpenAhead c r its_map.0 u w spot → IsLiveOver c i.key w spot (g.spell n) octets
      live_over w spot ahead =
          let drb = st.good.drbs r i.key.drb (st.spelt n i is).row (st.spelt n i is).its_row in
          record { header = header; reads = reads; body = refl; bearer = omega (arith, drb.0); row = its_map.0; its_row = its_map.1; ahead = ahead }

      behind : (w : Way) → OpenBehindRelay c r its_map.0 u w
      behind Ul = (is_joined (Uu its_map.0.uu) 0 (uu_of_row g c st declared n i is no_plan now r its_map.0 its_map.1), attached kinds.Gnb)
      behind Dl = (is_joined (Pc5 r its_map.0.pc5) i.epoch (pc5_both g c st declared n i is no_plan now u goal its_map.0 its_map.1), attached kinds.Remote)

      first_relay : (w : Way) (p : PortName) (e k : ℕ) → way_of i ≡ w → FirstBy c.tables i (ToRelay u) w p e → at (g.layout.box (Link p w e)) k ≡ Some n → LiveAt
      first_relay Ul p e k way by stands =
          let port : Pc5 r by.0.pc5 ≡ p = sym by.2 in
          let waits = hop_waits past among p Ul e k n (first_both g c st declared n i is no_plan now (ToRelay u) goal Ul p e by) stands in
          by_way Ul (OnHop (Pc5 r by.0.pc5) Ul k) way (over_relay (g.spell n)
          (refl, subst (λ (q : PortName). WaitsOnHop past c q Ul k (g.spell n)) (sym port) waits)
          (live_over Ul (OnHop (Pc5 r by.0.pc5) Ul k) (attached kinds.Relay, behind Ul)))
      first_relay Dl p e k way by stands =
          let port : Uu by.0.uu ≡ p = sym by.2 in
          let waits = hop_waits past among p Dl e k n (first_both g c st declared n i is no_plan now (ToRelay u) goal Dl p e by) stands in
          by_way Dl (OnHop (Uu by.0.uu) Dl k) way (over_relay (g.spell n)
          (refl, subst (λ (q : PortName). WaitsOnHop past c q Dl k (g.spell n)) (sym port) waits)
          (live_over Dl (OnHop (Uu by.0.uu) Dl k) (attached kinds.Relay, behind Dl)))

      second_relay : (w : Way) (p : PortName) (e k : ℕ) (to : Remote) (own : ℕ) → way_of i ≡ w → g.chain.spot n ≡ OnSecondHop to own → SecondBy c.tables i w to own p e
          → at (g.layout.box (Link p w e)) k ≡ Some n → LiveAt
      second_relay Ul p e k to own way spot by stands =
          let waits = hop_waits past among p Ul e k n (second_both g c st declared n i is no_plan now u goal Ul way to own spot p e by) stands in
          by_way Ul (OnHop (Uu by.0.uu) Ul k) way (over_relay (g.spell n)
          (refl, subst (λ (q : PortName). WaitsOnHop past c q Ul k (g.spell n)) by.2 waits)
          (live_over Ul (OnHop (Uu by.0.uu) Ul k) (attached kinds.Gnb)))
      second_relay Dl p e k to own way spot by stands =
          let waits = hop_waits past among p Dl e k n (second_both g c st declared n i is no_plan now u goal Dl way to own spot p e by) stands in
          by_way Dl (OnHop (Pc5 to by.0.pc5) Dl k) way (over_relay (g.spell n)
          (refl, subst (λ (q : PortName). WaitsOnHop past c q Dl k (g.spell n)) by.2 waits)
          (live_over Dl (OnHop (Pc5 to by.0.pc5) Dl k) (attached kinds.Remote)))

      in_slot : (p : PortName) (k : ℕ) → at (g.layout.box (Ingress p)) k ≡ Some n → LiveAt
      in_slot p k stands =
          let x = in_row (IsParcel c.tables g.chain.items g.chain.spot g.spell) (g.layout.box (Ingress p)) (as_list ((view c).slot p)) (st.places.slots p) k n stands in
          let there = slot_is ((view c).slot p) x.0 x.1 in
          let same : x.2.item ≡ i = same_Some x.2.item i (sym x.2.is ∙ is) in
          let way : way_of i ≡ way_in p = ap way_of (sym same) ∙ x.2.way ∙ (st.places.own p x.0 there).0 in
          by_way (way_in p) (InSlot p) way (over_relay (g.spell n) (refl, x.0, there, x.2.sdu) (live_over (way_in p) (InSlot p) (ahead (way_in p))))
        where
          ahead : (w : Way) → IsOpenAhead c r its_map.0 u w (InSlot p)
          ahead Ul = behind Ul
          ahead Dl = behind Dl

      in_queue : (p : PortName) (k : ℕ) → at (g.layout.box (Egress p)) k ≡ Some n → LiveAt
      in_queue p k stands =
          let x = at_row (IsQueued (IsParcel c.tables g.chain.items g.chain.spot g.spell) p) (g.layout.box (Egress p)) ((view c).queue p) (st.places.queues p) k n stands in
          let parcel = x.4.1 in
          let same : parcel.item ≡ i = same_Some parcel.item i (sym parcel.is ∙ is) in
          let way : way_of i ≡ way_out p = ap way_of (sym same) ∙ parcel.way ∙ egress_way x.1.route.key.way parcel.egress.0 ∙ ap way_out (sym parcel.egress.2 ∙ x.4.0) in
          by_way (way_out p) (InQueue p x.0) way (over_relay (g.spell n) (refl, x.1, x.2, parcel.sdu) (live_over (way_out p) (InQueue p x.0) (ahead (way_out p) x.0)))
        where
          ahead : (w : Way) (j : ℕ) → IsOpenAhead c r its_map.0 u w (InQueue p j)
          ahead Ul j = behind Ul
          ahead Dl j = behind Dl

    ---- wherever it is

    first_at : (o : Goal) → i.goal ≡ o → (p : PortName) (e k : ℕ) → FirstBy c.tables i o (way_of i) p e → at (g.layout.box (Link p (way_of i) e)) k ≡ Some n → LiveAt
    first_at ToDirect goal p e k by stands =
        let both = first_both g c st declared n i is no_plan now ToDirect goal (way_of i) p e by in
        let waits = hop_waits past among p (way_of i) e k n both stands in
        let spelled : g.spell n ≡ octets = (st.spelt n i is).its_bytes ∙ ap (λ (z : Goal). under (id_of z) i.key.drb octets) goal in
        record {
          spot = OnHop (Direct r i.key.drb) (way_of i) k;
          live = direct k refl (
            refl,
            subst (WaitsOnHop past c (Direct r i.key.drb) (way_of i) k) spelled
                (subst (λ (q : PortName). WaitsOnHop past c q (way_of i) k (g.spell n)) by.0 waits),
          );
        }
    first_at (ToRelay u) goal p e k by stands = first_relay u goal (way_of i) p e k refl by stands

    pub live_at : is_on_its_way (g.chain.spot n) ≡ true → LiveAt
    live_at way =
        let stands = st.layout.found n i is way in
        let its = st.layout.stands stands.0 stands.1 n stands.2 in
        let same : its.0 ≡ i = same_Some its.0 i (sym its.1 ∙ is) in
        by stands.0 stands.1 stands.2 (subst (λ (j : Item). IsSpot c.tables j (g.chain.spot n) stands.0) same its.2)
      where
        of_box : (a b : Station) (k : ℕ) → a ≡ b → at (g.layout.box a) k ≡ Some n → at (g.layout.box b) k ≡ Some n
        of_box a b k same here = ap (λ (z : Station). at (g.layout.box z) k) (sym same) ∙ here

        over : (x : ItemSpot) → g.chain.spot n ≡ x → is_past_relay x ≡ true → (u : LocalId) × (i.goal ≡ ToRelay u)
        over x at past_it = relay_goal i.goal (((inv g c st).each n i is).over (ap is_past_relay at ∙ past_it))

        by : (a : Station) (k : ℕ) → at (g.layout.box a) k ≡ Some n → IsSpot c.tables i (g.chain.spot n) a → LiveAt
        by a k here (first p e at_a spot by_first) = first_at i.goal refl p e k by_first (of_box a (Link p (way_of i) e) k at_a here)
        by a k here (second p e to own at_a spot by_second) =
            let u = bears g (view c) st n i is to own spot in
            second_relay u.0 u.1 (way_of i) p e k to own refl spot by_second (of_box a (Link p (way_of i) e) k at_a here)
        by a k here (slot p to at_a spot) = let u = over _ spot refl in in_slot u.0 u.1 p k (of_box a (Ingress p) k at_a here)
        by a k here (queue p to at_a spot) = let u = over _ spot refl in in_queue u.0 u.1 p k (of_box a (Egress p) k at_a here)
