-- What completes on the second hop of the relay path, at the gNB or at a remote: it arrives for its key, or is lost.
use Rattle.std.proofs.Common.{◌≡◌, ℕ, ◌+◌, List, Some, Err, option_map, refl, sym, ◌∙◌, ap, subst}
use Rattle.std.proofs.lemmas.Option.{same_Some}
use Rattle.link_base.specs.declared.names.Chan.{Chan}
use Rattle.link_base.specs.declared.names.Drb.{Drb}
use Rattle.link_base.specs.declared.names.Goal.{Goal}
use Rattle.link_base.specs.declared.names.Key.{Key}
use Rattle.link_base.specs.declared.names.LocalId.{LocalId}
use Rattle.link_base.specs.declared.names.Node.TheVariants as kinds
use Rattle.link_base.specs.declared.names.PortName.{PortName}
use Rattle.link_base.specs.declared.names.PortName.TheVariants.{Direct, Pc5, Uu}
use Rattle.link_base.specs.declared.names.Remote.{Remote}
use Rattle.link_base.specs.declared.names.Side.TheVariants.{Low, High}
use Rattle.link_base.specs.declared.names.Way.{Way}
use Rattle.link_base.specs.declared.names.Way.TheVariants.{Ul, Dl}
use Rattle.bearer_map.specs.declared.routes.RouteFault.{RouteFault}
use Rattle.bearer_map.specs.declared.rows.MapRow.{MapRow}
use Rattle.bearer_map.specs.Contents.{Contents}
use Rattle.bearer_map.specs.Ids.{IsAttached}
use Rattle.bearer_map.specs.Routes.{MapsBearer, GnbRoute, RemoteRoute, key_in}
use Rattle.rlc_model.specs.declared.receiver.Heard.TheVariants.{Complete}
use Rattle.rlc_model.specs.Rx.{Rx}
use Rattle.rlc_model.specs.Sides.{Entity}
use Rattle.rlc_model.specs.Tx.{Tx}
use Rattle.rlc_law.specs.PortLaws.{HearsDataMade}
use Rattle.pdcp_pdu.specs.Pdcp.{pdcp_bytes}
use Rattle.srap_header.specs.declared.pdu.SrapFault.{SrapFault}
use Rattle.srap_header.specs.Srap.{Srap, IsSrap, IsSrapFault}
use Rattle.node_model.specs.Names.{NodeName, AtRemote, AtGnb, is_port}
use Rattle.node_model.specs.State.{id_in}
use Rattle.node_model.specs.Tables.{map_row}
use Rattle.item_law.specs.State.{ToDirect, ToRelay, Item, Spot, OnSecondHop, Lost, way_of, goal_at, epoch_at, is_over_relay, key_of}
use Rattle.item_law.specs.State.{Chain as ItemChain, Tables as ItemTables}
use Rattle.item_law.specs.Live.{LiveTowards, LiveOverRelay}
use Rattle.item_law.specs.Steps.{Arrives, key_for, complete_end, discard_end, IsOpenAtEnd, EndRoutes}
use Rattle.item_law.proofs.base.Apart.{relay_goal}
use Rattle.item_law.proofs.kept.Invariant.{is_past_relay, Route}
use Rattle.item_law.proofs.laws.Handed.{arrives_for_owner}
use Rattle.item_law.proofs.Inductive.{reaches_inv}
use Rattle.item_place.specs.Places.{Link, FirstBy, SecondBy, IsSpot, first, slot, queue, second}
use Rattle.item_chain.specs.View.{View, is_side, put_at}
use Rattle.item_chain.specs.Stands.{uu_of, item_tables, goal_of, calm, Ghost, Stands, Refines}
use Rattle.item_chain.proofs.Completed.{n, spells, stood, left}
use Rattle.item_chain.proofs.Discards.{row_with}
use Rattle.item_chain.proofs.Headers.{srap_is, header_fine, ul_dl, pc5_uu, pc5_direct, uu_direct, pc5_remote, pc5_chan, uu_chan, id_is, drb_is}
use Rattle.item_chain.proofs.Hearing.{its}
use Rattle.item_chain.proofs.Ports.{link_port, link_way, link_epoch}
use Rattle.item_chain.proofs.Pushes.{link_ingress, link_egress}
use Rattle.item_chain.proofs.Slots.{row_has}
use Rattle.item_chain.proofs.Taken.{Taken}
use Rattle.item_chain.proofs.Unrouted.{no_way_over, no_way_in}

-- what stands on a Uu hop up, or on a PC5 hop down, is on its second hop
pub record IsSecondHop (t : Contents) (i : Item) (x : Spot) (w : Way) (p : PortName) (f : ℕ) : Type 0 where
  pub to : Remote
  pub own : ℕ
  pub spot : x ≡ OnSecondHop to own
  pub way : way_of i ≡ w
  pub by : SecondBy t i w to own p f

module _ (t : Contents) (i : Item) (x : Spot) (f : ℕ) where
  no_first : (o : Goal) (p : PortName) (w : Way) (e : ℕ) → ((r : Remote) (d : Drb) → p ≡ Direct r d → ⊥) → ((r : Remote) (c : Chan) → w ≡ Ul → p ≡ Pc5 r c → ⊥)
      → ((u : Chan) → w ≡ Dl → p ≡ Uu u → ⊥) → FirstBy t i o w p e → ⊥
  no_first ToDirect p w e no_direct up down by = no_direct _ _ by.0
  no_first (ToRelay u) p Ul e no_direct up down by = up _ _ refl by.2
  no_first (ToRelay u) p Dl e no_direct up down by = down _ refl by.2

  second_of : (p : PortName) (w : Way) → ((r : Remote) (d : Drb) → p ≡ Direct r d → ⊥) → ((r : Remote) (c : Chan) → w ≡ Ul → p ≡ Pc5 r c → ⊥) → ((u : Chan) → w ≡ Dl → p ≡ Uu u → ⊥)
      → IsSpot t i x (Link p w f) → IsSecondHop t i x w p f
  second_of p w no_direct up down (first q e a is by) =
      absurd (no_first i.goal p w e no_direct up down
      (subst (λ (w : Way). FirstBy t i i.goal w p e) (sym (link_way p q w (way_of i) f e a))
      (subst (λ (q : PortName). FirstBy t i i.goal (way_of i) q e) (sym (link_port p q w (way_of i) f e a)) by)))
  second_of p w no_direct up down (slot q to a is) = absurd (link_ingress p q w f a)
  second_of p w no_direct up down (queue q to a is) = absurd (link_egress p q w f a)
  second_of p w no_direct up down (second q e to own a is by) = record {
    to = to;
    own = own;
    spot = is;
    way = sym (link_way p q w (way_of i) f e a);
    by = subst (λ (e : ℕ). SecondBy t i w to own p e) (sym (link_epoch p q w (way_of i) f e a))
        (subst (λ (w : Way). SecondBy t i w to own p e) (sym (link_way p q w (way_of i) f e a))
        (subst (λ (q : PortName). SecondBy t i (way_of i) to own q e) (sym (link_port p q w (way_of i) f e a)) by));
  }

-- an item on its second hop bears an identity
pub bears : (g : Ghost) (v : View) (st : Stands g v) (k : ℕ) (i : Item) → g.chain.items k ≡ Some i → (to : Remote) (own : ℕ) → g.chain.spot k ≡ OnSecondHop to own → (u : LocalId)
    × (i.goal ≡ ToRelay u)
bears g v st k i is to own spot = relay_goal i.goal (((reaches_inv (item_tables v.tables) (calm g.chain) st.reaches).each k i is).over (ap is_past_relay spot))

-- and was routed for its own remote
pub for_own : (g : Ghost) (v : View) (st : Stands g v) (k : ℕ) (i : Item) → g.chain.items k ≡ Some i → (to : Remote) (own : ℕ) → g.chain.spot k ≡ OnSecondHop to own → to ≡ i.key.remote
for_own g v st k i is to own spot = subst (λ (x : Spot). Route g.chain.path i x (way_of i)) spot ((reaches_inv (item_tables v.tables) (calm g.chain) st.reaches).each k i is).route

module _ (g : Ghost) (v : View) (st : Stands g v) (e : Entity) (number : ℕ) (bytes : List ℕ) (tx : Tx) (rx : Rx) (x : ℕ) (sdu : List ℕ) where
  abbrev a : ItemChain
  a = g.chain

  abbrev T : ItemTables
  T = item_tables v.tables

  -- what makes an arrival: the end takes the item for the remote, which is its own
  its_key : (i : Item) (q : Remote) → q ≡ i.key.remote → key_for q i ≡ i.key
  its_key i q same = ap (λ (r : Remote). key_of r i.key.drb i.key.way) same

  ---- at the gNB, from the Uu port of a channel
  module _ (c : Chan) (is_open : v.entity High (Uu c) ≡ Some e) (h : HearsDataMade (its g v st Ul (Uu c) e is_open number bytes tx rx) Ul number bytes (Complete x sdu) tx rx) where
    abbrev k : ℕ
    k = n g v st Ul (Uu c) e is_open number bytes tx rx x sdu h

    pub gnb_item : (i : Item) × (a.items k ≡ Some i) × IsSecondHop v.tables i (a.spot k) Ul (Uu c) e.epoch
    gnb_item =
        let was = st.layout.stands (Link (Uu c) Ul e.epoch) x k (stood g v st Ul (Uu c) e is_open number bytes tx rx x sdu h) in
        (was.0, was.1, second_of v.tables was.0 (a.spot k) e.epoch (Uu c) Ul (λ r d. uu_direct c r d) (λ r d w s. pc5_uu r d c (sym s)) (λ u w s. ul_dl w) was.2)

    abbrev i : Item
    i = gnb_item.0

    abbrev f : IsSecondHop v.tables i (a.spot k) Ul (Uu c) e.epoch
    f = gnb_item.2

    abbrev id : (u : LocalId) × (i.goal ≡ ToRelay u)
    id = bears g v st k i gnb_item.1 f.to f.own f.spot

    pub gnb_header : (fault : SrapFault) → IsSrapFault sdu fault → ⊥
    gnb_header fault bad = header_fine g v st k i id.0 gnb_item.1 id.1 fault (subst (λ (b : List ℕ). IsSrapFault b fault)
        (spells g v st Ul (Uu c) e is_open number bytes tx rx x sdu h) bad)

    module _ (head : Srap) (read : IsSrap head sdu) where
      abbrev mine : (head.ue ≡ id.0.0) × (head.bearer + 1 ≡ i.key.drb.0) × (head.body ≡ pdcp_bytes (st.spelt k i gnb_item.1).row.pdcp (st.spelt k i gnb_item.1).pdu)
      mine = srap_is g v st k i id.0 gnb_item.1 id.1 head (subst (IsSrap head) (spells g v st Ul (Uu c) e is_open number bytes tx rx x sdu h) read)

      pub gnb_takes : (q : Remote) (row : MapRow) → IsAttached (v.attached AtGnb) q head.ue → MapsBearer v.tables.maps q head.bearer row → row.uu ≡ c
          → Taken g v st k AtGnb (key_in Ul row) head.body
      gnb_takes q row attached maps same_uu =
          let by : SecondBy v.tables i Ul f.to f.own (Uu c) e.epoch = f.by in
          let has = row_has v g st row q head.bearer i.key.drb maps mine.1 in
          let at : goal_at (a.path q) kinds.Gnb ≡ i.goal =
          sym (st.paths.ids kinds.Gnb q) ∙ ap goal_of (st.paths.agree AtGnb q (record { 0 = head.ue }) attached) ∙ ap ToRelay (id_is (record { 0 = head.ue }) id.0 mine.0)
          ∙ sym id.1 in
          let routes : EndRoutes T a i Ul f.to q = (
            at,
            record {
              chan = c;
              first = ap (option_map uu_of) by.1 ∙ ap (λ (u : Chan). Some u) (sym (uu_chan c by.0.uu by.2));
              second = ap (option_map uu_of) has
                  ∙ ap (λ (u : Chan). Some u) same_uu;
            },
          ) in
          let routes_now = subst (λ (w : Way). EndRoutes T a i w f.to q) (sym f.way) routes in
          let open_now = subst (λ (w : Way). IsOpenAtEnd a w f.to f.own) (sym f.way) tt in
          let home : q ≡ i.key.remote = arrives_for_owner T (calm a) st.reaches k i f.to f.own q gnb_item.1 f.spot routes_now in
          let live_over : LiveOverRelay a i id.0 (OnSecondHop f.to f.own) (way_of i) =
          subst (LiveOverRelay a i id.0 (OnSecondHop f.to f.own)) (sym f.way) (ap (λ (r : Remote). goal_at (a.path r) kinds.Gnb) (sym home) ∙ at ∙ id.1) in
          record {
            item = i;
            its = gnb_item.1;
            remote = sym home ∙ sym maps.of_remote;
            drb = sym (drb_is row.drb i.key.drb (maps.of_bearer ∙ mine.1));
            way = f.way;
            home = refl;
            live = record {
              is = gnb_item.1;
              live = subst (λ (o : Goal). LiveTowards a i (a.spot k) o) (sym id.1)
                  (subst (λ (s : Spot). LiveOverRelay a i id.0 s (way_of i)) (sym f.spot) live_over);
            };
            spelled = mine.2;
            step = λ new arrives. complete_end k i f.to f.own q gnb_item.1 f.spot open_now routes_now
                (subst (λ (key : Key). Arrives a k key i.content new) (sym (its_key i q home)) arrives);
          }

      -- where the gNB attaches its identity to a remote whose bearer has this channel, that bearer takes it
      gnb_routed : (fault : RouteFault) → GnbRoute v.tables.maps (v.attached AtGnb) c head.ue head.bearer (Err fault) → (r : Remote) (row : MapRow)
          → map_row v.tables r i.key.drb ≡ Some row → row.uu ≡ c → goal_at (a.path r) kinds.Gnb ≡ ToRelay id.0 → ⊥
      gnb_routed fault missing r row its_row same goal =
          no_way_over g v st (key_in Ul) kinds.Gnb c id.0 head.bearer i.key.drb r row mine.1 its_row same fault (λ q at. at)
          (subst (λ (u : ℕ). GnbRoute v.tables.maps (v.attached AtGnb) c u head.bearer (Err fault)) mine.0 missing) goal

      pub gnb_keeps : (fault : RouteFault) → GnbRoute v.tables.maps (v.attached AtGnb) c head.ue head.bearer (Err fault)
          → ((x : Item) → a.items k ≡ Some x → goal_at (a.path x.key.remote) kinds.Gnb ≡ x.goal) → ⊥
      gnb_keeps fault missing attached =
          let by : SecondBy v.tables i Ul f.to f.own (Uu c) e.epoch = f.by in
          gnb_routed fault missing f.to by.0 by.1 (sym (uu_chan c by.0.uu by.2))
          (ap (λ (r : Remote). goal_at (a.path r) kinds.Gnb) (for_own g v st k i gnb_item.1 f.to f.own f.spot) ∙ attached i gnb_item.1 ∙ id.1)

      pub gnb_loses : (fault : RouteFault) → GnbRoute v.tables.maps (v.attached AtGnb) c head.ue head.bearer (Err fault)
          → Refines v.tables g (record v { entity = put_at is_side is_port v.entity High (Uu c) (Some (record e { tx = tx; rx = rx })) })
      gnb_loses fault missing =
          let by : SecondBy v.tables i Ul f.to f.own (Uu c) e.epoch = f.by in
          left g v st Ul (Uu c) e is_open number bytes tx rx x sdu h Lost tt refl a.sender a.heard v.outgoing v.incoming
          (discard_end k i f.to f.own gnb_item.1 f.spot (subst (λ (w : Way). IsOpenAtEnd a w f.to f.own) (sym f.way) tt)
          (λ r routes. let z : EndRoutes T a i Ul f.to r = subst (λ (w : Way). EndRoutes T a i w f.to r) f.way routes in
          let row = row_with v r i.key.drb z.1.chan z.1.second in
          let same : z.1.chan ≡ by.0.uu = same_Some z.1.chan by.0.uu (sym z.1.first ∙ ap (option_map uu_of) by.1) in
          gnb_routed fault missing r row.0 row.1 (row.2 ∙ same ∙ sym (uu_chan c by.0.uu by.2)) (z.0 ∙ id.1))
          refl)
          st.ends

  ---- at a remote, from its PC5 port of a channel
  module _ (r : Remote) (c : Chan) (is_open : v.entity Low (Pc5 r c) ≡ Some e) (h : HearsDataMade (its g v st Dl (Pc5 r c) e is_open number bytes tx rx) Dl number bytes
      (Complete x sdu) tx rx) where
    abbrev m : ℕ
    m = n g v st Dl (Pc5 r c) e is_open number bytes tx rx x sdu h

    pub remote_item : (i : Item) × (a.items m ≡ Some i) × IsSecondHop v.tables i (a.spot m) Dl (Pc5 r c) e.epoch
    remote_item =
        let was = st.layout.stands (Link (Pc5 r c) Dl e.epoch) x m (stood g v st Dl (Pc5 r c) e is_open number bytes tx rx x sdu h) in
        (was.0, was.1, second_of v.tables was.0 (a.spot m) e.epoch (Pc5 r c) Dl (λ q d. pc5_direct r q c d) (λ q d w s. ul_dl (sym w)) (λ u w s. pc5_uu r c u s) was.2)

    abbrev j : Item
    j = remote_item.0

    abbrev s : IsSecondHop v.tables j (a.spot m) Dl (Pc5 r c) e.epoch
    s = remote_item.2

    abbrev its_id : (u : LocalId) × (j.goal ≡ ToRelay u)
    its_id = bears g v st m j remote_item.1 s.to s.own s.spot

    its_by : SecondBy v.tables j Dl s.to s.own (Pc5 r c) e.epoch
    its_by = s.by

    to_remote : r ≡ s.to
    to_remote = pc5_remote r s.to c its_by.0.pc5 its_by.2

    opens_end : IsOpenAtEnd a Dl s.to s.own
    opens_end =
        let o = st.paths.opens Low (Pc5 r c) e is_open in (
          ap (λ (q : Remote). epoch_at (a.path q) kinds.Remote) (sym to_remote) ∙ sym o.0
              ∙ its_by.3,
          ap (λ (q : Remote). is_over_relay (goal_at (a.path q) kinds.Remote)) (sym to_remote) ∙ o.1,
        )

    pub remote_header : (fault : SrapFault) → IsSrapFault sdu fault → ⊥
    remote_header fault bad = header_fine g v st m j its_id.0 remote_item.1 its_id.1 fault
        (subst (λ (b : List ℕ). IsSrapFault b fault) (spells g v st Dl (Pc5 r c) e is_open number bytes tx rx x sdu h) bad)

    module _ (head : Srap) (read : IsSrap head sdu) (own : LocalId) (has_own : id_in (v.attached (AtRemote r)) r ≡ Some own) where
      abbrev told : (head.ue ≡ its_id.0.0) × (head.bearer + 1 ≡ j.key.drb.0) × (head.body ≡ pdcp_bytes (st.spelt m j remote_item.1).row.pdcp (st.spelt m j remote_item.1).pdu)
      told = srap_is g v st m j its_id.0 remote_item.1 its_id.1 head (subst (IsSrap head) (spells g v st Dl (Pc5 r c) e is_open number bytes tx rx x sdu h) read)

      pub remote_takes : (row : MapRow) → head.ue ≡ own.0 → MapsBearer v.tables.maps r head.bearer row → Taken g v st m (AtRemote r) (key_in Dl row) head.body
      remote_takes row is_own maps =
          let has = row_has v g st row r head.bearer j.key.drb maps told.1 in
          let at : goal_at (a.path r) kinds.Remote ≡ j.goal = sym (st.paths.ids kinds.Remote r) ∙ ap goal_of has_own ∙ ap ToRelay (id_is own its_id.0 (sym is_own ∙ told.0))
          ∙ sym its_id.1 in
          let routes : EndRoutes T a j Dl s.to r = (to_remote, at, record { chan = row.uu; is = ap (option_map uu_of) has }) in
          let routes_now = subst (λ (w : Way). EndRoutes T a j w s.to r) (sym s.way) routes in
          let open_now = subst (λ (w : Way). IsOpenAtEnd a w s.to s.own) (sym s.way) opens_end in
          let home : r ≡ j.key.remote = arrives_for_owner T (calm a) st.reaches m j s.to s.own r remote_item.1 s.spot routes_now in
          let live_over : LiveOverRelay a j its_id.0 (OnSecondHop s.to s.own) (way_of j) =
          subst (LiveOverRelay a j its_id.0 (OnSecondHop s.to s.own)) (sym s.way)
          (opens_end.0, ap (λ (q : Remote). goal_at (a.path q) kinds.Remote) (sym home) ∙ at ∙ its_id.1) in
          record {
            item = j;
            its = remote_item.1;
            remote = sym home ∙ sym maps.of_remote;
            drb = sym (drb_is row.drb j.key.drb (maps.of_bearer ∙ told.1));
            way = s.way;
            home = ap (λ (q : Remote). let name : NodeName = AtRemote q in name) (sym maps.of_remote);
            live = record {
              is = remote_item.1;
              live = subst (λ (o : Goal). LiveTowards a j (a.spot m) o) (sym its_id.1)
                  (subst (λ (z : Spot). LiveOverRelay a j its_id.0 z (way_of j)) (sym s.spot) live_over);
            };
            spelled = told.2;
            step = λ new arrives. complete_end m j s.to s.own r remote_item.1 s.spot open_now routes_now
                (subst (λ (key : Key). Arrives a m key j.content new) (sym (its_key j r home)) arrives);
          }

      -- where its own identity is that of the item it takes it
      remote_routed : (fault : RouteFault) → RemoteRoute v.tables.maps own.0 r c head.ue head.bearer (Err fault) → goal_at (a.path r) kinds.Remote ≡ ToRelay its_id.0 → ⊥
      remote_routed fault missing goal =
          no_way_in g v st r own c its_id.0 head.bearer j.key.drb its_by.0 has_own told.1 (ap (λ (q : Remote). map_row v.tables q j.key.drb) to_remote ∙ its_by.1)
          (sym (pc5_chan r s.to c its_by.0.pc5 its_by.2)) fault
          (subst (λ (u : ℕ). RemoteRoute v.tables.maps own.0 r c u head.bearer (Err fault)) told.0 missing) goal

      pub remote_keeps : (fault : RouteFault) → RemoteRoute v.tables.maps own.0 r c head.ue head.bearer (Err fault)
          → ((x : Item) → a.items m ≡ Some x → goal_at (a.path x.key.remote) kinds.Remote ≡ x.goal) → ⊥
      remote_keeps fault missing attached =
          remote_routed fault missing
          (ap (λ (q : Remote). goal_at (a.path q) kinds.Remote) (to_remote ∙ for_own g v st m j remote_item.1 s.to s.own s.spot) ∙ attached j remote_item.1 ∙ its_id.1)

      pub remote_loses : (fault : RouteFault) → RemoteRoute v.tables.maps own.0 r c head.ue head.bearer (Err fault)
          → Refines v.tables g (record v { entity = put_at is_side is_port v.entity Low (Pc5 r c) (Some (record e { tx = tx; rx = rx })) })
      remote_loses fault missing =
          left g v st Dl (Pc5 r c) e is_open number bytes tx rx x sdu h Lost tt refl a.sender a.heard v.outgoing v.incoming
          (discard_end m j s.to s.own remote_item.1 s.spot (subst (λ (w : Way). IsOpenAtEnd a w s.to s.own) (sym s.way) opens_end)
          (λ q routes. let z : EndRoutes T a j Dl s.to q = subst (λ (w : Way). EndRoutes T a j w s.to q) s.way routes in
          remote_routed fault missing (ap (λ (q : Remote). goal_at (a.path q) kinds.Remote) (to_remote ∙ sym z.0) ∙ z.1 ∙ its_id.1))
          refl)
          st.ends
