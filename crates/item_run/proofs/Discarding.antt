-- An SDU that completes and leads nowhere: no remote is attached with its UE ID, and its item's remote isn't on the item's path there.
use Rattle.std.proofs.Common.{◌≡◌, inl, inr, ℕ, ◌+◌, Bool, true, false, List, Some, Result, Ok, Err, refl, sym, ◌∙◌, ap, subst}
use Rattle.std.proofs.lemmas.Option.{same_Some}
use Rattle.link_base.specs.declared.discard.Discard.{Discard}
use Rattle.link_base.specs.declared.discard.Discard.TheVariants as discards
use Rattle.link_base.specs.declared.names.Chan.{Chan}
use Rattle.link_base.specs.declared.names.Drb.{Drb}
use Rattle.link_base.specs.declared.names.LocalId.{LocalId}
use Rattle.link_base.specs.declared.names.Node.{Node as NodeKind}
use Rattle.link_base.specs.declared.names.Node.TheVariants as kinds
use Rattle.link_base.specs.declared.names.PortName.{PortName}
use Rattle.link_base.specs.declared.names.PortName.TheVariants.{Direct, Pc5, Uu}
use Rattle.link_base.specs.declared.names.Remote.{Remote}
use Rattle.link_base.specs.declared.names.Side.TheVariants.{Low, High}
use Rattle.link_base.specs.declared.names.Way.{Way}
use Rattle.link_base.specs.declared.names.Way.TheVariants.{Ul, Dl}
use Rattle.bearer_map.specs.declared.ids.Attachment.{Attachment}
use Rattle.bearer_map.specs.declared.routes.RouteFault.{RouteFault}
use Rattle.bearer_map.specs.declared.routes.RouteFault.TheVariants.{UnknownUe, ForeignUe, UnknownBearer}
use Rattle.bearer_map.specs.declared.rows.MapRow.{MapRow}
use Rattle.bearer_map.specs.Ids.{IsAttached}
use Rattle.bearer_map.specs.declared.routes.Route.{Route}
use Rattle.bearer_map.specs.Routes.{MapsBearer, FromUu, UpRoute, key_in}
use Rattle.rlc_model.specs.declared.hop.Pdu.{Pdu}
use Rattle.rlc_model.specs.declared.receiver.Heard.TheVariants as receiving
use Rattle.rlc_model.specs.Hop.{on_air}
use Rattle.rlc_model.specs.Rx.{Rx}
use Rattle.rlc_model.specs.Sides.{hearer_of}
use Rattle.rlc_model.specs.Tx.{Tx}
use Rattle.rlc_law.specs.PortLaws.{HearsDataMade}
use Rattle.srap_header.specs.Srap.{Srap, IsSrap}
use Rattle.node_model.specs.Names.{NodeName, AtRelay, AtGnb, node_of, owner}
use Rattle.node_model.specs.Routing.{Target, Leads, route_discard}
use Rattle.node_model.specs.State.{Node, id_in}
use Rattle.node_model.specs.Tables.{map_row}
use Rattle.chain_model.specs.State.{Chain, node_at}
use Rattle.item_law.specs.State.{ToRelay, Item, Spot, Tables as ItemTables, way_of, goal_at, epoch_at, is_off_pc5}
use Rattle.item_law.proofs.base.Nodes.{not_ahead}
use Rattle.item_law.proofs.Inductive.{reaches_inv}
use Rattle.item_law.proofs.kept.Invariant.{Inv}
use Rattle.item_law.proofs.moving.AtEnd.{at_hop}
use Rattle.item_law.proofs.moving.Moves.{owned, own_goal}
use Rattle.item_place.specs.Places.{FirstBy, SecondBy}
use Rattle.item_chain.specs.View.{View, view}
use Rattle.item_chain.specs.Stands.{goal_of, item_tables, calm, Ghost, Stands}
use Rattle.item_chain.proofs.Completed.{n, spells}
use Rattle.item_chain.proofs.Discards.{up_header, up_routed, down_header}
use Rattle.item_chain.proofs.Headers.{srap_is, pc5_remote, uu_chan, id_is}
use Rattle.item_chain.proofs.Heard.{IsHandedOver, its_open}
use Rattle.item_chain.proofs.Hearing.{its}
use Rattle.item_chain.proofs.Seconds.{bears, for_own, gnb_item, gnb_header, remote_item, remote_header, remote_keeps}
use Rattle.item_chain.proofs.Slots.{up_item, down_item}
use Rattle.item_chain.proofs.Unrouted.{known, maps_bearer}

-- the relay's way down
down_route : MapRow → Route
down_route row = record { egress = Pc5 row.remote row.pc5; key = key_in Dl row }

pub no_err : {t : Target} {d : Discard} → (let r : Result Target Discard = Err d in r) ≡ Ok t → ⊥
no_err e = cc

-- an SDU has a header of which the node attaches the UE ID to no remote; and it is that of an item whose remote isn't on the item's path at some node
pub record IsUnknown (g : Ghost) (attached : List Attachment) (sdu : List ℕ) : Type 0 where
  pub header : Srap
  pub reads : IsSrap header sdu
  pub unattached : (r : Remote) → IsAttached attached r header.ue → ⊥
  pub number : ℕ
  pub item : Item
  pub is : g.chain.items number ≡ Some item
  pub kind : NodeKind
  pub off_path : goal_at (g.chain.path item.key.remote) kind ≡ item.goal → ⊥

module _ (g : Ghost) (v : View) (st : Stands g v) where
  inv : Inv (item_tables v.tables) g.chain (λ remote. false) (λ remote. false)
  inv = reaches_inv (item_tables v.tables) (calm g.chain) st.reaches

  -- of what comes over a Uu port under an item's identity a route is missing only where the node attaches it to no remote
  over_missing : {A : Type 0} (gives : MapRow → A) (kind : NodeKind) (name : NodeName) → ((q : Remote) → node_of kind q ≡ name) → (chan : Chan) (u : LocalId) (ue bearer : ℕ)
      (d : Drb) (own : Remote) (row : MapRow) → ue ≡ u.0 → bearer + 1 ≡ d.0 → map_row v.tables own d ≡ Some row → row.uu ≡ chan
      → ((r : Remote) → goal_at (g.chain.path r) kind ≡ ToRelay u → r ≡ own) → (fault : RouteFault)
      → FromUu gives v.tables.maps (v.attached name) chan ue bearer (Err fault)
      → (fault ≡ UnknownUe) × ((r : Remote) → IsAttached (v.attached name) r ue → ⊥) × (goal_at (g.chain.path own) kind ≡ ToRelay u → ⊥)
  over_missing gives kind name same chan u ue bearer d own row is_ue drb its_row its_chan owner UnknownUe miss = (
    refl,
    miss,
    λ goal. miss own (subst (λ (x : ℕ). IsAttached (v.attached name) own x) (sym is_ue)
        (subst (λ (x : NodeName). IsAttached (v.attached x) own u.0) (same own) (known g v st kind own u goal))),
  )
  over_missing gives kind name same chan u ue bearer d own row is_ue drb its_row its_chan owner ForeignUe miss = absurd miss
  over_missing gives kind name same chan u ue bearer d own row is_ue drb its_row its_chan owner UnknownBearer miss =
      let id : LocalId = record { 0 = ue } in
      let has : goal_at (g.chain.path miss.0) kind ≡ ToRelay u = sym (st.paths.ids kind miss.0)
      ∙ ap goal_of (ap (λ (x : NodeName). id_in (v.attached x) miss.0) (same miss.0) ∙ st.paths.agree name miss.0 id miss.1) ∙ ap ToRelay (id_is id u is_ue) in
      absurd (miss.2 row (subst (λ (q : Remote). MapsBearer v.tables.maps q bearer row) (sym (owner miss.0 has)) (maps_bearer v.tables own d row bearer its_row drb)) its_chan)

module _ (g : Ghost) (c : Chain) (st : Stands g (view c)) (ticket : ℕ) (epoch number : ℕ) (kind : Bool) (bytes : List ℕ) where
  abbrev pdu_of : PortName → Way → Pdu
  pdu_of port way = record { port = port; way = way; epoch = epoch; status = kind; number = number; bytes = bytes }

  abbrev at : PortName → Way → Node
  at port way = node_at c (owner (hearer_of way) port)

  abbrev T : ItemTables
  T = item_tables c.tables

  abbrev fits : Inv T g.chain (λ remote. false) (λ remote. false)
  fits = inv g (view c) st

  -- why an SDU is discarded
  abbrev IsWhy : Discard → PortName → Way → List ℕ → Type 0
  IsWhy discard port way sdu = (discard ≡ discards.UnknownUe) × IsUnknown g (at port way).attached sdu

  module _ (port : PortName) (way : Way) (on : on_air c.air ticket ≡ Some (pdu_of port way)) (may : IsHandedOver (pdu_of port way) (at port way)) where
    abbrev opened : (view c).entity (hearer_of way) port ≡ Some may.entity
    opened = its_open g c st ticket (pdu_of port way) on may

    abbrev Completes : ℕ → List ℕ → Tx → Rx → Type 0
    Completes k whole tx rx = HearsDataMade (its g (view c) st way port may.entity opened number bytes tx rx) way number bytes (receiving.Complete k whole) tx rx

  -- a PC5 port is in the epoch of what comes over it
  up_routes : (r : Remote) (ch : Chan) (on : on_air c.air ticket ≡ Some (pdu_of (Pc5 r ch) Ul)) (may : IsHandedOver (pdu_of (Pc5 r ch) Ul) (at (Pc5 r ch) Ul))
      (k : ℕ) (whole : List ℕ) (tx : Tx) (rx : Rx) → Completes (Pc5 r ch) Ul on may k whole tx rx
      → (head : Srap) → IsSrap head whole → (fault : RouteFault) → UpRoute c.tables.maps (node_at c AtRelay).attached r ch head.ue head.bearer (Err fault) → ⊥
  up_routes r ch on may k whole tx rx h head read fault missing =
      let e = opened (Pc5 r ch) Ul on may in
      let up = up_item g (view c) st may.entity number bytes tx rx k whole r ch e h in
      let i = up.0 in
      let by : FirstBy c.tables i (ToRelay up.2.u) Ul (Pc5 r ch) may.entity.epoch = up.2.by in
      let m = n g (view c) st Ul (Pc5 r ch) may.entity e number bytes tx rx k whole h in
      let own : r ≡ i.key.remote = pc5_remote r i.key.remote ch by.0.pc5 by.2 in
      let now : epoch_at (g.chain.path i.key.remote) kinds.Relay ≡ i.epoch =
      ap (λ (q : Remote). epoch_at (g.chain.path q) kinds.Relay) (sym own) ∙ sym (st.paths.opens High (Pc5 r ch) may.entity e).0 ∙ by.3 in
      let past = not_ahead (g.chain.path i.key.remote) kinds.Relay i.epoch (fits.own m i up.1 refl).limit now in
      let goal = own_goal fits m i up.1 refl kinds.Relay past.1 past.0 in
      up_routed g (view c) st may.entity number bytes tx rx k whole r ch e h head read fault missing
      (λ x is. subst (λ (y : Item). goal_at (g.chain.path y.key.remote) kinds.Relay ≡ y.goal) (same_Some i x (sym up.1 ∙ is)) goal)

  remote_routes : (r : Remote) (ch : Chan) (on : on_air c.air ticket ≡ Some (pdu_of (Pc5 r ch) Dl)) (may : IsHandedOver (pdu_of (Pc5 r ch) Dl) (at (Pc5 r ch) Dl))
      (k : ℕ) (whole : List ℕ) (tx : Tx) (rx : Rx) → (h : Completes (Pc5 r ch) Dl on may k whole tx rx)
      → (x : Item) → g.chain.items (n g (view c) st Dl (Pc5 r ch) may.entity (opened (Pc5 r ch) Dl on may) number bytes tx rx k whole h) ≡ Some x
      → goal_at (g.chain.path x.key.remote) kinds.Remote ≡ x.goal
  remote_routes r ch on may k whole tx rx h x is =
      let e = opened (Pc5 r ch) Dl on may in
      let down = remote_item g (view c) st may.entity number bytes tx rx k whole r ch e h in
      let j = down.0 in
      let s = down.2 in
      let by : SecondBy c.tables j Dl s.to s.own (Pc5 r ch) may.entity.epoch = s.by in
      let m = n g (view c) st Dl (Pc5 r ch) may.entity e number bytes tx rx k whole h in
      let own : r ≡ s.to = pc5_remote r s.to ch by.0.pc5 by.2 in
      let now : epoch_at (g.chain.path s.to) kinds.Remote ≡ s.own =
      ap (λ (q : Remote). epoch_at (g.chain.path q) kinds.Remote) (sym own) ∙ sym (st.paths.opens Low (Pc5 r ch) may.entity e).0 ∙ by.3 in
      let past = at_hop fits m j s.to s.own down.1 s.spot refl kinds.Remote s.way now in
      subst (λ (y : Item). goal_at (g.chain.path y.key.remote) kinds.Remote ≡ y.goal) (same_Some j x (sym down.1 ∙ is))
      (own_goal fits m j down.1 refl kinds.Remote past.1 past.0)

  -- an SDU is discarded only so
  pub why_discarded : (discard : Discard) (port : PortName) (way : Way) (on : on_air c.air ticket ≡ Some (pdu_of port way)) (may : IsHandedOver (pdu_of port way) (at port way))
      (k : ℕ) (whole : List ℕ) (tx : Tx) (rx : Rx) → Completes port way on may k whole tx rx
      → Leads c.tables (at port way) (hearer_of way) port whole (Err discard) → IsWhy discard port way whole
  why_discarded discard (Direct r d) way on may k whole tx rx h leads = absurd (no_err leads)
  why_discarded discard (Pc5 r ch) Ul on may k whole tx rx h (inl under) = absurd (up_routes r ch on may k whole tx rx h under.0 under.1 under.2.0 under.2.1)
  why_discarded discard (Pc5 r ch) Ul on may k whole tx rx h (inr bad) = absurd
      (up_header g (view c) st may.entity number bytes tx rx k whole r ch (opened (Pc5 r ch) Ul on may) h bad.0 bad.1)
  why_discarded discard (Pc5 r ch) Dl on may k whole tx rx h (inl under) = absurd
      (remote_keeps g (view c) st may.entity number bytes tx rx k whole r ch (opened (Pc5 r ch) Dl on may) h under.0 under.1 under.2.0 under.2.1 under.2.2.0 under.2.2.1
      (remote_routes r ch on may k whole tx rx h))
  why_discarded discard (Pc5 r ch) Dl on may k whole tx rx h (inr bad) = absurd
      (remote_header g (view c) st may.entity number bytes tx rx k whole r ch (opened (Pc5 r ch) Dl on may) h bad.0 bad.1)
  why_discarded discard (Uu ch) Ul on may k whole tx rx h (inl under) =
      let e = opened (Uu ch) Ul on may in
      let m = n g (view c) st Ul (Uu ch) may.entity e number bytes tx rx k whole h in
      let up = gnb_item g (view c) st may.entity number bytes tx rx k whole ch e h in
      let i = up.0 in
      let s = up.2 in
      let by : SecondBy c.tables i Ul s.to s.own (Uu ch) may.entity.epoch = s.by in
      let id = bears g (view c) st m i up.1 s.to s.own s.spot in
      let home : s.to ≡ i.key.remote = for_own g (view c) st m i up.1 s.to s.own s.spot in
      let mine = srap_is g (view c) st m i id.0 up.1 id.1 under.0
      (subst (IsSrap under.0) (spells g (view c) st Ul (Uu ch) may.entity e number bytes tx rx k whole h) under.1) in
      let off : is_off_pc5 (g.chain.spot m) (way_of i) ≡ true = ap (is_off_pc5 (g.chain.spot m)) s.way ∙ ap (λ (x : Spot). is_off_pc5 x Ul) s.spot in
      let why = over_missing g (view c) st (key_in Ul) kinds.Gnb AtGnb (λ q. refl) ch id.0 under.0.ue under.0.bearer i.key.drb s.to by.0 mine.0 mine.1 by.1
      (sym (uu_chan ch by.0.uu by.2)) (λ r has. owned fits m i up.1 r id.0 kinds.Gnb off id.1 has ∙ sym home) under.2.0 under.2.1 in (
        under.2.2 ∙ ap route_discard why.0,
        record {
          header = under.0;
          reads = under.1;
          unattached = why.1;
          number = m;
          item = i;
          is = up.1;
          kind = kinds.Gnb;
          off_path = λ goal. why.2 (ap (λ (q : Remote). goal_at (g.chain.path q) kinds.Gnb) home ∙ goal ∙ id.1);
        },
      )
  why_discarded discard (Uu ch) Ul on may k whole tx rx h (inr bad) = absurd
      (gnb_header g (view c) st may.entity number bytes tx rx k whole ch (opened (Uu ch) Ul on may) h bad.0 bad.1)
  why_discarded discard (Uu ch) Dl on may k whole tx rx h (inl under) =
      let e = opened (Uu ch) Dl on may in
      let m = n g (view c) st Dl (Uu ch) may.entity e number bytes tx rx k whole h in
      let down = down_item g (view c) st may.entity number bytes tx rx k whole ch e h in
      let i = down.0 in
      let f = down.2 in
      let by : FirstBy c.tables i (ToRelay f.u) Dl (Uu ch) may.entity.epoch = f.by in
      let mine = srap_is g (view c) st m i f.u down.1 f.goal under.0
      (subst (IsSrap under.0) (spells g (view c) st Dl (Uu ch) may.entity e number bytes tx rx k whole h) under.1) in
      let off : is_off_pc5 (g.chain.spot m) (way_of i) ≡ true = ap (is_off_pc5 (g.chain.spot m)) f.way ∙ ap (λ (x : Spot). is_off_pc5 x Dl) f.spot in
      let why = over_missing g (view c) st down_route kinds.Relay AtRelay (λ q. refl) ch f.u under.0.ue under.0.bearer i.key.drb i.key.remote by.0 mine.0 mine.1 by.1
      (sym (uu_chan ch by.0.uu by.2)) (λ r has. owned fits m i down.1 r f.u kinds.Relay off f.goal has) under.2.0 under.2.1 in (
        under.2.2 ∙ ap route_discard why.0,
        record {
          header = under.0;
          reads = under.1;
          unattached = why.1;
          number = m;
          item = i;
          is = down.1;
          kind = kinds.Relay;
          off_path = λ goal. why.2 (goal ∙ f.goal);
        },
      )
  why_discarded discard (Uu ch) Dl on may k whole tx rx h (inr bad) = absurd
      (down_header g (view c) st may.entity number bytes tx rx k whole ch (opened (Uu ch) Dl on may) h bad.0 bad.1)
