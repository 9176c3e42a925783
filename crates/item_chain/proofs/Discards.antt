-- What the relay doesn't route is lost.
use Rattle.std.proofs.Common.{◌≡◌, ℕ, List, Option, Some, None, Err, option_map, refl, sym, ◌∙◌, ap, subst}
use Rattle.std.proofs.lemmas.Option.{none-some, same_Some}
use Rattle.link_base.specs.declared.names.Chan.{Chan}
use Rattle.link_base.specs.declared.names.Drb.{Drb}
use Rattle.link_base.specs.declared.names.Node.TheVariants as kinds
use Rattle.link_base.specs.declared.names.PortName.TheVariants.{Pc5, Uu}
use Rattle.link_base.specs.declared.names.Remote.{Remote}
use Rattle.link_base.specs.declared.names.Side.TheVariants.{Low, High}
use Rattle.link_base.specs.declared.names.Way.{Way}
use Rattle.link_base.specs.declared.names.Way.TheVariants.{Ul, Dl}
use Rattle.bearer_map.specs.declared.routes.Route.{Route}
use Rattle.bearer_map.specs.declared.routes.RouteFault.{RouteFault}
use Rattle.bearer_map.specs.declared.rows.MapRow.{MapRow}
use Rattle.bearer_map.specs.Routes.{UpRoute, DownRoute, key_in}
use Rattle.rlc_model.specs.declared.receiver.Heard.TheVariants.{Complete}
use Rattle.rlc_model.specs.Rx.{Rx}
use Rattle.rlc_model.specs.Sides.{Entity}
use Rattle.rlc_model.specs.Tx.{Tx}
use Rattle.rlc_law.specs.PortLaws.{HearsDataMade}
use Rattle.srap_header.specs.declared.pdu.SrapFault.{SrapFault}
use Rattle.srap_header.specs.Srap.{Srap, IsSrap, IsSrapFault}
use Rattle.node_model.specs.Names.{AtRelay, is_port}
use Rattle.node_model.specs.Tables.{map_row}
use Rattle.item_law.specs.State.{ToRelay, Item, Lost, is_over_relay, epoch_at, goal_at}
use Rattle.item_law.specs.Steps.{discard_relay, IsOpenAtRelay, RelayRoutes}
use Rattle.item_place.specs.Places.{FirstBy}
use Rattle.item_chain.specs.View.{View, is_side, put_at}
use Rattle.item_chain.specs.Stands.{uu_of, item_tables, Ghost, Stands, Refines}
use Rattle.item_chain.proofs.Completed.{n, spells, left}
use Rattle.item_chain.proofs.Hearing.{its}
use Rattle.item_chain.proofs.Headers.{IsFirstHop, srap_is, header_fine, pc5_remote, pc5_chan, uu_chan}
use Rattle.item_chain.proofs.Slots.{up_item, down_item}
use Rattle.item_chain.proofs.Unrouted.{no_way_up, no_way_over}

-- the relay's way down
down_route : MapRow → Route
down_route row = record { egress = Pc5 row.remote row.pc5; key = key_in Dl row }

-- a row of channels with this Uu channel
pub row_with : (v : View) (q : Remote) (d : Drb) (chan : Chan) → option_map uu_of (map_row v.tables q d) ≡ Some chan → (row : MapRow) × (map_row v.tables q d ≡ Some row)
    × (row.uu ≡ chan)
row_with v q d chan e = go (map_row v.tables q d) refl e
  where
    go : (o : Option MapRow) → map_row v.tables q d ≡ o → option_map uu_of o ≡ Some chan → (row : MapRow) × (map_row v.tables q d ≡ Some row) × (row.uu ≡ chan)
    go None is e = absurd (none-some chan e)
    go (Some row) is e = (row, is, same_Some row.uu chan e)

module _ (g : Ghost) (v : View) (st : Stands g v) (e : Entity) (number : ℕ) (bytes : List ℕ) (tx : Tx) (rx : Rx) (x : ℕ) (sdu : List ℕ) where
  -- up
  module _ (q : Remote) (c : Chan) (is_open : v.entity High (Pc5 q c) ≡ Some e) (h : HearsDataMade (its g v st Ul (Pc5 q c) e is_open number bytes tx rx) Ul number bytes
      (Complete x sdu) tx rx) where
    abbrev k : ℕ
    k = n g v st Ul (Pc5 q c) e is_open number bytes tx rx x sdu h

    up : (i : Item) × (g.chain.items k ≡ Some i) × IsFirstHop v.tables i (g.chain.spot k) Ul (Pc5 q c) e.epoch
    up = up_item g v st e number bytes tx rx x sdu q c is_open h

    -- it has a header
    pub up_header : (fault : SrapFault) → IsSrapFault sdu fault → ⊥
    up_header fault bad = header_fine g v st k up.0 up.2.u up.1 up.2.goal fault (subst (λ (b : List ℕ). IsSrapFault b fault)
        (spells g v st Ul (Pc5 q c) e is_open number bytes tx rx x sdu h) bad)

    -- where the relay attaches its identity to the remote of the port it has a way up
    no_route_up : (head : Srap) → IsSrap head sdu → (fault : RouteFault) → UpRoute v.tables.maps (v.attached AtRelay) q c head.ue head.bearer (Err fault)
        → goal_at (g.chain.path q) kinds.Relay ≡ ToRelay up.2.u → ⊥
    no_route_up head read fault missing goal =
        let i = up.0 in
        let f = up.2 in
        let by : FirstBy v.tables i (ToRelay f.u) Ul (Pc5 q c) e.epoch = f.by in
        let mine = srap_is g v st k i f.u up.1 f.goal head (subst (IsSrap head) (spells g v st Ul (Pc5 q c) e is_open number bytes tx rx x sdu h) read) in
        let own : q ≡ i.key.remote = pc5_remote q i.key.remote c by.0.pc5 by.2 in
        no_way_up g v st q c f.u head.bearer i.key.drb by.0 mine.1 (ap (λ (r : Remote). map_row v.tables r i.key.drb) own ∙ by.1)
        (sym (pc5_chan q i.key.remote c by.0.pc5 by.2)) fault
        (subst (λ (u : ℕ). UpRoute v.tables.maps (v.attached AtRelay) q c u head.bearer (Err fault)) mine.0 missing) goal

    pub up_routed : (head : Srap) → IsSrap head sdu → (fault : RouteFault) → UpRoute v.tables.maps (v.attached AtRelay) q c head.ue head.bearer (Err fault)
        → ((i : Item) → g.chain.items k ≡ Some i → goal_at (g.chain.path i.key.remote) kinds.Relay ≡ i.goal) → ⊥
    up_routed head read fault missing attached =
        let i = up.0 in
        let f = up.2 in
        let by : FirstBy v.tables i (ToRelay f.u) Ul (Pc5 q c) e.epoch = f.by in
        no_route_up head read fault missing
        (ap (λ (r : Remote). goal_at (g.chain.path r) kinds.Relay) (pc5_remote q i.key.remote c by.0.pc5 by.2) ∙ attached i up.1 ∙ f.goal)

    pub discards_up : (head : Srap) → IsSrap head sdu → (fault : RouteFault) → UpRoute v.tables.maps (v.attached AtRelay) q c head.ue head.bearer (Err fault)
        → Refines v.tables g (record v { entity = put_at is_side is_port v.entity High (Pc5 q c) (Some (record e { tx = tx; rx = rx })) })
    discards_up head read fault missing =
        let i = up.0 in
        let f = up.2 in
        let by : FirstBy v.tables i (ToRelay f.u) Ul (Pc5 q c) e.epoch = f.by in
        let own : q ≡ i.key.remote = pc5_remote q i.key.remote c by.0.pc5 by.2 in
        let opened = st.paths.opens High (Pc5 q c) e is_open in
        left g v st Ul (Pc5 q c) e is_open number bytes tx rx x sdu h Lost tt refl g.chain.sender g.chain.heard v.outgoing v.incoming
        (discard_relay k i f.u up.1 f.spot f.goal
        (subst (IsOpenAtRelay g.chain i) (sym f.way) (
          ap (λ (r : Remote). epoch_at (g.chain.path r) kinds.Relay) (sym own) ∙ sym opened.0 ∙ by.3,
          ap (λ (r : Remote). is_over_relay (goal_at (g.chain.path r) kinds.Relay)) (sym own) ∙ opened.1,
        ))
        (λ r routes. let z : RelayRoutes (item_tables v.tables) g.chain i Ul r = subst (λ (w : Way). RelayRoutes (item_tables v.tables) g.chain i w r) f.way routes in
        no_route_up head read fault missing (ap (λ (r : Remote). goal_at (g.chain.path r) kinds.Relay) (own ∙ sym z.0) ∙ z.1 ∙ f.goal))
        refl)
        st.ends

  -- down
  module _ (c : Chan) (is_open : v.entity Low (Uu c) ≡ Some e) (h : HearsDataMade (its g v st Dl (Uu c) e is_open number bytes tx rx) Dl number bytes (Complete x sdu) tx rx) where
    abbrev l : ℕ
    l = n g v st Dl (Uu c) e is_open number bytes tx rx x sdu h

    down : (i : Item) × (g.chain.items l ≡ Some i) × IsFirstHop v.tables i (g.chain.spot l) Dl (Uu c) e.epoch
    down = down_item g v st e number bytes tx rx x sdu c is_open h

    pub down_header : (fault : SrapFault) → IsSrapFault sdu fault → ⊥
    down_header fault bad = header_fine g v st l down.0 down.2.u down.1 down.2.goal fault
        (subst (λ (b : List ℕ). IsSrapFault b fault) (spells g v st Dl (Uu c) e is_open number bytes tx rx x sdu h) bad)

    -- where the relay attaches its identity to a remote whose bearer has this Uu channel it has a way down
    no_route_down : (head : Srap) → IsSrap head sdu → (fault : RouteFault) → DownRoute v.tables.maps (v.attached AtRelay) c head.ue head.bearer (Err fault)
        → (r : Remote) (row : MapRow) → map_row v.tables r down.0.key.drb ≡ Some row → row.uu ≡ c → goal_at (g.chain.path r) kinds.Relay ≡ ToRelay down.2.u → ⊥
    no_route_down head read fault missing r row its_row same goal =
        let i = down.0 in
        let f = down.2 in
        let mine = srap_is g v st l i f.u down.1 f.goal head (subst (IsSrap head) (spells g v st Dl (Uu c) e is_open number bytes tx rx x sdu h) read) in
        no_way_over g v st down_route kinds.Relay c f.u head.bearer i.key.drb r row mine.1 its_row same fault (λ q at. at)
        (subst (λ (u : ℕ). DownRoute v.tables.maps (v.attached AtRelay) c u head.bearer (Err fault)) mine.0 missing) goal

    pub down_routed : (head : Srap) → IsSrap head sdu → (fault : RouteFault) → DownRoute v.tables.maps (v.attached AtRelay) c head.ue head.bearer (Err fault)
        → ((i : Item) → g.chain.items l ≡ Some i → goal_at (g.chain.path i.key.remote) kinds.Relay ≡ i.goal) → ⊥
    down_routed head read fault missing attached =
        let i = down.0 in
        let f = down.2 in
        let by : FirstBy v.tables i (ToRelay f.u) Dl (Uu c) e.epoch = f.by in
        no_route_down head read fault missing i.key.remote by.0 by.1 (sym (uu_chan c by.0.uu by.2)) (attached i down.1 ∙ f.goal)

    pub discards_down : (head : Srap) → IsSrap head sdu → (fault : RouteFault) → DownRoute v.tables.maps (v.attached AtRelay) c head.ue head.bearer (Err fault)
        → Refines v.tables g (record v { entity = put_at is_side is_port v.entity Low (Uu c) (Some (record e { tx = tx; rx = rx })) })
    discards_down head read fault missing =
        let i = down.0 in
        let f = down.2 in
        let by : FirstBy v.tables i (ToRelay f.u) Dl (Uu c) e.epoch = f.by in
        left g v st Dl (Uu c) e is_open number bytes tx rx x sdu h Lost tt refl g.chain.sender g.chain.heard v.outgoing v.incoming
        (discard_relay l i f.u down.1 f.spot f.goal
        (subst (IsOpenAtRelay g.chain i) (sym f.way) tt)
        (λ r routes. let z : RelayRoutes (item_tables v.tables) g.chain i Dl r = subst (λ (w : Way). RelayRoutes (item_tables v.tables) g.chain i w r) f.way routes in
        let row = row_with v r i.key.drb z.1.chan z.1.second in
        let same : z.1.chan ≡ by.0.uu = same_Some z.1.chan by.0.uu (sym z.1.first ∙ ap (option_map uu_of) by.1) in
        no_route_down head read fault missing r row.0 row.1 (row.2 ∙ same ∙ sym (uu_chan c by.0.uu by.2)) (z.0 ∙ f.goal))
        refl)
        st.ends
