-- What completes at the relay goes into its slot by the route of its item.
use Rattle.std.proofs.Common.{◌≡◌, ℕ, List, Some, None, option_map, refl, sym, ◌∙◌, ap, subst, ◌+◌}
use Rattle.std.specs.List.{slice_index}
use Rattle.std.proofs.lemmas.Bool.{false≢true}
use Rattle.link_base.specs.declared.names.Chan.{Chan}
use Rattle.link_base.specs.declared.names.Drb.{Drb}
use Rattle.link_base.specs.declared.names.LocalId.{LocalId}
use Rattle.link_base.specs.declared.names.Node.TheVariants as kinds
use Rattle.link_base.specs.declared.names.PortName.{PortName}
use Rattle.link_base.specs.declared.names.PortName.TheVariants.{Pc5, Uu}
use Rattle.link_base.specs.declared.names.Remote.{Remote}
use Rattle.link_base.specs.declared.names.Side.TheVariants.{Low, High}
use Rattle.link_base.specs.declared.names.Way.{Way}
use Rattle.link_base.specs.declared.names.Way.TheVariants.{Ul, Dl}
use Rattle.bearer_map.specs.declared.rows.MapRow.{MapRow}
use Rattle.bearer_map.specs.Ids.{IsAttached}
use Rattle.bearer_map.specs.Routes.{MapsBearer, key_in}
use Rattle.rlc_model.specs.declared.receiver.Heard.TheVariants.{Complete}
use Rattle.rlc_model.specs.Rx.{Rx}
use Rattle.rlc_model.specs.Sides.{Entity}
use Rattle.rlc_model.specs.Tx.{Tx}
use Rattle.rlc_law.specs.PortLaws.{HearsDataMade}
use Rattle.srap_header.specs.Srap.{Srap, IsSrap}
use Rattle.node_model.specs.Names.{AtRelay, is_port}
use Rattle.node_model.specs.Tables.{map_row}
use Rattle.node_model.proofs.Names.{remote_is}
use Rattle.item_law.specs.State.{ToRelay, Item, InSlot, is_over_relay, put, epoch_at, goal_at}
use Rattle.item_law.specs.Steps.{complete_relay, IsOpenAtRelay, RelayRoutes}
use Rattle.item_law.proofs.base.Puts.{of_number, put_same}
use Rattle.item_place.specs.Places.{Link}
use Rattle.item_chain.specs.View.{View, is_side, put_at}
use Rattle.item_chain.specs.Stands.{uu_of, item_tables, goal_of, routed_for, Ghost, Stands, Refines}
use Rattle.item_chain.proofs.Completed.{n, spells, stood, slotted}
use Rattle.item_chain.proofs.Hearing.{its}
use Rattle.item_chain.proofs.Headers.{IsFirstHop, first_of, srap_is, ue_read, ul_dl, pc5_uu, pc5_direct, uu_direct, pc5_remote, uu_chan, id_is, drb_is}

-- the row of channels of a bearer, as the items' tables have it
pub row_has : (v : View) (g : Ghost) → Stands g v → (row : MapRow) (q : Remote) (bearer : ℕ) (drb : Drb) → MapsBearer v.tables.maps q bearer row → bearer + 1 ≡ drb.0
    → map_row v.tables q drb ≡ Some row
row_has v g st row q bearer drb maps same =
    ap (λ (q : Remote). map_row v.tables q drb) (sym maps.of_remote) ∙ ap (map_row v.tables row.remote) (sym (drb_is row.drb drb (maps.of_bearer ∙ same)))
    ∙ st.good.maps row maps.among

-- what a node attaches is the path that it is on
pub attached_goal : (g : Ghost) (v : View) → Stands g v → (q : Remote) (ue : ℕ) (u : LocalId) → IsAttached (v.attached AtRelay) q ue → ue ≡ u.0
    → goal_at (g.chain.path q) kinds.Relay ≡ ToRelay u
attached_goal g v st q ue u attached same =
    let id : LocalId = record { 0 = ue } in
    sym (st.paths.ids kinds.Relay q) ∙ ap goal_of (st.paths.agree AtRelay q id attached) ∙ ap ToRelay (id_is id u same)

module _ (g : Ghost) (v : View) (st : Stands g v) (e : Entity) (number : ℕ) (bytes : List ℕ) (tx : Tx) (rx : Rx) (x : ℕ) (sdu : List ℕ) where
  -- up: the relay's side of a PC5 port is the high one
  module _ (q : Remote) (c : Chan) (is_open : v.entity High (Pc5 q c) ≡ Some e) (h : HearsDataMade (its g v st Ul (Pc5 q c) e is_open number bytes tx rx) Ul number bytes
      (Complete x sdu) tx rx) where
    pub up_item : (i : Item) × (g.chain.items (n g v st Ul (Pc5 q c) e is_open number bytes tx rx x sdu h) ≡ Some i)
        × IsFirstHop v.tables i (g.chain.spot (n g v st Ul (Pc5 q c) e is_open number bytes tx rx x sdu h)) Ul (Pc5 q c) e.epoch
    up_item =
        let k = n g v st Ul (Pc5 q c) e is_open number bytes tx rx x sdu h in
        let was = st.layout.stands (Link (Pc5 q c) Ul e.epoch) x k (stood g v st Ul (Pc5 q c) e is_open number bytes tx rx x sdu h) in
        (was.0, was.1, first_of v.tables was.0 (g.chain.spot k) e.epoch (Pc5 q c) Ul (λ r d. pc5_direct q r c d) (λ u w s. pc5_uu q c u s) (λ r c w s. ul_dl w) was.2)

    pub takes_up : (head : Srap) → IsSrap head sdu → v.slot (Pc5 q c) ≡ None → (row : MapRow) → IsAttached (v.attached AtRelay) q head.ue
        → MapsBearer v.tables.maps q head.bearer row → (from : PortName)
        → Refines v.tables g (record v {
          entity = put_at is_side is_port v.entity High (Pc5 q c) (Some (record e { tx = tx; rx = rx }));
          slot = put is_port v.slot (Pc5 q c) (Some (record { from = from; route = record { egress = Uu row.uu; key = key_in Ul row }; sdu = sdu }));
        })
    takes_up head read free row attached maps from =
        let k = n g v st Ul (Pc5 q c) e is_open number bytes tx rx x sdu h in
        let i = up_item.0 in
        let is = up_item.1 in
        let f = up_item.2 in
        let spelt = spells g v st Ul (Pc5 q c) e is_open number bytes tx rx x sdu h in
        let mine = srap_is g v st k i f.u is f.goal head (subst (IsSrap head) spelt read) in
        let own : q ≡ i.key.remote = pc5_remote q i.key.remote c f.by.0.pc5 f.by.2 in
        let here : goal_at (g.chain.path q) kinds.Relay ≡ i.goal = attached_goal g v st q head.ue f.u attached mine.0 ∙ sym f.goal in
        let has = row_has v g st row q head.bearer i.key.drb maps mine.1 in
        let opened = st.paths.opens High (Pc5 q c) e is_open in
        slotted g v st Ul (Pc5 q c) e is_open number bytes tx rx x sdu h free (record { from = from; route = record { egress = Uu row.uu; key = key_in Ul row }; sdu = sdu }) q tt
        (complete_relay k i f.u q is f.spot f.goal
        (subst (IsOpenAtRelay g.chain i) (sym f.way) (
          ap (λ (r : Remote). epoch_at (g.chain.path r) kinds.Relay) (sym own) ∙ sym opened.0 ∙ f.by.3,
          ap (λ (r : Remote). is_over_relay (goal_at (g.chain.path r) kinds.Relay)) (sym own) ∙ opened.1,
        ))
        (subst (λ (w : Way). RelayRoutes (item_tables v.tables) g.chain i w q) (sym f.way) (own, here, record { chan = row.uu; is = ap (option_map uu_of) has }))
        refl)
        (refl, λ r of. maps.of_remote ∙ sym (remote_is r q of))
        (record {
          item = i;
          is = is;
          sdu = spelt;
          ue = f.goal ∙ ap ToRelay (id_is f.u (record { 0 = slice_index sdu 1 }) (sym mine.0 ∙ sym (ue_read head sdu read)));
          way = f.way;
          drb = sym (drb_is row.drb i.key.drb (maps.of_bearer ∙ mine.1));
          routed = ap routed_for (put_same of_number g.chain.spot k (InSlot q)) ∙ ap (λ (r : Remote). Some r) (sym maps.of_remote);
          egress = (row, st.good.maps row maps.among, refl);
        })

  -- down: the relay's side of a Uu port is the low one
  module _ (c : Chan) (is_open : v.entity Low (Uu c) ≡ Some e) (h : HearsDataMade (its g v st Dl (Uu c) e is_open number bytes tx rx) Dl number bytes (Complete x sdu) tx rx) where
    pub down_item : (i : Item) × (g.chain.items (n g v st Dl (Uu c) e is_open number bytes tx rx x sdu h) ≡ Some i)
        × IsFirstHop v.tables i (g.chain.spot (n g v st Dl (Uu c) e is_open number bytes tx rx x sdu h)) Dl (Uu c) e.epoch
    down_item =
        let k = n g v st Dl (Uu c) e is_open number bytes tx rx x sdu h in
        let was = st.layout.stands (Link (Uu c) Dl e.epoch) x k (stood g v st Dl (Uu c) e is_open number bytes tx rx x sdu h) in
        (was.0, was.1, first_of v.tables was.0 (g.chain.spot k) e.epoch (Uu c) Dl (λ r d. uu_direct c r d) (λ u w s. ul_dl (sym w)) (λ r d w s. pc5_uu r d c (sym s)) was.2)

    pub takes_down : (head : Srap) → IsSrap head sdu → v.slot (Uu c) ≡ None → (q : Remote) (row : MapRow) → IsAttached (v.attached AtRelay) q head.ue
        → MapsBearer v.tables.maps q head.bearer row → row.uu ≡ c → (from : PortName)
        → Refines v.tables g (record v {
          entity = put_at is_side is_port v.entity Low (Uu c) (Some (record e { tx = tx; rx = rx }));
          slot = put is_port v.slot (Uu c) (Some (record {
            from = from;
            route = record { egress = Pc5 row.remote row.pc5; key = key_in Dl row };
            sdu = sdu;
          }));
        })
    takes_down head read free q row attached maps same_uu from =
        let k = n g v st Dl (Uu c) e is_open number bytes tx rx x sdu h in
        let i = down_item.0 in
        let is = down_item.1 in
        let f = down_item.2 in
        let spelt = spells g v st Dl (Uu c) e is_open number bytes tx rx x sdu h in
        let mine = srap_is g v st k i f.u is f.goal head (subst (IsSrap head) spelt read) in
        let here : goal_at (g.chain.path q) kinds.Relay ≡ i.goal = attached_goal g v st q head.ue f.u attached mine.0 ∙ sym f.goal in
        let has = row_has v g st row q head.bearer i.key.drb maps mine.1 in
        slotted g v st Dl (Uu c) e is_open number bytes tx rx x sdu h free
        (record { from = from; route = record { egress = Pc5 row.remote row.pc5; key = key_in Dl row }; sdu = sdu }) q tt
        (complete_relay k i f.u q is f.spot f.goal
        (subst (IsOpenAtRelay g.chain i) (sym f.way) tt)
        (subst (λ (w : Way). RelayRoutes (item_tables v.tables) g.chain i w q) (sym f.way) (
          here,
          record {
            chan = c;
            first = ap (option_map uu_of) f.by.1 ∙ ap (λ (u : Chan). Some u) (sym (uu_chan c f.by.0.uu f.by.2));
            second = ap (option_map uu_of) has
                ∙ ap (λ (u : Chan). Some u) same_uu;
          },
        ))
        refl)
        (refl, λ r of. absurd (false≢true of))
        (record {
          item = i;
          is = is;
          sdu = spelt;
          ue = f.goal ∙ ap ToRelay (id_is f.u (record { 0 = slice_index sdu 1 }) (sym mine.0 ∙ sym (ue_read head sdu read)));
          way = f.way;
          drb = sym (drb_is row.drb i.key.drb (maps.of_bearer ∙ mine.1));
          routed = ap routed_for (put_same of_number g.chain.spot k (InSlot q)) ∙ ap (λ (r : Remote). Some r) (sym maps.of_remote);
          egress = (row, st.good.maps row maps.among, refl);
        })
