-- In a quiet chain nothing of a remote that has no open plan is on its way.
use Rattle.std.proofs.Common.{◌≡◌, ℕ, ◌==◌, ◌&&◌, Bool, true, cond, List, [], length, Option, Some, None, is_some, refl, sym, ◌∙◌, ap, subst, arith}
use Rattle.std.specs.List.{list_any, slice_get}
use Rattle.std.proofs.lemmas.Bool.{and_from, and_parts}
use Rattle.std.proofs.lemmas.Option.{none-some, same_Some}
use Rattle.link_base.specs.declared.names.Chan.{Chan}
use Rattle.link_base.specs.declared.names.Drb.{Drb}
use Rattle.link_base.specs.declared.names.Goal.{Goal}
use Rattle.link_base.specs.declared.names.Goal.TheVariants.{Direct as ToDirect, Relay as ToRelay}
use Rattle.link_base.specs.declared.names.LocalId.{LocalId}
use Rattle.link_base.specs.declared.names.Node.{Node as NodeKind}
use Rattle.link_base.specs.declared.names.PortName.{PortName}
use Rattle.link_base.specs.declared.names.PortName.TheVariants.{Direct, Pc5, Uu}
use Rattle.link_base.specs.declared.names.Remote.{Remote}
use Rattle.link_base.specs.declared.names.Side.{Side}
use Rattle.link_base.specs.declared.names.Way.{Way}
use Rattle.link_base.specs.declared.names.Way.TheVariants.{Ul, Dl}
use Rattle.bearer_map.specs.declared.rows.BearerRow.{BearerRow}
use Rattle.bearer_map.specs.declared.rows.MapRow.{MapRow}
use Rattle.bearer_map.specs.declared.rows.Pc5Row.{Pc5Row}
use Rattle.bearer_map.specs.Contents.{Contents}
use Rattle.rlc_model.specs.Sides.{Entity, sender_of, way_from}
use Rattle.rlc_model.specs.Tx.{Tx, kept_at as tx_kept_at}
use Rattle.rlc_law.specs.Ports.{hop_of}
use Rattle.rlc_law.proofs.Safety.{confirms_complete}
use Rattle.node_model.specs.declared.parcel.Parcel.{Parcel}
use Rattle.node_model.specs.Names.{AtRelay, is_of, is_remote}
use Rattle.node_model.specs.State.{slot_at, queue_at}
use Rattle.node_model.specs.Tables.{has_remote, is_open_on, map_row}
use Rattle.node_model.proofs.Finding.{each_found, find_passes}
use Rattle.node_model.proofs.Names.{remote_is, remote_refl}
use Rattle.chain_model.specs.Resting.{is_quiet}
use Rattle.chain_model.specs.State.{Chain, entity_on, node_at}
use Rattle.relay_core.specs.Opening.{HasChannels}
use Rattle.table_law.specs.Declared.{IsBearer, IsMap, AreDeclared}
use Rattle.item_law.specs.State.{Item, Path, Spot, OnSecondHop, epoch_at, goal_at, way_of, is_on_its_way}
use Rattle.item_law.proofs.base.Nodes.{epoch_old, none_applied}
use Rattle.item_law.proofs.Inductive.{reaches_inv}
use Rattle.item_law.proofs.kept.Invariant.{OfHop}
use Rattle.item_law.proofs.moving.Moves.{own_goal}
use Rattle.item_place.specs.Places.{Station, Link, Ingress, Egress, Box, at, FirstBy, SecondBy, IsSpot, first, slot, queue, second}
use Rattle.item_place.proofs.Boxes.{within}
use Rattle.item_chain.specs.View.{view}
use Rattle.item_chain.specs.Stands.{row_of, RowFits, as_list, has_port, item_tables, calm, IsOpenBy, kind_at, Ghost, Stands}
use Rattle.item_chain.proofs.Receives.{some_is}
use Rattle.item_chain.proofs.Seconds.{bears, for_own}
use Rattle.item_run.proofs.Resting.{slot_rests, queue_rests, tx_rests}

-- no transmitter of an open side keeps an SDU, and the slots and the queues of the relay are empty
pub record HoldsNothing (c : Chain) : Type 0 where
  pub sent : (side : Side) (port : PortName) (e : Entity) → entity_on c side port ≡ Some e → (number : ℕ) → tx_kept_at e.tx number ≡ None
  pub slots : (port : PortName) → slot_at (node_at c AtRelay) port ≡ None
  pub queues : (port : PortName) → queue_at (node_at c AtRelay) port ≡ []

pub quiet_holds : (c : Chain) → is_quiet c ≡ true → HoldsNothing c
quiet_holds c quiet = record { sent = tx_rests c quiet; slots = slot_rests c quiet AtRelay; queues = queue_rests c quiet AtRelay }

pub sends_back : (w : Way) → way_from (sender_of w) ≡ w
sends_back Ul = refl
sends_back Dl = refl

-- nothing stands at a position of a box that has left, or in an empty row
left_nothing : (b : Box) (k n : ℕ) → b.left k ≡ true → at b k ≡ Some n → ⊥
left_nothing b k n left is = none-some n (sym (ap (λ (x : Bool). cond x None (slice_get b.log k)) left) ∙ is)

row_nothing : (P : Parcel → ℕ → Type 0) (b : Box) (xs : List Parcel) → RowFits P b xs → xs ≡ [] → (k n : ℕ) → at b k ≡ Some n → ⊥
row_nothing P b xs fits none k n is = left_nothing b k n (fits.gone k (omega (arith, within b k n is, fits.long, ap length none))) is

module _ (g : Ghost) (c : Chain) (st : Stands g (view c)) where
  -- a side of a port is open in this epoch, and so are both
  abbrev pub OpenIn : Side → PortName → ℕ → Type 0
  OpenIn at p e = (x : Entity) × (entity_on c at p ≡ Some x) × (x.epoch ≡ e)

  abbrev pub BothOpen : PortName → ℕ → Type 0
  BothOpen p e = (at : Side) → OpenIn at p e

  -- where the path of a remote says that a side is open, it is, in the epoch that the path says
  by_path : (r : Remote) (p : PortName) (at : Side) → is_of r p ≡ true → has_port c.tables p ≡ true → is_open_on (goal_at (g.chain.path r) (kind_at at p)) p ≡ true
      → (x : Entity) × (entity_on c at p ≡ Some x) × IsOpenBy g.chain.path (kind_at at p) p x.epoch
  by_path r p at own has on =
      let x = some_is (entity_on c at p) (st.openings.on_path r at p own (st.openings.both at p has) on) in
      (x.0, x.1, st.paths.opens at p x.0 x.1)

  uu_both : (chan : Chan) → has_port c.tables (Uu chan) ≡ true → BothOpen (Uu chan) 0
  uu_both chan has at =
      let x = some_is (entity_on c at (Uu chan)) (st.openings.uus at chan has) in
      (x.0, x.1, st.paths.opens at (Uu chan) x.0 x.1)

  at_port : (p q : PortName) (e f : ℕ) → p ≡ q → e ≡ f → BothOpen q f → BothOpen p e
  at_port p q e f port epoch both at = let x = both at in (x.0, ap (λ (r : PortName). entity_on c at r) port ∙ x.1, x.2 ∙ sym epoch)

  -- nothing stands on a hop whose sending side is open
  module _ (holds : HoldsNothing c) where
    pub link_rests : (p : PortName) (w : Way) (e k n : ℕ) → OpenIn (sender_of w) p e → at (g.layout.box (Link p w e)) k ≡ Some n → ⊥
    link_rests p w e k n (x, is_open, epoch) stands =
        let b : Box = g.layout.box (Link p w x.epoch) in
        let here : at b k ≡ Some n = ap (λ (f : ℕ). at (g.layout.box (Link p w f)) k) epoch ∙ stands in
        let port = st.sides.open_port (sender_of w) p x is_open in
        let fits = st.hops p x.epoch port.0 port.1 w in
        let none : tx_kept_at (hop_of port.0 w).tx k ≡ None = ap (λ (y : Tx). tx_kept_at y k)
        (sym (port.2.its_tx ∙ ap (λ (v : Way). (hop_of port.0 v).tx) (sends_back w))) ∙ holds.sent (sender_of w) p x is_open k in
        let done = confirms_complete (hop_of port.0 w) (st.ports.reaches p x.epoch port.0 port.1 w) k (omega (arith, within b k n here, fits.long)) none in
        left_nothing b k n ((fits.left k).1 done.0) here

module _ (g : Ghost) (c : Chain) (st : Stands g (view c)) (declared : AreDeclared c.tables) where
  abbrev t : Contents
  t = c.tables

  -- the channels of a row are there
  its_channels : (r : Remote) (d : Drb) (row : MapRow) → map_row t r d ≡ Some row → HasChannels t row × (r ≡ row.remote)
  its_channels r d row is =
      let test = λ (x : MapRow). is_remote r x.remote && (d.0 == x.drb.0) in
      let pass = and_parts (is_remote r row.remote) (d.0 == row.drb.0) (find_passes test t.maps row is) in
      ((each_found (IsMap t) test t.maps row declared.maps is).channels, remote_is r row.remote pass.0)

  has_pc5 : (r : Remote) (d : Drb) (row : MapRow) → map_row t r d ≡ Some row → has_port t (Pc5 r row.pc5) ≡ true
  has_pc5 r d row is =
      let ch = its_channels r d row is in
      ap (λ (q : Remote). has_port t (Pc5 q row.pc5)) ch.1
      ∙ and_from (has_remote t row.remote) (list_any (λ (p : Pc5Row). is_remote row.remote p.remote && (row.pc5.0 == p.chan.0)) t.pc5s) ch.0.remote ch.0.pc5

  pub has_direct : (r : Remote) (d : Drb) (row : BearerRow) → row_of t r d ≡ Some row → has_port t (Direct r d) ≡ true
  has_direct r d row is =
      let test = λ (x : BearerRow). is_remote r x.remote && (d.0 == x.drb.0) in
      let pass = and_parts (is_remote r row.remote) (d.0 == row.drb.0) (find_passes test t.bearers row is) in
      and_from (has_remote t r) (is_some (row_of t r d))
      (ap (has_remote t) (remote_is r row.remote pass.0) ∙ (each_found (IsBearer t) test t.bearers row declared.bearers is).remote) (ap (λ (o : Option BearerRow). is_some o) is)

  -- an item of its remote's epoch, where the remote has no open plan
  module _ (n : ℕ) (i : Item) (is : g.chain.items n ≡ Some i) (no_plan : (g.chain.path i.key.remote).plan ≡ None)
      (now : i.epoch ≡ (g.chain.path i.key.remote).epoch) where
    abbrev r : Remote
    r = i.key.remote

    abbrev path : Path
    path = g.chain.path r

    pub its_goal : (kind : NodeKind) → goal_at path kind ≡ i.goal
    its_goal kind = own_goal (reaches_inv (item_tables t) (calm g.chain) st.reaches) n i is refl kind now (none_applied path kind no_plan)

    pub its_epoch : (kind : NodeKind) → epoch_at path kind ≡ i.epoch
    its_epoch kind = epoch_old path kind (none_applied path kind no_plan) ∙ sym now

    pub direct_both : i.goal ≡ ToDirect → BothOpen g c st (Direct r i.key.drb) i.epoch
    direct_both over at =
        let kind : NodeKind = kind_at at (Direct r i.key.drb) in
        let x = by_path g c st r (Direct r i.key.drb) at (remote_refl r) (has_direct r i.key.drb (st.spelt n i is).row (st.spelt n i is).its_row)
        (ap (λ (o : Goal). is_open_on o (Direct r i.key.drb)) (its_goal kind ∙ over)) in
        (x.0, x.1, x.2.0 ∙ its_epoch kind)

    pub pc5_both : (u : LocalId) → i.goal ≡ ToRelay u → (row : MapRow) → map_row t r i.key.drb ≡ Some row → BothOpen g c st (Pc5 r row.pc5) i.epoch
    pc5_both u over row its at =
        let kind : NodeKind = kind_at at (Pc5 r row.pc5) in
        let x = by_path g c st r (Pc5 r row.pc5) at (remote_refl r) (has_pc5 r i.key.drb row its) (ap (λ (o : Goal). is_open_on o (Pc5 r row.pc5)) (its_goal kind ∙ over)) in
        (x.0, x.1, x.2.0 ∙ its_epoch kind)

    pub uu_of_row : (to : Remote) (row : MapRow) → map_row t to i.key.drb ≡ Some row → BothOpen g c st (Uu row.uu) 0
    uu_of_row to row its = uu_both g c st row.uu (its_channels to i.key.drb row its).0.uu

    -- both sides of its first and of its second hop are open
    pub first_both : (o : Goal) → i.goal ≡ o → (w : Way) (p : PortName) (e : ℕ) → FirstBy t i o w p e → BothOpen g c st p e
    first_both ToDirect over w p e by = at_port g c st p (Direct r i.key.drb) e i.epoch by.0 by.1 (direct_both over)
    first_both (ToRelay u) over Ul p e by = at_port g c st p (Pc5 r by.0.pc5) e i.epoch by.2 by.3 (pc5_both u over by.0 by.1)
    first_both (ToRelay u) over Dl p e by = at_port g c st p (Uu by.0.uu) e 0 by.2 by.3 (uu_of_row r by.0 by.1)

    pub second_both : (u : LocalId) → i.goal ≡ ToRelay u → (w : Way) → way_of i ≡ w → (to : Remote) (own : ℕ) → g.chain.spot n ≡ OnSecondHop to own → (p : PortName) (e : ℕ)
        → SecondBy t i w to own p e → BothOpen g c st p e
    second_both u over Ul way to own spot p e by = at_port g c st p (Uu by.0.uu) e 0 by.2 by.3 (uu_of_row to by.0 by.1)
    second_both u over Dl way to own spot p e by =
        let fit = (reaches_inv (item_tables t) (calm g.chain) st.reaches).own n i is refl in
        let same : i.epoch ≡ own = subst (λ (w : Way). OfHop i (OnSecondHop to own) w) way (subst (λ (x : Spot). OfHop i x (way_of i)) spot fit.second) in
        let its : to ≡ r = for_own g (view c) st n i is to own spot in
        at_port g c st p (Pc5 r by.0.pc5) e i.epoch (by.2 ∙ ap (λ (q : Remote). Pc5 q by.0.pc5) its) (by.3 ∙ sym same)
        (pc5_both u over by.0 (ap (λ (q : Remote). map_row t q i.key.drb) (sym its) ∙ by.1))

  -- nothing of a remote's epoch is on its way, where the remote has no open plan
  pub none_on_way : HoldsNothing c → (n : ℕ) (i : Item) → g.chain.items n ≡ Some i → (g.chain.path i.key.remote).plan ≡ None → i.epoch ≡ (g.chain.path i.key.remote).epoch
      → is_on_its_way (g.chain.spot n) ≡ true → ⊥
  none_on_way holds n i is no_plan now way =
      let stands = st.layout.found n i is way in
      let its = st.layout.stands stands.0 stands.1 n stands.2 in
      let same : its.0 ≡ i = same_Some its.0 i (sym its.1 ∙ is) in
      by stands.0 stands.1 stands.2 (subst (λ (j : Item). IsSpot t j (g.chain.spot n) stands.0) same its.2)
    where
      by : (a : Station) (k : ℕ) → at (g.layout.box a) k ≡ Some n → IsSpot t i (g.chain.spot n) a → ⊥
      by a k here (first p e at_a spot by_first) =
          link_rests g c st holds p (way_of i) e k n (first_both n i is no_plan now i.goal refl (way_of i) p e by_first (sender_of (way_of i)))
          (ap (λ (z : Station). at (g.layout.box z) k) (sym at_a) ∙ here)
      by a k here (second p e to own at_a spot by_second) =
          let u = bears g (view c) st n i is to own spot in
          link_rests g c st holds p (way_of i) e k n (second_both n i is no_plan now u.0 u.1 (way_of i) refl to own spot p e by_second (sender_of (way_of i)))
          (ap (λ (z : Station). at (g.layout.box z) k) (sym at_a) ∙ here)
      by a k here (slot p to at_a spot) =
          row_nothing _ (g.layout.box (Ingress p)) (as_list ((view c).slot p)) (st.places.slots p) (ap as_list (holds.slots p)) k n
          (ap (λ (z : Station). at (g.layout.box z) k) (sym at_a) ∙ here)
      by a k here (queue p to at_a spot) =
          row_nothing _ (g.layout.box (Egress p)) ((view c).queue p) (st.places.queues p) (holds.queues p) k n (ap (λ (z : Station). at (g.layout.box z) k) (sym at_a) ∙ here)
