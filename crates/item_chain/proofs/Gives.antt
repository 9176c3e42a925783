-- An end gives one PDU to its first hop: a new item comes to the end of the hop's box.
use Rattle.std.proofs.Common.{◌≡◌, inl, inr, ℕ, ◌<◌, Bool, false, List, [], ◌∷◌, ◌++◌, length, get_or, Option, Some, None, refl, sym, ◌∙◌, ap, subst, arith}
use Rattle.std.specs.List.{slice_get}
use Rattle.std.proofs.lemmas.Bool.{false≢true}
use Rattle.std.proofs.lemmas.List.{get_or_append_left}
use Rattle.std.proofs.lemmas.Option.{none-some, same_Some, slice_get_within}
use Rattle.link_base.specs.declared.names.Drb.{Drb}
use Rattle.link_base.specs.declared.names.Goal.{Goal}
use Rattle.link_base.specs.declared.names.Key.{Key}
use Rattle.link_base.specs.declared.names.PortName.{PortName}
use Rattle.link_base.specs.declared.names.PortName.TheVariants.{Direct, Pc5, Uu}
use Rattle.link_base.specs.declared.names.Remote.{Remote}
use Rattle.link_base.specs.declared.names.Side.{Side}
use Rattle.link_base.specs.declared.names.Way.{Way}
use Rattle.link_base.specs.declared.names.Way.TheVariants.{Ul, Dl}
use Rattle.link_base.specs.declared.rlc_words.Tag.{Tag}
use Rattle.bearer_map.specs.Contents.{Contents}
use Rattle.rlc_model.specs.Sides.{Entity, way_from}
use Rattle.rlc_model.specs.Tx.{Tx, Kept, Gives}
use Rattle.rlc_law.specs.Hop.{Hop, Give}
use Rattle.rlc_law.specs.Ports.{Port, hop_of, IsSide, MovesSide}
use Rattle.rlc_law.proofs.Inductive.{reaches_inv}
use Rattle.rlc_law.proofs.Moving.{give_moves}
use Rattle.node_model.specs.Names.{NodeName, is_port}
use Rattle.node_model.specs.declared.parcel.Parcel.{Parcel}
use Rattle.node_model.specs.State.{Incoming, Outgoing}
use Rattle.item_law.specs.State.{ToDirect, ToRelay, Item, Spot, OnFirstHop, is_number, put, way_of}
use Rattle.item_law.specs.State.{Chain as ItemChain, Sender as ItemSender}
use Rattle.item_law.specs.World.{Reaches}
use Rattle.item_law.proofs.base.Puts.{of_number, put_same, put_other, put_some}
use Rattle.item_place.specs.Places.{Station, Link, Ingress, Egress, is_station, Box, at, enter, FirstBy, IsSpot, first}
use Rattle.item_place.specs.HopFits.{HopFits}
use Rattle.item_place.proofs.Boxes.{of_station}
use Rattle.item_place.proofs.Entering.{enters_on, not_new}
use Rattle.item_place.proofs.Pushed.{push_was}
use Rattle.item_chain.specs.View.{View, is_side, put_at}
use Rattle.item_chain.specs.Stands.{id_of, IsSpelt, IsLongEnough, IsTag, FitsDirect, IsParcel, RowFits, IsQueued}
use Rattle.item_chain.specs.Stands.{as_list, routed_for, item_tables, EndsFit, calm, Ghost, Stands, KeepGiven}
use Rattle.item_chain.proofs.Headers.{pc5_direct, uu_direct}
use Rattle.item_chain.proofs.Ports.{own, ports_after, sides_after, air_after, unopened_after, hops_after}
use Rattle.item_chain.proofs.Ports.{directs_after, paths_after, openings_after, link_port, link_epoch, given_after}
use Rattle.item_chain.proofs.Pushes.{link_ingress, link_egress}
use Rattle.item_chain.proofs.Quiet.{at_end, given_fits}
use Rattle.item_chain.proofs.Rows.{row_map}
use Rattle.item_chain.proofs.Tags.{bears_more}

below_not : (m n : ℕ) → m < n → m ≡ n → ⊥
below_not m n lt e = absurd (omega (arith, lt, e))

pub direct_remote : (r q : Remote) (d e : Drb) → Direct r d ≡ Direct q e → r ≡ q
direct_remote r q d e h = cc

pub direct_drb : (r q : Remote) (d e : Drb) → Direct r d ≡ Direct q e → d ≡ e
direct_drb r q d e h = cc

-- what is given to a direct port is a direct item of the port's bearer
direct_item : (t : Contents) (i : Item) (o : Goal) (w : Way) (r : Remote) (d : Drb) (f : ℕ) → FirstBy t i o w (Direct r d) f
    → (o ≡ ToDirect) × (i.key.remote ≡ r) × (i.key.drb ≡ d)
direct_item t i ToDirect w r d f by = (refl, sym (direct_remote r i.key.remote d i.key.drb by.0), sym (direct_drb r i.key.remote d i.key.drb by.0))
direct_item t i (ToRelay u) Ul r d f by = absurd (pc5_direct _ r _ d (sym by.2))
direct_item t i (ToRelay u) Dl r d f by = absurd (uu_direct _ r d (sym by.2))

module _ (t : Contents) (items : ℕ → Option Item) (spot : ℕ → Spot) (n : ℕ) (i : Item) (w : Way) (b : Box) (known : (k m : ℕ) → slice_get b.log k ≡ Some m → m < n) where
  abbrev items_now : ℕ → Option Item
  items_now = put is_number items n (Some i)

  abbrev spot_now : ℕ → Spot
  spot_now = put is_number spot n OnFirstHop

  -- direct ports fit where the new item is none of theirs
  direct_known : (name : PortName) (tx : Tx) → FitsDirect name w t items spot b tx → FitsDirect name w t items_now spot_now b tx
  direct_known (Direct r d) tx f = record {
    goals = λ k m e. let x = f.goals k m e in (x.0, put_other of_number items n (Some i) m (below_not m n (known k m e)) ∙ x.1, x.2, x.3, x.4, x.5);
    arrived = λ k m e gone. put_other of_number spot n OnFirstHop m (below_not m n (known k m e)) ∙ f.arrived k m e gone;
    tags = λ k m j kept e is has. f.tags k m j kept e (sym (put_other of_number items n (Some i) m (below_not m n (known k m e))) ∙ is) has;
  }
  direct_known (Pc5 r c) tx f = tt
  direct_known (Uu c) tx f = λ k m j kept e is has. f k m j kept e (sym (put_other of_number items n (Some i) m (below_not m n (known k m e))) ∙ is) has

  -- and where it comes to their end
  direct_given : (name : PortName) (f : ℕ) (old new : Tx) (kept : Kept) → length b.log ≡ length old.kept → b.left (length b.log) ≡ false → new.kept ≡ old.kept ++ Some kept ∷ []
      → FirstBy t i i.goal (way_of i) name f → way_of i ≡ w → IsTag t i.key i.content kept.tag → kept.tag.ue ≡ id_of i.goal → FitsDirect name w t items spot b old
      → FitsDirect name w t items_now spot_now (enter b n) new
  direct_given (Direct r d) f old new kept long fresh is by way tag bears fits = record {
    goals = λ k m e. elim (push_was b.log n k m e) [
      | inl was ↦ let x = fits.goals k m was in (x.0, put_other of_number items n (Some i) m (below_not m n (known k m was)) ∙ x.1, x.2, x.3, x.4, x.5)
      | inr now ↦ (i, ap items_now now.1 ∙ put_same of_number items n (Some i), its.0, its.1, its.2, way)
    ];
    arrived = λ k m e gone. elim (push_was b.log n k m e) [
      | inl was ↦ put_other of_number spot n OnFirstHop m (below_not m n (known k m was)) ∙ fits.arrived k m was gone
      | inr now ↦ absurd (false≢true (sym fresh ∙ ap b.left (sym now.0) ∙ gone))
    ];
    tags = λ k m j x e among has. elim (push_was b.log n k m e) [
      | inl was ↦ fits.tags k m j x was (sym (put_other of_number items n (Some i) m (below_not m n (known k m was))) ∙ among)
          (sym (get_or_append_left old.kept (Some kept ∷ []) None k (omega (arith, slice_get_within b.log k m was, long)))
          ∙ ap (λ (xs : List (Option Kept)). get_or xs k None) (sym is) ∙ has)
      | inr now ↦
          let same_item : i ≡ j = same_Some i j (sym (put_same of_number items n (Some i)) ∙ ap items_now (sym now.1) ∙ among) in
          let same_kept : kept ≡ x = same_Some kept x (sym (ap (λ (k : ℕ). get_or (old.kept ++ Some kept ∷ []) k None) (now.0 ∙ long) ∙ at_end old.kept (Some kept) None)
          ∙ ap (λ (xs : List (Option Kept)). get_or xs k None) (sym is) ∙ has) in
          subst (λ (j : Item). IsTag t j.key j.content x.tag) same_item (subst (λ (x : Kept). IsTag t i.key i.content x.tag) same_kept tag)
    ];
  }
    where
      its : (i.goal ≡ ToDirect) × (i.key.remote ≡ r) × (i.key.drb ≡ d)
      its = direct_item t i i.goal (way_of i) r d f by
  direct_given (Pc5 r c) f old new kept long fresh is by way tag bears fits = tt
  direct_given (Uu c) f old new kept long fresh is by way tag bears fits =
      bears_more items_now n i b old new kept (put_same of_number items n (Some i)) long is bears (direct_known (Uu c) old fits)

module _ (g : Ghost) (v : View) (st : Stands g v) (side : Side) (port : PortName) (e : Entity) (is_open : v.entity side port ≡ Some e)
    (i : Item) (bytes : List ℕ) (tag : Tag) (number : ℕ) (tx : Tx) (gives : Gives e.tx tag bytes number tx) (way : way_of i ≡ way_from side)
    (by : FirstBy v.tables i i.goal (way_of i) port e.epoch) (spells : IsSpelt v.tables i bytes) (long : IsLongEnough bytes) (tagged : IsTag v.tables i.key i.content tag)
    (bears : tag.ue ≡ id_of i.goal) where
  abbrev pub n : ℕ
  n = length g.layout.items

  abbrev B : Station
  B = Link port (way_from side) e.epoch

  abbrev old_box : Box
  old_box = g.layout.box B

  here : IsSpot v.tables i OnFirstHop B
  here = first port e.epoch (ap (λ (w : Way). Link port w e.epoch) (sym way)) refl by

  abbrev port_own : (p : Port) × (g.ports port e.epoch ≡ Some p) × IsSide p side e.tx e.rx
  port_own = own g v st side port e is_open

  abbrev moves : (behind : Port) × MovesSide port_own.0 side (way_from side) (Give tag bytes) tx e.rx behind
  moves = give_moves port_own.0 side e.tx e.rx port_own.2 tag bytes number tx long.0 long.1 gives

  abbrev spell : ℕ → List ℕ
  spell = put is_number g.spell n bytes

  abbrev items : ℕ → Option Item
  items = put is_number g.chain.items n (Some i)

  abbrev spot : ℕ → Spot
  spot = put is_number g.chain.spot n OnFirstHop

  abbrev box : Station → Box
  box = put is_station g.layout.box B (enter old_box n)

  abbrev pub chain : (Key → ItemSender) → (Key → Bool) → ItemChain
  chain sender wanted = record g.chain { items = items; spot = spot; sender = sender; wanted = wanted }

  abbrev pub ghost : (Key → ItemSender) → (Key → Bool) → Ghost
  ghost sender wanted = record g {
    chain = chain sender wanted;
    layout = record { items = g.layout.items ++ i ∷ []; box = box };
    ports = ports_after g v st side port e is_open (way_from side) (Give tag bytes) tx e.rx moves.0 moves.1;
    spell = spell;
  }

  pub given_more : (sender : Key → ItemSender) (wanted : Key → Bool) → KeepGiven g.ports (ghost sender wanted).ports
  given_more sender wanted = given_after g v st side port e is_open (way_from side) (Give tag bytes) tx e.rx moves.0 moves.1

  same_spell : (m : ℕ) → m < n → spell m ≡ g.spell m
  same_spell m lt = put_other of_number g.spell n bytes m (below_not m n lt)

  hop_spell : (h : Hop) (a : Station) → HopFits g.spell h (g.layout.box a) → HopFits spell h (g.layout.box a)
  hop_spell h a w = record { long = w.long; sdus = λ k m e. w.sdus k m e ∙ sym (same_spell m (st.layout.known a k m e)); left = w.left }

  box_same : box B ≡ enter old_box n
  box_same = put_same of_station g.layout.box B (enter old_box n)

  box_other : (a : Station) → (a ≡ B → ⊥) → box a ≡ g.layout.box a
  box_other a ne = put_other of_station g.layout.box B (enter old_box n) a ne

  -- the hop has as many SDUs as were given
  as_many : length old_box.log ≡ length (hop_of port_own.0 (way_from side)).tx.kept
  as_many =
      let h = hop_of port_own.0 (way_from side) in
      (st.hops port e.epoch port_own.0 port_own.1 (way_from side)).long ∙ (reaches_inv h (st.ports.reaches port e.epoch port_own.0 port_own.1 (way_from side))).tx.long

  abbrev new_kept : Kept
  new_kept = record { tag = tag; sdu = bytes; flags = []; retx_count = None }

  direct_here : FitsDirect port (way_from side) v.tables items spot (box B) (hop_of moves.0 (way_from side)).tx
  direct_here = subst (λ (b : Box). FitsDirect port (way_from side) v.tables items spot b (hop_of moves.0 (way_from side)).tx) (sym box_same)
      (direct_given v.tables g.chain.items g.chain.spot n i (way_from side) old_box (st.layout.known B) port e.epoch (hop_of port_own.0 (way_from side)).tx
      (hop_of moves.0 (way_from side)).tx new_kept as_many (st.layout.fresh B (length old_box.log) (omega arith))
      (ap (λ (x : Tx). x.kept) (sym moves.1.here.its_tx ∙ gives.is) ∙ ap (λ (x : Tx). x.kept ++ Some new_kept ∷ []) port_own.2.its_tx)
      by way tagged bears (st.directs port e.epoch port_own.0 port_own.1 (way_from side)))

  abbrev P : Parcel → ℕ → Type 0
  P = IsParcel v.tables g.chain.items g.chain.spot g.spell

  abbrev Q : Parcel → ℕ → Type 0
  Q = IsParcel v.tables items spot spell

  keeps : (y : Parcel) (l : ℕ) → (l ≡ n → ⊥) → P y l → Q y l
  keeps y l ne p = record {
    item = p.item;
    is = put_other of_number g.chain.items n (Some i) l ne ∙ p.is;
    sdu = p.sdu ∙ sym (put_other of_number g.spell n bytes l ne);
    ue = p.ue;
    way = p.way;
    drb = p.drb;
    routed = ap routed_for (put_other of_number g.chain.spot n OnFirstHop l ne) ∙ p.routed;
    egress = p.egress;
  }

  differs : (c : Station) (j l : ℕ) → at (g.layout.box c) j ≡ Some l → l ≡ n → ⊥
  differs c j l has = not_new v.tables g.layout g.chain.items g.chain.spot st.layout B i here c j l has

  slots : (q : PortName) → RowFits Q (box (Ingress q)) (as_list (v.slot q))
  slots q = subst (λ (b : Box). RowFits Q b (as_list (v.slot q))) (sym (box_other (Ingress q) (λ h. link_ingress port q (way_from side) e.epoch (sym h))))
      (row_map P Q (g.layout.box (Ingress q)) (as_list (v.slot q)) (st.places.slots q) (λ k l x has w. keeps x l (differs (Ingress q) k l has) w))

  queues : (q : PortName) → RowFits (IsQueued Q q) (box (Egress q)) (v.queue q)
  queues q = subst (λ (b : Box). RowFits (IsQueued Q q) b (v.queue q)) (sym (box_other (Egress q) (λ h. link_egress port q (way_from side) e.epoch (sym h))))
      (row_map (IsQueued P q) (IsQueued Q q) (g.layout.box (Egress q)) (v.queue q) (st.places.queues q) (λ k l x has w. (w.0, keeps x l (differs (Egress q) k l has) w.1)))

  not_here : (q : PortName) (w : Way) (f : ℕ) → g.ports q f ≡ None → Link q w f ≡ B → ⊥
  not_here q w f none h = none-some port_own.0
      (sym none ∙ ap (λ (q : PortName). g.ports q f) (link_port q port w (way_from side) f e.epoch h)
      ∙ ap (g.ports port) (link_epoch q port w (way_from side) f e.epoch h) ∙ port_own.1)

  -- the ghost stands, where the ends fit what was given
  pub given_stands : (sender : Key → ItemSender) (wanted : Key → Bool) (outgoing : NodeName → Key → Option Outgoing) (incoming : NodeName → Key → Option Incoming)
      → Reaches (item_tables v.tables) (calm (chain sender wanted)) → EndsFit v.tables g.chain.path sender g.chain.heard wanted outgoing incoming
      → Stands (ghost sender wanted) (record v { entity = put_at is_side is_port v.entity side port (Some (record e { tx = tx })); outgoing = outgoing; incoming = incoming })
  given_stands sender wanted outgoing incoming reaches ends = record {
    good = st.good;
    reaches = reaches;
    layout = enters_on v.tables g.layout g.chain.items g.chain.spot st.layout B i here;
    spelt = λ m j is. elim (put_some g.chain.items n i m j is) [
      | inl w ↦ subst (λ (j : Item). IsSpelt v.tables j (spell m)) w.1 (subst (IsSpelt v.tables i) (sym (ap spell w.0 ∙ put_same of_number g.spell n bytes)) spells)
      | inr w ↦ subst (IsSpelt v.tables j) (sym (put_other of_number g.spell n bytes m w.0)) (st.spelt m j w.1)
    ];
    lengths = λ m j is. elim (put_some g.chain.items n i m j is) [
      | inl w ↦ subst IsLongEnough (sym (ap spell w.0 ∙ put_same of_number g.spell n bytes)) long
      | inr w ↦ subst IsLongEnough (sym (put_other of_number g.spell n bytes m w.0)) (st.lengths m j w.1)
    ];
    ports = air_after g v st side port e is_open (way_from side) (Give tag bytes) tx e.rx moves.0 moves.1;
    sides = sides_after g v st side port e is_open (way_from side) (Give tag bytes) tx e.rx moves.0 moves.1;
    hops = hops_after g v st side port e is_open (way_from side) (Give tag bytes) tx e.rx moves.0 moves.1 spell box
        (subst (HopFits spell (hop_of moves.0 (way_from side))) (sym box_same)
        (given_fits spell (hop_of port_own.0 (way_from side)) (hop_of moves.0 (way_from side)) old_box n tag bytes moves.1.moves.happens (sym (put_same of_number g.spell n bytes))
        (hop_spell (hop_of port_own.0 (way_from side)) B (st.hops port e.epoch port_own.0 port_own.1 (way_from side)))))
        (λ q f p is w ne. subst (HopFits spell (hop_of p w)) (sym (box_other (Link q w f) ne)) (hop_spell (hop_of p w) (Link q w f) (st.hops q f p is w)));
    directs = directs_after g v st side port e is_open (way_from side) (Give tag bytes) tx e.rx moves.0 moves.1 items spot box direct_here
        (λ q f p is w ne. subst (λ (b : Box). FitsDirect q w v.tables items spot b (hop_of p w).tx) (sym (box_other (Link q w f) ne))
        (direct_known v.tables g.chain.items g.chain.spot n i w (g.layout.box (Link q w f)) (st.layout.known (Link q w f)) q (hop_of p w).tx (st.directs q f p is w)));
    unopened = λ q f none w.
        let was = unopened_after g v st side port e is_open (way_from side) (Give tag bytes) tx e.rx moves.0 moves.1 q f none in
        ap (λ (b : Box). b.log) (box_other (Link q w f) (λ h. not_here q w f was h)) ∙ st.unopened q f was w;
    places = record { slots = slots; queues = queues; own = st.places.own };
    paths = paths_after g v st side port e is_open (way_from side) (Give tag bytes) tx e.rx moves.0 moves.1;
    openings = openings_after g v st side port e is_open (way_from side) (Give tag bytes) tx e.rx moves.0 moves.1;
    ends = ends;
  }
