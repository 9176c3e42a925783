-- What is live at a spot of a chain is an item that stands there and is live.
use Rattle.std.proofs.Common.{◌≡◌, inl, inr, ℕ, zero, suc, ◌+◌, true, false, List, [], ◌∷◌, Some, None, refl, sym, ◌∙◌, ap, subst, arith}
use Rattle.std.specs.List.{slice_get, slice_index_or}
use Rattle.std.proofs.lemmas.Bool.{cases_Bool, cond-false}
use Rattle.std.proofs.lemmas.Option.{none-some, same_Some, slice_get_within}
use Rattle.link_base.specs.declared.names.Chan.{Chan}
use Rattle.link_base.specs.declared.names.Drb.{Drb}
use Rattle.link_base.specs.declared.names.Goal.{Goal}
use Rattle.link_base.specs.declared.names.Goal.TheVariants.{Direct as ToDirect, Relay as ToRelay}
use Rattle.link_base.specs.declared.names.Key.{Key}
use Rattle.link_base.specs.declared.names.LocalId.{LocalId}
use Rattle.link_base.specs.declared.names.Node.{Node as NodeKind}
use Rattle.link_base.specs.declared.names.Node.TheVariants as kinds
use Rattle.link_base.specs.declared.names.PortName.{PortName}
use Rattle.link_base.specs.declared.names.PortName.TheVariants.{Direct, Pc5}
use Rattle.link_base.specs.declared.names.Remote.{Remote}
use Rattle.link_base.specs.declared.names.Side.TheVariants.{Low, High}
use Rattle.link_base.specs.declared.names.Way.{Way}
use Rattle.link_base.specs.declared.names.Way.TheVariants.{Ul, Dl}
use Rattle.pdcp_pdu.specs.Pdcp.{pdcp_bytes}
use Rattle.rlc_model.specs.Rx.{Rx, Done, got}
use Rattle.rlc_model.specs.Sides.{hearer_of}
use Rattle.rlc_law.specs.Hop.{Hop}
use Rattle.rlc_law.specs.Ports.{Port, hop_of}
use Rattle.node_model.specs.Feeding.{under}
use Rattle.node_model.specs.Names.{key_of, node_of}
use Rattle.chain_model.specs.OneCopy.{Spot, OnHop, InSlot, InQueue, WaitsOnHop, Attaches, IsJoined, direct}
use Rattle.chain_model.specs.State.{Chain}
use Rattle.item_law.specs.Live.{LiveTowards}
use Rattle.item_law.specs.State.{Item, OnFirstHop, epoch_at, goal_at, way_of}
use Rattle.item_law.specs.State.{Spot as ItemSpot, sink as sink_kind}
use Rattle.item_law.proofs.Inductive.{reaches_inv}
use Rattle.item_law.proofs.kept.Invariant.{Inv}
use Rattle.item_place.specs.Places.{Link, Ingress, Egress, Box, at, FirstBy, SecondBy, IsSpot, first, slot, queue, second}
use Rattle.item_chain.specs.Runs.{Remembers}
use Rattle.item_chain.specs.View.{view}
use Rattle.item_chain.specs.Stands.{goal_of, id_of, item_tables, calm, kind_at, Ghost, Stands}
use Rattle.item_chain.proofs.Confirms.{has_at}
use Rattle.item_chain.proofs.Gives.{direct_remote, direct_drb}
use Rattle.item_chain.proofs.Headers.{id_is, pc5_direct, uu_direct}
use Rattle.item_chain.proofs.Hearing.{hears_way}
use Rattle.item_chain.proofs.Ports.{link_port, link_way, link_epoch}
use Rattle.item_chain.proofs.Pushes.{ingress_is, egress_is, ingress_egress, link_ingress, link_egress}
use Rattle.item_run.proofs.Coming.{IsFor}

-- what is read at a place
index_at : (xs : List (List ℕ)) (n : ℕ) (x : List ℕ) → slice_get xs n ≡ Some x → slice_index_or xs n [] ≡ x
index_at [] n x is = absurd (none-some x is)
index_at (y ∷ xs) zero x is = same_Some y x is
index_at (y ∷ xs) (suc n) x is = index_at xs n x is

-- the side of a direct port that hears is at the end to which the way goes
direct_kind : (w : Way) (r : Remote) (d : Drb) → kind_at (hearer_of w) (Direct r d) ≡ sink_kind w
direct_kind Ul r d = refl
direct_kind Dl r d = refl

module _ (g : Ghost) (c : Chain) (st : Stands g (view c)) where
  abbrev pub inv : Inv (item_tables c.tables) g.chain (λ r. false) (λ r. false)
  inv = reaches_inv (item_tables c.tables) (calm g.chain) st.reaches

  -- an item stands at a spot
  abbrev pub StandsAt : Spot → ℕ → Type 0
  StandsAt (OnHop port way number) n = (epoch : ℕ) × (at (g.layout.box (Link port way epoch)) number ≡ Some n)
  StandsAt (InSlot port) n = (place : ℕ) × (at (g.layout.box (Ingress port)) place ≡ Some n)
  StandsAt (InQueue port position) n = at (g.layout.box (Egress port)) ((st.places.queues port).from + position) ≡ Some n

  -- at one spot alone
  pub one_spot : (a b : Spot) (n : ℕ) → StandsAt a n → StandsAt b n → a ≡ b
  one_spot (OnHop p v k) (OnHop q w l) n x y =
      let o = st.layout.once (Link p v x.0) (Link q w y.0) k l n x.1 y.1 in
      ap (λ (r : PortName). OnHop r v k) (link_port p q v w x.0 y.0 o.0) ∙ ap (λ (u : Way). OnHop q u k) (link_way p q v w x.0 y.0 o.0) ∙ ap (OnHop q w) o.1
  one_spot (InSlot p) (InSlot q) n x y = ap InSlot (ingress_is p q (st.layout.once (Ingress p) (Ingress q) x.0 y.0 n x.1 y.1).0)
  one_spot (InQueue p i) (InQueue q j) n x y =
      let o = st.layout.once (Egress p) (Egress q) ((st.places.queues p).from + i) ((st.places.queues q).from + j) n x y in
      let port = egress_is p q o.0 in
      let same : (st.places.queues q).from + i ≡ (st.places.queues q).from + j = ap (λ (r : PortName). (st.places.queues r).from + i) (sym port) ∙ o.1 in
      ap (λ (r : PortName). InQueue r i) port ∙ ap (InQueue q) (let place : i ≡ j = omega (arith, same) in place)
  one_spot (OnHop p v k) (InSlot q) n x y = absurd (link_ingress p q v x.0 (st.layout.once (Link p v x.0) (Ingress q) k y.0 n x.1 y.1).0)
  one_spot (OnHop p v k) (InQueue q j) n x y = absurd (link_egress p q v x.0 (st.layout.once (Link p v x.0) (Egress q) k ((st.places.queues q).from + j) n x.1 y).0)
  one_spot (InSlot p) (OnHop q w l) n x y = absurd (link_ingress q p w y.0 (st.layout.once (Link q w y.0) (Ingress p) l x.0 n y.1 x.1).0)
  one_spot (InQueue p i) (OnHop q w l) n x y = absurd (link_egress q p w y.0 (st.layout.once (Link q w y.0) (Egress p) l ((st.places.queues p).from + i) n y.1 x).0)
  one_spot (InSlot p) (InQueue q j) n x y = absurd (ingress_egress p q (st.layout.once (Ingress p) (Egress q) x.0 ((st.places.queues q).from + j) n x.1 y).0)
  one_spot (InQueue p i) (InSlot q) n x y = absurd (ingress_egress q p (st.layout.once (Ingress q) (Egress p) y.0 ((st.places.queues p).from + i) n y.1 x).0)

  -- what a node attaches its path says
  pub attaches_goal : (kind : NodeKind) (r : Remote) (ue : ℕ) (u : LocalId) → Attaches c (node_of kind r) r (record { 0 = ue }) → ue ≡ u.0
      → goal_at (g.chain.path r) kind ≡ ToRelay u
  attaches_goal kind r ue u has same = sym (st.paths.ids kind r) ∙ ap goal_of has ∙ ap ToRelay (id_is (record { 0 = ue }) u same)

  -- both sides of a PC5 port that is joined are in one epoch
  pub joined : (r : Remote) (ch : Chan) → IsJoined c (Pc5 r ch) → epoch_at (g.chain.path r) kinds.Remote ≡ epoch_at (g.chain.path r) kinds.Relay
  joined r ch j = sym (st.paths.opens Low (Pc5 r ch) j.low j.low_open).0 ∙ j.same ∙ (st.paths.opens High (Pc5 r ch) j.high j.high_open).0

  -- an item stands on a hop that was given this SDU under its number
  pub record OnLink (port : PortName) (way : Way) (number : ℕ) (sdu : List ℕ) (epoch : ℕ) : Type 0 where
    pub n : ℕ
    pub stands : at (g.layout.box (Link port way epoch)) number ≡ Some n
    pub item : Item
    pub is : g.chain.items n ≡ Some item
    pub spot : IsSpot c.tables item (g.chain.spot n) (Link port way epoch)
    pub spelled : sdu ≡ g.spell n

  module _ (past : List Chain) (remembers : Remembers past g) where
    pub on_link : (port : PortName) (way : Way) (number : ℕ) (sdu : List ℕ) (w : WaitsOnHop past c port way number sdu) → OnLink port way number sdu w.receiver.epoch
    on_link port way number sdu w =
        let was = remembers port way w.receiver.epoch number sdu w.given in
        let h : Hop = hop_of was.0 way in
        let b : Box = g.layout.box (Link port way w.receiver.epoch) in
        let fits = st.hops port w.receiver.epoch was.0 was.1 way in
        let came = has_at b.log number (omega (arith, slice_get_within h.given number sdu was.2, fits.long)) in
        let open_port = st.sides.open_port (hearer_of way) port w.receiver w.is_open in
        let same : open_port.0 ≡ was.0 = same_Some open_port.0 was.0 (sym open_port.1 ∙ was.1) in
        let rx : w.receiver.rx ≡ h.rx = open_port.2.its_rx ∙ ap (λ (v : Way). (hop_of open_port.0 v).rx) (hears_way way) ∙ ap (λ (p : Port). (hop_of p way).rx) same in
        let here : at b number ≡ Some came.0 = cond-false (b.left number) None (slice_get b.log number) (not_left b h.rx w rx fits.left) ∙ came.1 in
        let its = st.layout.stands (Link port way w.receiver.epoch) number came.0 here in
        record {
          n = came.0;
          stands = here;
          item = its.0;
          is = its.1;
          spot = its.2;
          spelled = sym (index_at h.given number sdu was.2) ∙ fits.sdus number came.0 came.1;
        }
      where
        not_left : (b : Box) (rx : Rx) (w : WaitsOnHop past c port way number sdu) → w.receiver.rx ≡ rx
            → ((j : ℕ) → (b.left j ≡ true → got rx j ≡ Done) × (got rx j ≡ Done → b.left j ≡ true)) → b.left number ≡ false
        not_left b rx w same left = elim (cases_Bool (b.left number)) [
          | inl gone ↦ absurd (w.open_number (ap (λ (r : Rx). got r number) same ∙ (left number).0 gone))
          | inr stays ↦ stays
        ]

    -- a live SDU is a live item at its spot
    pub record LiveItem (key : Key) (going : Way) (spot : Spot) (pdu : List ℕ) : Type 0 where
      pub number : ℕ
      pub stands : StandsAt spot number
      pub is_for : IsFor g (view c) st number (key_of key.remote key.drb going) pdu

    ---- direct ports

    -- what stands on the hop of a direct port is direct
    record IsDirect (i : Item) (x : ItemSpot) (w : Way) (r : Remote) (d : Drb) (e : ℕ) : Type 0 where
      pub spot : x ≡ OnFirstHop
      pub way : way_of i ≡ w
      pub goal : i.goal ≡ ToDirect
      pub remote : i.key.remote ≡ r
      pub drb : i.key.drb ≡ d
      pub epoch : e ≡ i.epoch

    direct_spot : (i : Item) (x : ItemSpot) (w : Way) (r : Remote) (d : Drb) (e : ℕ) → IsSpot c.tables i x (Link (Direct r d) w e) → IsDirect i x w r d e
    direct_spot i x w r d e (first q f a is by) =
        go i.goal refl (subst (λ (q : PortName). FirstBy c.tables i i.goal (way_of i) q f) (sym (link_port (Direct r d) q w (way_of i) e f a)) by)
      where
        go : (o : Goal) → i.goal ≡ o → FirstBy c.tables i o (way_of i) (Direct r d) f → IsDirect i x w r d e
        go ToDirect goal at = record {
          spot = is;
          way = sym (link_way (Direct r d) q w (way_of i) e f a);
          goal = goal;
          remote = sym (direct_remote r i.key.remote d i.key.drb at.0);
          drb = sym (direct_drb r i.key.remote d i.key.drb at.0);
          epoch = link_epoch (Direct r d) q w (way_of i) e f a ∙ at.1;
        }
        go (ToRelay u) goal at = absurd (by_way (way_of i) at)
          where
            by_way : (v : Way) → FirstBy c.tables i (ToRelay u) v (Direct r d) f → ⊥
            by_way Ul at = pc5_direct i.key.remote r at.0.pc5 d (sym at.2)
            by_way Dl at = uu_direct at.0.uu r d (sym at.2)
    direct_spot i x w r d e (slot q to a is) = absurd (link_ingress (Direct r d) q w e a)
    direct_spot i x w r d e (queue q to a is) = absurd (link_egress (Direct r d) q w e a)
    direct_spot i x w r d e (second q f to own a is by) =
        absurd (by_way (way_of i) (subst (λ (q : PortName). SecondBy c.tables i (way_of i) to own q f) (sym (link_port (Direct r d) q w (way_of i) e f a)) by))
      where
        by_way : (v : Way) → SecondBy c.tables i v to own (Direct r d) f → ⊥
        by_way Ul at = uu_direct at.0.uu r d (sym at.2)
        by_way Dl at = pc5_direct to r at.0.pc5 d (sym at.2)

    pub direct_live : (key : Key) (going : Way) (number : ℕ) (pdu : List ℕ) → WaitsOnHop past c (Direct key.remote key.drb) going number pdu
        → LiveItem key going (OnHop (Direct key.remote key.drb) going number) pdu
    direct_live key going number pdu w =
        let r : Remote = key.remote in
        let d : Drb = key.drb in
        let o = on_link (Direct r d) going number pdu w in
        let i : Item = o.item in
        let s = direct_spot i (g.chain.spot o.n) going r d w.receiver.epoch o.spot in
        let opened = st.paths.opens (hearer_of going) (Direct r d) w.receiver w.is_open in
        let kind : kind_at (hearer_of going) (Direct r d) ≡ sink_kind (way_of i) = direct_kind going r d ∙ ap sink_kind (sym s.way) in
        let epoch : epoch_at (g.chain.path i.key.remote) (sink_kind (way_of i)) ≡ i.epoch =
        ap (λ (q : Remote). epoch_at (g.chain.path q) (sink_kind (way_of i))) s.remote ∙ ap (epoch_at (g.chain.path r)) (sym kind) ∙ sym opened.0 ∙ s.epoch in
        let goal : goal_at (g.chain.path i.key.remote) (sink_kind (way_of i)) ≡ ToDirect =
        ap (λ (q : Remote). goal_at (g.chain.path q) (sink_kind (way_of i))) s.remote ∙ ap (goal_at (g.chain.path r)) (sym kind) ∙ opened.1 in
        record {
          number = o.n;
          stands = (w.receiver.epoch, o.stands);
          is_for = record {
            item = i;
            its = o.is;
            remote = s.remote;
            drb = s.drb;
            way = s.way;
            live = record {
              is = o.is;
              live = subst (λ (z : Goal). LiveTowards g.chain i (g.chain.spot o.n) z) (sym s.goal)
                  (subst (λ (x : ItemSpot). LiveTowards g.chain i x ToDirect) (sym s.spot) (epoch, goal));
            };
            spelled = o.spelled ∙ (st.spelt o.n i o.is).its_bytes
                ∙ ap (λ (z : Goal). under (id_of z) i.key.drb (pdcp_bytes (st.spelt o.n i o.is).row.pdcp (st.spelt o.n i o.is).pdu)) s.goal;
          };
        }
