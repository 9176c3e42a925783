-- What completes on a direct port arrives for its key.
use Rattle.std.proofs.Common.{◌≡◌, ℕ, List, Some, refl, sym, ◌∙◌, ap, subst}
use Rattle.link_base.specs.declared.names.Drb.{Drb}
use Rattle.link_base.specs.declared.names.Goal.{Goal}
use Rattle.link_base.specs.declared.names.PortName.{PortName}
use Rattle.link_base.specs.declared.names.PortName.TheVariants.{Direct}
use Rattle.link_base.specs.declared.names.Remote.{Remote}
use Rattle.link_base.specs.declared.names.Way.{Way}
use Rattle.link_base.specs.declared.names.Way.TheVariants.{Ul, Dl}
use Rattle.bearer_map.specs.Contents.{Contents}
use Rattle.rlc_model.specs.declared.receiver.Heard.TheVariants.{Complete}
use Rattle.rlc_model.specs.Rx.{Rx}
use Rattle.rlc_model.specs.Sides.{Entity, hearer_of}
use Rattle.rlc_model.specs.Tx.{Tx}
use Rattle.rlc_law.specs.PortLaws.{HearsDataMade}
use Rattle.pdcp_pdu.specs.Pdcp.{pdcp_bytes}
use Rattle.node_model.specs.Feeding.{under}
use Rattle.node_model.specs.Names.{key_of, owner}
use Rattle.item_law.specs.State.{ToDirect, ToRelay, Item, Spot, OnFirstHop, way_of, sink, epoch_at, goal_at}
use Rattle.item_law.specs.Live.{LiveTowards, LiveDirect}
use Rattle.item_law.specs.Steps.{complete_direct, IsOpenDirect}
use Rattle.item_place.specs.Places.{Link, FirstBy, SecondBy, IsSpot, first, slot, queue, second}
use Rattle.item_chain.specs.View.{View}
use Rattle.item_chain.specs.Stands.{id_of, kind_at, Ghost, Stands}
use Rattle.item_chain.proofs.Completed.{n, spells, stood}
use Rattle.item_chain.proofs.Headers.{pc5_direct, uu_direct}
use Rattle.item_chain.proofs.Hearing.{its}
use Rattle.item_chain.proofs.Ports.{link_port, link_way, link_epoch}
use Rattle.item_chain.proofs.Pushes.{link_ingress, link_egress}
use Rattle.item_chain.proofs.Taken.{Taken}

direct_remote : (r q : Remote) (c d : Drb) → Direct r c ≡ Direct q d → r ≡ q
direct_remote r q c d e = cc

direct_drb : (r q : Remote) (c d : Drb) → Direct r c ≡ Direct q d → c ≡ d
direct_drb r q c d e = cc

-- what stands on a direct port is on its only hop
pub record IsDirectHop (i : Item) (x : Spot) (r : Remote) (d : Drb) (w : Way) (f : ℕ) : Type 0 where
  pub goal : i.goal ≡ ToDirect
  pub spot : x ≡ OnFirstHop
  pub remote : i.key.remote ≡ r
  pub drb : i.key.drb ≡ d
  pub way : way_of i ≡ w
  pub epoch : i.epoch ≡ f

module _ (t : Contents) (i : Item) (x : Spot) (r : Remote) (d : Drb) (f : ℕ) where
  direct_first : (w : Way) (q : PortName) (e : ℕ) → Direct r d ≡ q → w ≡ way_of i → f ≡ e → x ≡ OnFirstHop → (o : Goal) → i.goal ≡ o → (v : Way) → FirstBy t i o v q e
      → IsDirectHop i x r d w f
  direct_first w q e port way epoch is ToDirect goal v by = record {
    goal = goal;
    spot = is;
    remote = sym (direct_remote r i.key.remote d i.key.drb (port ∙ by.0));
    drb = sym (direct_drb r i.key.remote d i.key.drb (port ∙ by.0));
    way = sym way;
    epoch = sym (epoch ∙ by.1);
  }
  direct_first w q e port way epoch is (ToRelay u) goal Ul by = absurd (pc5_direct i.key.remote r by.0.pc5 d (sym (port ∙ by.2)))
  direct_first w q e port way epoch is (ToRelay u) goal Dl by = absurd (uu_direct by.0.uu r d (sym (port ∙ by.2)))

  no_direct_second : (q : PortName) (v : Way) (to : Remote) (own e : ℕ) → Direct r d ≡ q → SecondBy t i v to own q e → ⊥
  no_direct_second q Ul to own e port by = uu_direct by.0.uu r d (sym (port ∙ by.2))
  no_direct_second q Dl to own e port by = pc5_direct to r by.0.pc5 d (sym (port ∙ by.2))

  pub direct_of : (w : Way) → IsSpot t i x (Link (Direct r d) w f) → IsDirectHop i x r d w f
  direct_of w (first q e a is by) =
      direct_first w q e (link_port (Direct r d) q w (way_of i) f e a) (link_way (Direct r d) q w (way_of i) f e a) (link_epoch (Direct r d) q w (way_of i) f e a) is i.goal refl
      (way_of i) by
  direct_of w (slot q to a is) = absurd (link_ingress (Direct r d) q w f a)
  direct_of w (queue q to a is) = absurd (link_egress (Direct r d) q w f a)
  direct_of w (second q e to own a is by) = absurd (no_direct_second q (way_of i) to own e (link_port (Direct r d) q w (way_of i) f e a) by)

-- the node that hears a way of a direct port is the sink of that way
sink_kind : (w : Way) (r : Remote) (d : Drb) → kind_at (hearer_of w) (Direct r d) ≡ sink w
sink_kind Ul r d = refl
sink_kind Dl r d = refl

module _ (g : Ghost) (v : View) (st : Stands g v) (e : Entity) (number : ℕ) (bytes : List ℕ) (tx : Tx) (rx : Rx) (x : ℕ) (sdu : List ℕ) (r : Remote) (d : Drb) (w : Way)
    (is_open : v.entity (hearer_of w) (Direct r d) ≡ Some e) (h : HearsDataMade (its g v st w (Direct r d) e is_open number bytes tx rx) w number bytes (Complete x sdu) tx rx)
  where
    abbrev k : ℕ
    k = n g v st w (Direct r d) e is_open number bytes tx rx x sdu h

    direct_item : (i : Item) × (g.chain.items k ≡ Some i) × IsDirectHop i (g.chain.spot k) r d w e.epoch
    direct_item =
        let was = st.layout.stands (Link (Direct r d) w e.epoch) x k (stood g v st w (Direct r d) e is_open number bytes tx rx x sdu h) in
        (was.0, was.1, direct_of v.tables was.0 (g.chain.spot k) r d e.epoch w was.2)

    pub direct_takes : Taken g v st k (owner (hearer_of w) (Direct r d)) (key_of r d w) sdu
    direct_takes =
        let i = direct_item.0 in
        let is = direct_item.1 in
        let f = direct_item.2 in
        let o = st.paths.opens (hearer_of w) (Direct r d) e is_open in
        let epoch : epoch_at (g.chain.path i.key.remote) (sink (way_of i)) ≡ i.epoch =
        ap (λ (q : Remote). epoch_at (g.chain.path q) (sink (way_of i))) f.remote ∙ ap (λ (z : Way). epoch_at (g.chain.path r) (sink z)) f.way
        ∙ ap (epoch_at (g.chain.path r)) (sym (sink_kind w r d)) ∙ sym o.0 ∙ sym f.epoch in
        let goal : goal_at (g.chain.path i.key.remote) (sink (way_of i)) ≡ ToDirect =
        ap (λ (q : Remote). goal_at (g.chain.path q) (sink (way_of i))) f.remote ∙ ap (λ (z : Way). goal_at (g.chain.path r) (sink z)) f.way
        ∙ ap (goal_at (g.chain.path r)) (sym (sink_kind w r d)) ∙ o.1 in
        let opened : IsOpenDirect g.chain i = (epoch, goal) in
        let s = st.spelt k i is in
        record {
          item = i;
          its = is;
          remote = f.remote;
          drb = f.drb;
          way = f.way;
          home = refl;
          live = record { is = is; live = subst (LiveTowards g.chain i (g.chain.spot k)) (sym f.goal) (subst (LiveDirect g.chain i) (sym f.spot) (epoch, goal)) };
          spelled = spells g v st w (Direct r d) e is_open number bytes tx rx x sdu h ∙ s.its_bytes
              ∙ ap (λ (o : Goal). under (id_of o) i.key.drb (pdcp_bytes s.row.pdcp s.pdu)) f.goal;
          step = λ new arrives. complete_direct k i is f.spot f.goal opened arrives;
        }
