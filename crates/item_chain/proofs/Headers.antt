-- What stands on the first hop of the relay path, and what its SRAP header says.
use Rattle.std.proofs.Common.{◌≡◌, inl, inr, ℕ, ◌+◌, ◌-◌, ◌<◌, ◌≤◌, false, cond, nat_lt, List, [], ◌∷◌, length, Some, None, refl, sym, ◌∙◌, ap, subst, arith}
use Rattle.std.specs.List.{slice_index}
use Rattle.std.proofs.lemmas.Bool.{cases_Bool, false≢true, ltb-true, cond-false}
use Rattle.std.proofs.lemmas.Option.{none-some}
use Rattle.link_base.specs.declared.names.Chan.{Chan}
use Rattle.link_base.specs.declared.names.Drb.{Drb}
use Rattle.link_base.specs.declared.names.Goal.{Goal}
use Rattle.link_base.specs.declared.names.LocalId.{LocalId}
use Rattle.link_base.specs.declared.names.PortName.{PortName}
use Rattle.link_base.specs.declared.names.PortName.TheVariants.{Direct, Pc5, Uu}
use Rattle.link_base.specs.declared.names.Remote.{Remote}
use Rattle.link_base.specs.declared.names.SnSize.{SnSize}
use Rattle.link_base.specs.declared.names.SnSize.TheVariants.{S12, S18}
use Rattle.link_base.specs.declared.names.Way.{Way}
use Rattle.link_base.specs.declared.names.Way.TheVariants.{Ul, Dl}
use Rattle.bearer_map.specs.Contents.{Contents}
use Rattle.pdcp_pdu.specs.Pdcp.{Pdcp, Sdu, Report, pdcp_bytes}
use Rattle.srap_header.specs.declared.pdu.SrapFault.{SrapFault}
use Rattle.srap_header.specs.declared.pdu.SrapFault.TheVariants as faults
use Rattle.srap_header.specs.Srap.{Srap, IsSrap, IsSrapFault, srap, srap_bytes, first_srap_fault, is_empty, is_control, srap_is_cut, srap_has_no_body}
use Rattle.node_model.specs.Names.{is_way}
use Rattle.node_model.specs.Feeding.{under}
use Rattle.item_law.specs.State.{ToDirect, ToRelay, Item, Spot, OnFirstHop, way_of}
use Rattle.item_place.specs.Places.{Link, FirstBy, SecondBy, IsSpot, first, slot, queue, second}
use Rattle.item_chain.specs.View.{View}
use Rattle.item_chain.specs.Stands.{id_of, Ghost, Stands}
use Rattle.item_chain.proofs.Ports.{link_port, link_way, link_epoch}
use Rattle.item_chain.proofs.Pushes.{link_ingress, link_egress}

pub ul_dl : Ul ≡ Dl → ⊥
ul_dl e = false≢true (ap (is_way Dl) e)

pub pc5_uu : (r : Remote) (c u : Chan) → Pc5 r c ≡ Uu u → ⊥
pc5_uu r c u e = cc

pub pc5_direct : (r q : Remote) (c : Chan) (d : Drb) → Pc5 r c ≡ Direct q d → ⊥
pc5_direct r q c d e = cc

pub uu_direct : (u : Chan) (q : Remote) (d : Drb) → Uu u ≡ Direct q d → ⊥
uu_direct u q d e = cc

pub pc5_remote : (r q : Remote) (c d : Chan) → Pc5 r c ≡ Pc5 q d → r ≡ q
pc5_remote r q c d e = cc

pub pc5_chan : (r q : Remote) (c d : Chan) → Pc5 r c ≡ Pc5 q d → c ≡ d
pc5_chan r q c d e = cc

pub uu_chan : (u v : Chan) → Uu u ≡ Uu v → u ≡ v
uu_chan u v e = cc

pub id_is : (a b : LocalId) → a.0 ≡ b.0 → a ≡ b
id_is a b e = ap (λ (n : ℕ). let id : LocalId = record { 0 = n } in id) e

pub drb_is : (a b : Drb) → a.0 ≡ b.0 → a ≡ b
drb_is a b e = ap (λ (n : ℕ). let d : Drb = record { 0 = n } in d) e

-- what stands on a PC5 hop up, or on a Uu hop down, is on its first hop
pub record IsFirstHop (t : Contents) (i : Item) (x : Spot) (w : Way) (p : PortName) (f : ℕ) : Type 0 where
  pub u : LocalId
  pub goal : i.goal ≡ ToRelay u
  pub spot : x ≡ OnFirstHop
  pub way : way_of i ≡ w
  pub by : FirstBy t i (ToRelay u) w p f

module _ (t : Contents) (i : Item) (x : Spot) (f : ℕ) where
  by_first : (p q : PortName) (w : Way) (e : ℕ) → ((r : Remote) (d : Drb) → p ≡ Direct r d → ⊥) → x ≡ OnFirstHop → p ≡ q → w ≡ way_of i → f ≡ e → FirstBy t i i.goal (way_of i) q e
      → IsFirstHop t i x w p f
  by_first p q w e no_direct is port way epoch by =
      go i.goal refl (subst (λ (w : Way). FirstBy t i i.goal w p f) (sym way) (subst (λ (q : PortName). FirstBy t i i.goal (way_of i) q f) (sym port)
      (subst (FirstBy t i i.goal (way_of i) q) (sym epoch) by)))
    where
      go : (o : Goal) → i.goal ≡ o → FirstBy t i o w p f → IsFirstHop t i x w p f
      go ToDirect goal by = absurd (no_direct _ _ by.0)
      go (ToRelay u) goal by = record { u = u; goal = goal; spot = is; way = sym way; by = by }

  no_second : (p q : PortName) (w : Way) (to : Remote) (own e : ℕ) → ((u : Chan) → w ≡ Ul → p ≡ Uu u → ⊥) → ((r : Remote) (c : Chan) → w ≡ Dl → p ≡ Pc5 r c → ⊥) → p ≡ q
      → w ≡ way_of i
      → SecondBy t i (way_of i) to own q e → ⊥
  no_second p q w to own e up down port way by =
      go w refl (subst (λ (w : Way). SecondBy t i w to own p e) (sym way) (subst (λ (q : PortName). SecondBy t i (way_of i) to own q e) (sym port) by))
    where
      go : (v : Way) → w ≡ v → SecondBy t i v to own p e → ⊥
      go Ul is by = up _ is by.2
      go Dl is by = down _ _ is by.2

  pub first_of : (p : PortName) (w : Way) → ((r : Remote) (d : Drb) → p ≡ Direct r d → ⊥) → ((u : Chan) → w ≡ Ul → p ≡ Uu u → ⊥)
      → ((r : Remote) (c : Chan) → w ≡ Dl → p ≡ Pc5 r c → ⊥)
      → IsSpot t i x (Link p w f) → IsFirstHop t i x w p f
  first_of p w no_direct up down (first q e a is by) =
      by_first p q w e no_direct is (link_port p q w (way_of i) f e a) (link_way p q w (way_of i) f e a) (link_epoch p q w (way_of i) f e a) by
  first_of p w no_direct up down (slot q to a is) = absurd (link_ingress p q w f a)
  first_of p w no_direct up down (queue q to a is) = absurd (link_egress p q w f a)
  first_of p w no_direct up down (second q e to own a is by) =
      absurd (no_second p q w to own e up down (link_port p q w (way_of i) f e a) (link_way p q w (way_of i) f e a) by)

-- a SRAP PDU that is spelt is read as itself
reads_srap : (bearer ue : ℕ) (body : List ℕ) (v : Srap) → bearer < 32 → IsSrap v (srap_bytes (srap bearer ue body)) → (v.ue ≡ ue) × (v.bearer ≡ bearer) × (v.body ≡ body)
reads_srap bearer ue body v small read = (read.1, omega (arith, read.0.bearer_id, small), read.2)

-- the second octet of a SRAP PDU is its UE ID
pub ue_read : (v : Srap) (sdu : List ℕ) → IsSrap v sdu → slice_index sdu 1 ≡ v.ue
ue_read v [] is = absurd is
ue_read v (a ∷ []) is = absurd is
ue_read v (a ∷ b ∷ body) is = sym is.1

not_below : (m n : ℕ) → n ≤ m → nat_lt m n ≡ false
not_below m n le = elim (cases_Bool (nat_lt m n)) [
  | inl t ↦ absurd (omega (arith, le, ltb-true m n t))
  | inr f ↦ f
]

pub some_octets : (z : SnSize) (p : Pdcp) → 1 ≤ length (pdcp_bytes z p)
some_octets S12 (Sdu sn body) = omega arith
some_octets S18 (Sdu sn body) = omega arith
some_octets z (Report fmc map) = omega arith

no_fault : (b u : ℕ) (body : List ℕ) → 1 ≤ length body → first_srap_fault (srap_bytes (srap b u body)) ≡ None
no_fault b u body le =
    let bs : List ℕ = srap_bytes (srap b u body) in
    cond-false (is_empty bs) (Some faults.Short) (cond (is_control bs) (Some faults.Control)
    (cond (srap_is_cut bs) (Some faults.Short) (cond (srap_has_no_body bs) (Some faults.NoBody) None))) (not_below (length bs) 1 (omega arith))
    ∙ cond-false (is_control bs) (Some faults.Control) (cond (srap_is_cut bs) (Some faults.Short) (cond (srap_has_no_body bs) (Some faults.NoBody) None))
    (not_below (128 + b) 128 (omega arith))
    ∙ cond-false (srap_is_cut bs) (Some faults.Short) (cond (srap_has_no_body bs) (Some faults.NoBody) None) (not_below (length bs) 2 (omega arith))
    ∙ cond-false (srap_has_no_body bs) (Some faults.NoBody) None (not_below (length bs) 3 (omega (arith, le)))

module _ (g : Ghost) (v : View) (st : Stands g v) (n : ℕ) (i : Item) (u : LocalId) (is : g.chain.items n ≡ Some i) (goal : i.goal ≡ ToRelay u) where
  pub as_header : g.spell n ≡ srap_bytes (srap (i.key.drb.0 - 1) u.0 (pdcp_bytes (st.spelt n i is).row.pdcp (st.spelt n i is).pdu))
  as_header = (st.spelt n i is).its_bytes ∙ ap (λ (o : Goal). under (id_of o) i.key.drb (pdcp_bytes (st.spelt n i is).row.pdcp (st.spelt n i is).pdu)) goal

  -- the header of an item is that of its identity and its bearer
  pub srap_is : (head : Srap) → IsSrap head (g.spell n) → (head.ue ≡ u.0) × (head.bearer + 1 ≡ i.key.drb.0)
      × (head.body ≡ pdcp_bytes (st.spelt n i is).row.pdcp (st.spelt n i is).pdu)
  srap_is head read =
      let s = st.spelt n i is in
      let drb = st.good.drbs i.key.remote i.key.drb s.row s.its_row in
      let same = reads_srap (i.key.drb.0 - 1) u.0 (pdcp_bytes s.row.pdcp s.pdu) head (omega (arith, drb.0, drb.1)) (subst (IsSrap head) as_header read) in
      (same.0, omega (arith, same.1, drb.0), same.2)

  -- it has no fault
  pub header_fine : (fault : SrapFault) → IsSrapFault (g.spell n) fault → ⊥
  header_fine fault bad =
      let s = st.spelt n i is in
      none-some fault (sym (no_fault (i.key.drb.0 - 1) u.0 (pdcp_bytes s.row.pdcp s.pdu) (some_octets s.row.pdcp s.pdu)) ∙ ap first_srap_fault (sym as_header) ∙ bad)
