-- An item goes from one station to another.
use Rattle.std.proofs.Common.{◌≡◌, inl, inr, ℕ, ◌<◌, true, length, Option, Some, sym, ◌∙◌, ap, subst}
use Rattle.std.proofs.lemmas.Bool.{cases_eq}
use Rattle.std.proofs.lemmas.Option.{same_Some}
use Rattle.link_base.specs.declared.names.PortName.{PortName}
use Rattle.link_base.specs.declared.names.Remote.{Remote}
use Rattle.bearer_map.specs.Contents.{Contents}
use Rattle.item_law.specs.State.{Item, Spot, InSlot, InQueue, is_number, put, way_of, is_on_its_way}
use Rattle.item_law.proofs.base.Puts.{of_number, put_same, put_other}
use Rattle.item_place.specs.Places.{Station, Link, Ingress, Egress, at, Layout, moved, IsSpot, first, slot, queue, second, StandsFor}
use Rattle.item_place.proofs.Boxes.{mid, after, at_end, after_was, after_keeps, after_fresh, after_log, at_log}

-- an item moves: the layout then stands for the items with its new spot
module _ (t : Contents) (m : Layout) (items : ℕ → Option Item) (spot : ℕ → Spot) (fit : StandsFor t m items spot) (a : Station) (k : ℕ) (b : Station) (n : ℕ)
    (has : at (m.box a) k ≡ Some n) (x : Spot) where
  abbrev next : ℕ → Spot
  next = put is_number spot n x

  old : (c : Station) (j l : ℕ) → ((c ≡ a) × (j ≡ k) → ⊥) → at (m.box c) j ≡ Some l → l ≡ n → ⊥
  old c j l ne e same = ne (fit.once c a j k n (e ∙ ap (λ (n : ℕ). Some n) same) has)

  stands : ((i : Item) → items n ≡ Some i → IsSpot t i x b) → (c : Station) (j l : ℕ) → at (after m.box fit.fresh a k b n has c) j ≡ Some l → (i : Item) × (items l ≡ Some i)
      × IsSpot t i (next l) c
  stands here c j l e = elim (after_was m.box fit.fresh a k b n has c j l e) [
    | inl p ↦
        let was = fit.stands a k n has in (
          was.0,
          ap items p.2 ∙ was.1,
          subst (λ (l : ℕ). IsSpot t was.0 (next l) c) (sym p.2)
              (subst (λ (y : Spot). IsSpot t was.0 y c) (sym (put_same of_number spot n x)) (subst (IsSpot t was.0 x) (sym p.0) (here was.0 was.1))),
        )
    | inr p ↦
        let was = fit.stands c j l p.1 in
        (was.0, was.1, subst (λ (y : Spot). IsSpot t was.0 y c) (sym (put_other of_number spot n x l (old c j l p.0 p.1))) was.2)
  ]

  once : (c d : Station) (i j l : ℕ) → at (after m.box fit.fresh a k b n has c) i ≡ Some l → at (after m.box fit.fresh a k b n has d) j ≡ Some l → (c ≡ d) × (i ≡ j)
  once c d i j l e f = elim (after_was m.box fit.fresh a k b n has c i l e) [
    | inl p ↦ elim (after_was m.box fit.fresh a k b n has d j l f) [
      | inl q ↦ (p.0 ∙ sym q.0, p.1 ∙ sym q.1)
      | inr q ↦ absurd (old d j l q.0 q.1 p.2)
    ]
    | inr p ↦ elim (after_was m.box fit.fresh a k b n has d j l f) [
      | inl q ↦ absurd (old c i l p.0 p.1 q.2)
      | inr q ↦ fit.once c d i j l p.1 q.1
    ]
  ]

  found : (l : ℕ) (i : Item) → items l ≡ Some i → is_on_its_way (next l) ≡ true → (c : Station) × (j : ℕ) × (at (after m.box fit.fresh a k b n has c) j ≡ Some l)
  found l i is moves = elim (cases_eq l n) [
    | inl e ↦ (b, length (mid m.box fit.fresh a k b n has b).log, at_end m.box fit.fresh a k b n has ∙ ap (λ (n : ℕ). Some n) (sym e))
    | inr ne ↦
        let was = fit.found l i is (ap is_on_its_way (sym (put_other of_number spot n x l ne)) ∙ moves) in (
          was.0,
          was.1,
          after_keeps m.box fit.fresh a k b n has was.0 was.1 l
              (λ p. ne (same_Some l n (sym was.2 ∙ ap (at (m.box was.0)) p.1 ∙ ap (λ (c : Station). at (m.box c) k) p.0 ∙ has))) was.2,
        )
  ]

  pub moves_on : ((i : Item) → items n ≡ Some i → IsSpot t i x b) → StandsFor t (record m { box = moved m.box a k b n }) items next
  moves_on here = record {
    has = fit.has;
    stands = stands here;
    once = once;
    found = found;
    fresh = after_fresh m.box fit.fresh a k b n has;
    known = λ c j l e. elim (after_log m.box fit.fresh a k b n has c j l e) [
      | inl old ↦ fit.known c j l old
      | inr new ↦ subst (λ (l : ℕ). l < length m.items) (sym new) (fit.known a k n (at_log (m.box a) k n has))
    ];
  }

-- what stands in a queue is at a spot there, and what stands in a slot too
pub queue_of : (t : Contents) (i : Item) (x : Spot) (p : PortName) → IsSpot t i x (Egress p) → (to : Remote) × (x ≡ InQueue to)
queue_of t i x p (queue q to e f) = (to, f)
queue_of t i x p (first q f e g h) = absurd (ne e)
  where
    ne : Egress p ≡ Link q (way_of i) f → ⊥
    ne e = cc
queue_of t i x p (slot q to e f) = absurd (ne e)
  where
    ne : Egress p ≡ Ingress q → ⊥
    ne e = cc
queue_of t i x p (second q f to e2 e g h) = absurd (ne e)
  where
    ne : Egress p ≡ Link q (way_of i) f → ⊥
    ne e = cc

pub slot_of : (t : Contents) (i : Item) (x : Spot) (p : PortName) → IsSpot t i x (Ingress p) → (to : Remote) × (x ≡ InSlot to)
slot_of t i x p (slot q to e f) = (to, f)
slot_of t i x p (first q f e g h) = absurd (ne e)
  where
    ne : Ingress p ≡ Link q (way_of i) f → ⊥
    ne e = cc
slot_of t i x p (queue q to e f) = absurd (ne e)
  where
    ne : Ingress p ≡ Egress q → ⊥
    ne e = cc
slot_of t i x p (second q f to e2 e g h) = absurd (ne e)
  where
    ne : Ingress p ≡ Link q (way_of i) f → ⊥
    ne e = cc
