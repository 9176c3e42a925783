-- Boxes with one item moved.
use Rattle.std.proofs.Common.{◌≡◌, ◌⊎◌, inl, inr, ℕ, ◌<◌, ◌≤◌, Bool, true, false, cond, List, [], ◌∷◌, ◌++◌, length, Some, None, refl, sym, ◌∙◌, ap, arith}
use Rattle.std.specs.List.{slice_get}
use Rattle.std.proofs.lemmas.Bool.{cases_eq, cases_Bool, eqb-true, eq-eqb, and_parts, and_from, false≢true, cond-true, cond-false}
use Rattle.std.proofs.lemmas.Option.{none-some, same_Some, slice_get_within}
use Rattle.std.proofs.lemmas.List.{length_push}
use Rattle.link_base.specs.declared.names.PortName.{PortName}
use Rattle.link_base.specs.declared.names.Way.{Way}
use Rattle.node_model.proofs.Names.{port_is, port_refl, way_is, way_refl}
use Rattle.item_law.specs.State.{is_number, put}
use Rattle.item_law.proofs.base.Puts.{Decides, of_number, put_same, put_other, cases_same}
use Rattle.item_place.proofs.Pushed.{push_end, push_old, push_was}
use Rattle.item_place.specs.Places.{Station, Link, Ingress, Egress, is_station, Box, at, leave, enter}

station_is : (a b : Station) → is_station a b ≡ true → a ≡ b
station_is (Link p w e) (Link q v f) h =
    let x = and_parts _ _ h in
    let y = and_parts _ _ x.1 in
    ap (λ (p : PortName). Link p w e) (port_is p q x.0) ∙ ap (λ (w : Way). Link q w e) (way_is w v y.0) ∙ ap (Link q v) (eqb-true e f y.1)
station_is (Ingress p) (Ingress q) h = ap Ingress (port_is p q h)
station_is (Egress p) (Egress q) h = ap Egress (port_is p q h)
station_is (Link p w e) (Ingress q) h = absurd (false≢true h)
station_is (Link p w e) (Egress q) h = absurd (false≢true h)
station_is (Ingress p) (Link q w e) h = absurd (false≢true h)
station_is (Ingress p) (Egress q) h = absurd (false≢true h)
station_is (Egress p) (Link q w e) h = absurd (false≢true h)
station_is (Egress p) (Ingress q) h = absurd (false≢true h)

station_refl : (a : Station) → is_station a a ≡ true
station_refl (Link p w e) = and_from _ _ (port_refl p) (and_from _ _ (way_refl w) (eq-eqb e e refl))
station_refl (Ingress p) = port_refl p
station_refl (Egress p) = port_refl p

pub of_station : Decides is_station
of_station = record { same = station_is; self = station_refl }

pub cases_station : (a b : Station) → (a ≡ b) ⊎ (a ≡ b → ⊥)
cases_station = cases_same of_station

-- a place that is left has nothing, and the others have what they had
pub left_at : (b : Box) (k : ℕ) → at (leave b k) k ≡ None
left_at b k = cond-true (put is_number b.left k true k) None (slice_get b.log k) (put_same of_number b.left k true)

pub left_other : (b : Box) (k j : ℕ) → (j ≡ k → ⊥) → at (leave b k) j ≡ at b j
left_other b k j ne = ap (λ (x : Bool). cond x None (slice_get b.log j)) (put_other of_number b.left k true j ne)

pub entered_at : (b : Box) (n : ℕ) → b.left (length b.log) ≡ false → at (enter b n) (length b.log) ≡ Some n
entered_at b n fresh = cond-false (b.left (length b.log)) None (slice_get (b.log ++ n ∷ []) (length b.log)) fresh ∙ push_end b.log n

pub entered_other : (b : Box) (n j : ℕ) → (j ≡ length b.log → ⊥) → at (enter b n) j ≡ at b j
entered_other b n j ne = ap (cond (b.left j) None) (push_old b.log n j ne)

-- what stands somewhere came there
pub at_log : (b : Box) (k n : ℕ) → at b k ≡ Some n → slice_get b.log k ≡ Some n
at_log b k n e = elim (cases_Bool (b.left k)) [
  | inl l ↦ absurd (none-some n (sym (cond-true (b.left k) None (slice_get b.log k) l) ∙ e))
  | inr l ↦ sym (cond-false (b.left k) None (slice_get b.log k) l) ∙ e
]

pub within : (b : Box) (k n : ℕ) → at b k ≡ Some n → k < length b.log
within b k n e = slice_get_within b.log k n (at_log b k n e)

module _ (box : Station → Box) (fresh : (a : Station) (k : ℕ) → length (box a).log ≤ k → (box a).left k ≡ false) (a : Station) (k : ℕ) (b : Station) (n : ℕ)
    (has : at (box a) k ≡ Some n) where
  abbrev pub mid : Station → Box
  mid = put is_station box a (leave (box a) k)

  abbrev pub after : Station → Box
  after = put is_station mid b (enter (mid b) n)

  mid_log : (c : Station) → (mid c).log ≡ (box c).log
  mid_log c = elim (cases_station c a) [
    | inl e ↦ ap (λ (c : Station). (mid c).log) e ∙ ap (λ (x : Box). x.log) (put_same of_station box a (leave (box a) k)) ∙ ap (λ (c : Station). (box c).log) (sym e)
    | inr ne ↦ ap (λ (x : Box). x.log) (put_other of_station box a (leave (box a) k) c ne)
  ]

  mid_other : (c : Station) (j : ℕ) → ((c ≡ a) × (j ≡ k) → ⊥) → at (mid c) j ≡ at (box c) j
  mid_other c j ne = elim (cases_station c a) [
    | inl e ↦ ap (λ (c : Station). at (mid c) j) e ∙ ap (λ (x : Box). at x j) (put_same of_station box a (leave (box a) k)) ∙ left_other (box a) k j (λ same. ne (e, same))
        ∙ ap (λ (c : Station). at (box c) j) (sym e)
    | inr ne' ↦ ap (λ (x : Box). at x j) (put_other of_station box a (leave (box a) k) c ne')
  ]

  mid_none : at (mid a) k ≡ None
  mid_none = ap (λ (x : Box). at x k) (put_same of_station box a (leave (box a) k)) ∙ left_at (box a) k

  cases_place : (c : Station) (j : ℕ) → ((c ≡ a) × (j ≡ k)) ⊎ ((c ≡ a) × (j ≡ k) → ⊥)
  cases_place c j = elim (cases_station c a) [
    | inl e ↦ elim (cases_eq j k) [
      | inl f ↦ inl (e, f)
      | inr ne ↦ inr (λ p. ne p.1)
    ]
    | inr ne ↦ inr (λ p. ne p.0)
  ]

  mid_was : (c : Station) (j m : ℕ) → at (mid c) j ≡ Some m → ((c ≡ a) × (j ≡ k) → ⊥) × (at (box c) j ≡ Some m)
  mid_was c j m e = elim (cases_place c j) [
    | inl p ↦ absurd (none-some m (sym mid_none ∙ ap (at (mid a)) (sym p.1) ∙ ap (λ (c : Station). at (mid c) j) (sym p.0) ∙ e))
    | inr ne ↦ (ne, sym (mid_other c j ne) ∙ e)
  ]

  mid_fresh : (c : Station) (j : ℕ) → length (mid c).log ≤ j → (mid c).left j ≡ false
  mid_fresh c j le = elim (cases_station c a) [
    | inl e ↦ ap (λ (c : Station). (mid c).left j) e ∙ ap (λ (x : Box). x.left j) (put_same of_station box a (leave (box a) k))
        ∙ put_other of_number (box a).left k true j (λ same. absurd (omega (arith, within (box a) k n has, long j le e, same))) ∙ fresh a j (long j le e)
    | inr ne ↦ ap (λ (x : Box). x.left j) (put_other of_station box a (leave (box a) k) c ne) ∙ fresh c j (omega (arith, le, ap (λ (xs : List ℕ). length xs) (mid_log c)))
  ]
    where
      long : (j : ℕ) → length (mid c).log ≤ j → c ≡ a → length (box a).log ≤ j
      long j le e = omega (arith, le, ap (λ (xs : List ℕ). length xs) (mid_log c), ap (λ (c : Station). length (box c).log) e)

  pub at_end : at (after b) (length (mid b).log) ≡ Some n
  at_end = ap (λ (x : Box). at x (length (mid b).log)) (put_same of_station mid b (enter (mid b) n)) ∙ entered_at (mid b) n (mid_fresh b (length (mid b).log) (omega arith))

  after_other : (c : Station) (j : ℕ) → ((c ≡ b) × (j ≡ length (mid b).log) → ⊥) → at (after c) j ≡ at (mid c) j
  after_other c j ne = elim (cases_station c b) [
    | inl e ↦ ap (λ (c : Station). at (after c) j) e ∙ ap (λ (x : Box). at x j) (put_same of_station mid b (enter (mid b) n)) ∙ entered_other (mid b) n j (λ same. ne (e, same))
        ∙ ap (λ (c : Station). at (mid c) j) (sym e)
    | inr ne' ↦ ap (λ (x : Box). at x j) (put_other of_station mid b (enter (mid b) n) c ne')
  ]

  cases_end : (c : Station) (j : ℕ) → ((c ≡ b) × (j ≡ length (mid b).log)) ⊎ ((c ≡ b) × (j ≡ length (mid b).log) → ⊥)
  cases_end c j = elim (cases_station c b) [
    | inl e ↦ elim (cases_eq j (length (mid b).log)) [
      | inl f ↦ inl (e, f)
      | inr ne ↦ inr (λ p. ne p.1)
    ]
    | inr ne ↦ inr (λ p. ne p.0)
  ]

  -- what stands anywhere now is the item at its new place, or stood there before and is no other's
  pub after_was : (c : Station) (j m : ℕ) → at (after c) j ≡ Some m → ((c ≡ b) × (j ≡ length (mid b).log) × (m ≡ n)) ⊎ (((c ≡ a) × (j ≡ k) → ⊥) × (at (box c) j ≡ Some m))
  after_was c j m e = elim (cases_end c j) [
    | inl p ↦ inl (p.0, p.1, sym (same_Some n m (sym at_end ∙ ap (at (after b)) (sym p.1) ∙ ap (λ (c : Station). at (after c) j) (sym p.0) ∙ e)))
    | inr ne ↦ inr (mid_was c j m (sym (after_other c j ne) ∙ e))
  ]

  -- what stood elsewhere stands there
  pub after_keeps : (c : Station) (j m : ℕ) → ((c ≡ a) × (j ≡ k) → ⊥) → at (box c) j ≡ Some m → at (after c) j ≡ Some m
  after_keeps c j m ne e =
      let here : at (mid c) j ≡ Some m = mid_other c j ne ∙ e in
      after_other c j (λ p. absurd (omega (arith, within (mid c) j m here, p.1, ap (λ (c : Station). length (mid c).log) p.0))) ∙ here

  pub after_fresh : (c : Station) (j : ℕ) → length (after c).log ≤ j → (after c).left j ≡ false
  after_fresh c j le = elim (cases_station c b) [
    | inl e ↦
        let long : length (enter (mid b) n).log ≤ j =
        omega (arith, le, ap (λ (c : Station). length (after c).log) e, ap (λ (x : Box). length x.log) (put_same of_station mid b (enter (mid b) n))) in
        ap (λ (c : Station). (after c).left j) e ∙ ap (λ (x : Box). x.left j) (put_same of_station mid b (enter (mid b) n))
        ∙ mid_fresh b j (omega (arith, long, length_push (mid b).log n))
    | inr ne ↦ ap (λ (x : Box). x.left j) (put_other of_station mid b (enter (mid b) n) c ne)
        ∙ mid_fresh c j (omega (arith, le, ap (λ (x : Box). length x.log) (put_other of_station mid b (enter (mid b) n) c ne)))
  ]

  -- what came anywhere came there before, or is the item at its new place
  pub after_log : (c : Station) (j m : ℕ) → slice_get (after c).log j ≡ Some m → (slice_get (box c).log j ≡ Some m) ⊎ (m ≡ n)
  after_log c j m e = elim (cases_station c b) [
    | inl same ↦ elim (push_was (mid b).log n j m (sym (ap (λ (x : Box). slice_get x.log j) (ap after same ∙ put_same of_station mid b (enter (mid b) n))) ∙ e)) [
      | inl old ↦ inl (ap (λ (xs : List ℕ). slice_get xs j) (sym (mid_log c) ∙ ap (λ (c : Station). (mid c).log) same) ∙ old)
      | inr new ↦ inr new.1
    ]
    | inr ne ↦ inl (ap (λ (xs : List ℕ). slice_get xs j) (sym (mid_log c)) ∙ ap (λ (x : Box). slice_get x.log j) (sym (put_other of_station mid b (enter (mid b) n) c ne)) ∙ e)
  ]
