-- An item leaves its station for good.
use Rattle.std.proofs.Common.{◌≡◌, inl, inr, ℕ, ◌≤◌, true, false, List, length, Option, Some, sym, ◌∙◌, ap, subst, arith}
use Rattle.std.specs.List.{slice_get}
use Rattle.std.proofs.lemmas.Bool.{cases_eq, false≢true}
use Rattle.std.proofs.lemmas.Option.{none-some, same_Some}
use Rattle.bearer_map.specs.Contents.{Contents}
use Rattle.item_law.specs.State.{Item, Spot, is_number, put, is_on_its_way}
use Rattle.item_law.proofs.base.Puts.{of_number, put_same, put_other}
use Rattle.item_place.specs.Places.{Station, Box, is_station, at, leave, Layout, StandsFor, IsSpot}
use Rattle.item_place.proofs.Boxes.{of_station, left_at, left_other, cases_station, within}

module _ (t : Contents) (m : Layout) (items : ℕ → Option Item) (spot : ℕ → Spot) (fit : StandsFor t m items spot) (A : Station) (k n : ℕ) (has : at (m.box A) k ≡ Some n) where
  abbrev pub box : Station → Box
  box = put is_station m.box A (leave (m.box A) k)

  pub gone_was : (c : Station) (j l : ℕ) → at (box c) j ≡ Some l → ((c ≡ A) × (j ≡ k) → ⊥) × (at (m.box c) j ≡ Some l)
  gone_was c j l e = elim (cases_station c A) [
    | inl same ↦
        let here : at (leave (m.box A) k) j ≡ Some l = sym (ap (λ (b : Box). at b j) (put_same of_station m.box A (leave (m.box A) k)))
        ∙ ap (λ (c : Station). at (box c) j) (sym same) ∙ e in
        elim (cases_eq j k) [
          | inl jk ↦ absurd (none-some l (sym (ap (at (leave (m.box A) k)) jk ∙ left_at (m.box A) k) ∙ here))
          | inr ne ↦ ((λ p. ne p.1), ap (λ (c : Station). at (m.box c) j) same ∙ sym (left_other (m.box A) k j ne) ∙ here)
        ]
    | inr ne ↦ ((λ p. ne p.0), sym (ap (λ (b : Box). at b j) (put_other of_station m.box A (leave (m.box A) k) c ne)) ∙ e)
  ]

  gone_keeps : (c : Station) (j l : ℕ) → ((c ≡ A) × (j ≡ k) → ⊥) → at (m.box c) j ≡ Some l → at (box c) j ≡ Some l
  gone_keeps c j l apart e = elim (cases_station c A) [
    | inl same ↦ ap (λ (c : Station). at (box c) j) same ∙ ap (λ (b : Box). at b j) (put_same of_station m.box A (leave (m.box A) k))
        ∙ left_other (m.box A) k j (λ jk. apart (same, jk)) ∙ ap (λ (c : Station). at (m.box c) j) (sym same) ∙ e
    | inr ne ↦ ap (λ (b : Box). at b j) (put_other of_station m.box A (leave (m.box A) k) c ne) ∙ e
  ]

  pub gone_differs : (c : Station) (j l : ℕ) → at (box c) j ≡ Some l → l ≡ n → ⊥
  gone_differs c j l e same = let w = gone_was c j l e in w.0 (fit.once c A j k n (w.1 ∙ ap (λ (n : ℕ). Some n) same) has)

  gone_fresh : (c : Station) (j : ℕ) → length (box c).log ≤ j → (box c).left j ≡ false
  gone_fresh c j le = elim (cases_station c A) [
    | inl same ↦
        let is = ap box same ∙ put_same of_station m.box A (leave (m.box A) k) in
        let long : length (m.box A).log ≤ j = omega (arith, le, ap (λ (b : Box). length b.log) is) in
        ap (λ (b : Box). b.left j) is ∙ put_other of_number (m.box A).left k true j (λ jk. absurd (omega (arith, long, jk, within (m.box A) k n has))) ∙ fit.fresh A j long
    | inr ne ↦
        let is = put_other of_station m.box A (leave (m.box A) k) c ne in
        ap (λ (b : Box). b.left j) is ∙ fit.fresh c j (omega (arith, le, ap (λ (b : Box). length b.log) is))
  ]

  gone_log : (c : Station) → (box c).log ≡ (m.box c).log
  gone_log c = elim (cases_station c A) [
    | inl same ↦ ap (λ (b : Box). b.log) (ap box same ∙ put_same of_station m.box A (leave (m.box A) k)) ∙ ap (λ (c : Station). (m.box c).log) (sym same)
    | inr ne ↦ ap (λ (b : Box). b.log) (put_other of_station m.box A (leave (m.box A) k) c ne)
  ]

  module _ (X : Spot) (still : is_on_its_way X ≡ false) where
    abbrev pub spot_left : ℕ → Spot
    spot_left = put is_number spot n X

    pub leaves_on : StandsFor t (record m { box = box }) items spot_left
    leaves_on = record {
      has = fit.has;
      stands = λ c j l e.
          let was = fit.stands c j l (gone_was c j l e).1 in
          (was.0, was.1, subst (λ (x : Spot). IsSpot t was.0 x c) (sym (put_other of_number spot n X l (gone_differs c j l e))) was.2);
      once = λ c d i j l e f. fit.once c d i j l (gone_was c i l e).1 (gone_was d j l f).1;
      found = λ l i is goes. elim (cases_eq l n) [
        | inl e ↦ absurd (false≢true (sym still ∙ ap is_on_its_way (sym (put_same of_number spot n X)) ∙ ap (λ (l : ℕ). is_on_its_way (put is_number spot n X l)) (sym e) ∙ goes))
        | inr ne ↦
            let was = fit.found l i is (ap is_on_its_way (sym (put_other of_number spot n X l ne)) ∙ goes) in
            (was.0, was.1, gone_keeps was.0 was.1 l (λ p. ne (same_Some l n (sym was.2 ∙ ap (at (m.box was.0)) p.1 ∙ ap (λ (c : Station). at (m.box c) k) p.0 ∙ has))) was.2)
      ];
      fresh = gone_fresh;
      known = λ c j l e. fit.known c j l (ap (λ (xs : List ℕ). slice_get xs j) (sym (gone_log c)) ∙ e);
    }
