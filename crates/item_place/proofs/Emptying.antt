-- All items of some stations leave.
use Rattle.std.proofs.Common.{◌≡◌, inl, inr, ℕ, ◌≤◌, nat_lt, Bool, true, false, cond, List, length, Option, Some, None, refl, sym, ◌∙◌, ap, subst}
use Rattle.std.specs.List.{slice_get}
use Rattle.std.proofs.lemmas.Bool.{cases_Bool, cases_lt, cond-true, cond-false, lt-ltb, le-ltb, true≢false}
use Rattle.std.proofs.lemmas.Option.{none-some, slice_get_past}
use Rattle.bearer_map.specs.Contents.{Contents}
use Rattle.item_law.specs.State.{Item, Spot, is_on_its_way}
use Rattle.item_place.specs.Places.{Station, Box, at, emptied, emptied_at, Layout, StandsFor, IsSpot}

-- nothing stands in an emptied box
nothing_at : (b : Box) (k n : ℕ) → at (emptied b) k ≡ Some n → ⊥
nothing_at b k n e = elim (cases_lt k (length b.log)) [
  | inl lt ↦ none-some n (sym (cond-true (nat_lt k (length b.log)) None (slice_get b.log k) (lt-ltb k (length b.log) lt)) ∙ e)
  | inr le ↦ none-some n (sym (cond-false (nat_lt k (length b.log)) None (slice_get b.log k) (le-ltb k (length b.log) le) ∙ slice_get_past b.log k le) ∙ e)
]

module _ (t : Contents) (l : Layout) (items : ℕ → Option Item) (spot : ℕ → Spot) (fit : StandsFor t l items spot) (test : Station → Bool) (now : ℕ → Spot)
    (gone : (a : Station) (k n : ℕ) → test a ≡ true → at (l.box a) k ≡ Some n → is_on_its_way (now n) ≡ false)
    (stay : (a : Station) (k n : ℕ) → test a ≡ false → at (l.box a) k ≡ Some n → now n ≡ spot n)
    (still : (n : ℕ) → is_on_its_way (now n) ≡ true → now n ≡ spot n) where
  abbrev box : Station → Box
  box = emptied_at test l.box

  emptied_is : (a : Station) → test a ≡ true → box a ≡ emptied (l.box a)
  emptied_is a empty = cond-true (test a) (emptied (l.box a)) (l.box a) empty

  kept_is : (a : Station) → test a ≡ false → box a ≡ l.box a
  kept_is a kept = cond-false (test a) (emptied (l.box a)) (l.box a) kept

  was : (a : Station) (k n : ℕ) → at (box a) k ≡ Some n → (test a ≡ false) × (at (l.box a) k ≡ Some n)
  was a k n e = elim (cases_Bool (test a)) [
    | inl empty ↦ absurd (nothing_at (l.box a) k n (ap (λ (b : Box). at b k) (sym (emptied_is a empty)) ∙ e))
    | inr kept ↦ (kept, ap (λ (b : Box). at b k) (sym (kept_is a kept)) ∙ e)
  ]

  same_log : (a : Station) → (box a).log ≡ (l.box a).log
  same_log a = by (test a)
    where
      by : (b : Bool) → (cond b (emptied (l.box a)) (l.box a)).log ≡ (l.box a).log
      by true = refl
      by false = refl

  pub emptied_on : StandsFor t (record l { box = box }) items now
  emptied_on = record {
    has = fit.has;
    stands = λ a k n e.
        let w = was a k n e in
        let s = fit.stands a k n w.1 in
        (s.0, s.1, subst (λ (x : Spot). IsSpot t s.0 x a) (sym (stay a k n w.0 w.1)) s.2);
    once = λ a b k j n e f. fit.once a b k j n (was a k n e).1 (was b j n f).1;
    found = λ n i is goes.
        let f = fit.found n i is (ap is_on_its_way (sym (still n goes)) ∙ goes) in
        elim (cases_Bool (test f.0)) [
          | inl empty ↦ absurd (true≢false (sym goes ∙ gone f.0 f.1 n empty f.2))
          | inr kept ↦ (f.0, f.1, ap (λ (b : Box). at b f.1) (kept_is f.0 kept) ∙ f.2)
        ];
    fresh = λ a k le.
        let long : length (l.box a).log ≤ k = subst (λ (xs : List ℕ). length xs ≤ k) (same_log a) le in
        elim (cases_Bool (test a)) [
          | inl empty ↦ ap (λ (b : Box). b.left k) (emptied_is a empty) ∙ le-ltb k (length (l.box a).log) long
          | inr kept ↦ ap (λ (b : Box). b.left k) (kept_is a kept) ∙ fit.fresh a k long
        ];
    known = λ a k n e. fit.known a k n (ap (λ (xs : List ℕ). slice_get xs k) (sym (same_log a)) ∙ e);
  }
