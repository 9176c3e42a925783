-- What is left of ranges below a place, and from one on.
use Rattle.std.proofs.Common.{◌≡◌, ℕ, ◌+◌, ◌-◌, ◌<◌, ◌≤◌, max, Bool, true, false, ◌&&◌, ◌||◌, cond, List, [], ◌∷◌, ◌++◌, length, get_or, take, drop, leb, ltb, arith, refl, sym, ap, ◌∙◌, subst, inl, inr}
use mir.Val.{bool_byte}
use Rattle.std.specs.Prelude.{IsTrue, ◌↔◌, ◌⊎◌}
use Rattle.std.proofs.lemmas.Bool.{cases_lt, false≢true}
use Rattle.std.proofs.lemmas.Bool.Decides.{nat_tests}
use Rattle.byte_spans.specs.declared.ranges.Range.{Range}
use Rattle.byte_spans.specs.Ranges.{in_one, AreApart, number_ended, below, above, parts_left}
use Rattle.std.proofs.lemmas.List.{drop_more, drop_all}
use Rattle.byte_spans.proofs.Counting.{counts_past}
use Rattle.byte_spans.proofs.Order.{nowhere, in_append, none_below, counted_on}

in_below : (low high : ℕ) (xs : List Range) (f : ℕ) → AreApart low xs high → (p : ℕ) → in_one (below xs f) p ≡ (ltb p f && in_one xs p)
in_below low high [] f apart p = grind (arith, nat_tests)
in_below low high (x ∷ xs) f apart p =
    let rest = in_below (x.end + 1) high xs f apart.3 p in
    let none = none_below (x.end + 1) high xs apart.3 p in
    grind (arith, nat_tests)

in_above : (low high : ℕ) (xs : List Range) (t : ℕ) → AreApart low xs high → (p : ℕ) → in_one (above xs t) p ≡ (leb t p && in_one xs p)
in_above low high [] t apart p = grind (arith, nat_tests)
in_above low high (x ∷ xs) t apart p =
    let rest = in_above (x.end + 1) high xs t apart.3 p in
    let none = none_below (x.end + 1) high xs apart.3 p in
    grind (arith, nat_tests)

-- of the places those are left
pub in_cut : (low high : ℕ) (xs : List Range) (f t : ℕ) → AreApart low xs high → (p : ℕ) → in_one (below xs f ++ above xs t) p ≡ ((ltb p f || leb t p) && in_one xs p)
in_cut low high xs f t apart p =
    let front = in_below low high xs f apart p in
    let back = in_above low high xs t apart p in
    let both = in_append (below xs f) (above xs t) p in
    grind (arith, nat_tests)

above_apart : (low least high : ℕ) (xs : List Range) (t : ℕ) → AreApart low xs high → least ≤ max low t → AreApart least (above xs t) high
above_apart low least high [] t apart le = tt
above_apart low least high (x ∷ xs) t apart le =
    elim (cases_lt t x.end) [
      | inl past ↦ let u : leb x.end t ≡ false = grind (arith, nat_tests) in rw u (omega arith, omega arith, apart.2, apart.3)
      | inr before ↦ let u : leb x.end t ≡ true = grind (arith, nat_tests) in rw u (above_apart (x.end + 1) least high xs t apart.3 (omega arith))
    ]

-- and what is left lies apart
pub cut_apart : (low high : ℕ) (xs : List Range) (f t : ℕ) → AreApart low xs high → f < t → AreApart low (below xs f ++ above xs t) high
cut_apart low high [] f t apart lt = tt
cut_apart low high (x ∷ xs) f t apart lt =
    elim (cases_lt f x.end) [
      | inl past ↦
          let u : leb x.end f ≡ false = grind (arith, nat_tests) in
          rw u (elim (cases_lt x.start f) [
            | inl starts ↦ let v : ltb x.start f ≡ true = grind (arith, nat_tests) in rw v (apart.0, starts, omega arith, above_apart low (f + 1) high (x ∷ xs) t apart (omega arith))
            | inr later ↦ let v : ltb x.start f ≡ false = grind (arith, nat_tests) in rw v (above_apart low low high (x ∷ xs) t apart (omega arith))
          ])
      | inr before ↦
          let u : leb x.end f ≡ true = grind (arith, nat_tests) in
          let v : leb x.end t ≡ true = grind (arith, nat_tests) in
          rw (u, v) (apart.0, apart.1, apart.2, cut_apart (x.end + 1) high xs f t apart.3 lt)
    ]

-- those that end at the place or before it stay
pub below_past : (xs : List Range) (f : ℕ) → below xs f ≡ take (number_ended xs f) xs ++ below (drop (number_ended xs f) xs) f
below_past [] f = refl
below_past (x ∷ xs) f =
    elim (cases_lt f x.end) [
      | inl past ↦ let u : leb x.end f ≡ false = grind (arith, nat_tests) in simp u
      | inr before ↦ let u : leb x.end f ≡ true = grind (arith, nat_tests) in rw (u, counted_on (number_ended xs f)) (ap (λ l. x ∷ l) (below_past xs f))
    ]

-- those go
pub above_past : (xs : List Range) (t : ℕ) → above xs t ≡ above (drop (number_ended xs t) xs) t
above_past [] t = refl
above_past (x ∷ xs) t =
    elim (cases_lt t x.end) [
      | inl past ↦ let u : leb x.end t ≡ false = grind (arith, nat_tests) in simp u
      | inr before ↦ let u : leb x.end t ≡ true = grind (arith, nat_tests) in rw (u, counted_on (number_ended xs t)) (above_past xs t)
    ]

-- what is left below, by the first range that ends beyond
pub below_at : (xs : List Range) (f n : ℕ) → n ≡ number_ended xs f → n < length xs → below xs f ≡ take n xs ++ (cond (ltb (get_or xs n nowhere).start f) (record { start = (get_or xs n nowhere).start; end = f } ∷ []) [])
below_at xs f n is lt =
    let past = counts_past xs f n nowhere is lt in
    let t : leb (get_or xs n nowhere).end f ≡ false = grind (arith, nat_tests) in
    below_past xs f ∙ subst (λ k. take k xs ++ below (drop k xs) f ≡ take n xs ++ below (drop n xs) f) is refl
    ∙ ap (λ l. take n xs ++ below l f) (drop_more xs n nowhere lt) ∙ simp t

pub below_all : (xs : List Range) (f n : ℕ) → n ≡ number_ended xs f → length xs ≤ n → below xs f ≡ take n xs ++ []
below_all xs f n is ends =
    below_past xs f ∙ subst (λ k. take k xs ++ below (drop k xs) f ≡ take n xs ++ below (drop n xs) f) is refl
    ∙ ap (λ l. take n xs ++ below l f) (drop_all n xs ends)

above_count : (xs : List Range) (t m : ℕ) → m ≡ number_ended xs t → above xs t ≡ above (drop m xs) t
above_count xs t m is = above_past xs t ∙ ap (λ k. above (drop k xs) t) (sym is)

-- what is left above, where the first range that ends beyond starts below: it is cut
pub above_cut : (xs : List Range) (t m : ℕ) → m ≡ number_ended xs t → m < length xs → (get_or xs m nowhere).start < t → above xs t ≡ record { start = t; end = (get_or xs m nowhere).end } ∷ drop (m + 1) xs
above_cut xs t m is lt starts =
    let past = counts_past xs t m nowhere is lt in
    let u : leb (get_or xs m nowhere).end t ≡ false = grind (arith, nat_tests) in
    let most : max t (get_or xs m nowhere).start ≡ t = omega arith in
    above_count xs t m is ∙ ap (λ l. above l t) (drop_more xs m nowhere lt) ∙ simp (u, most)

-- and where it starts there or beyond: all stays
pub above_whole : (xs : List Range) (t m : ℕ) → m ≡ number_ended xs t → (m < length xs → t ≤ (get_or xs m nowhere).start) → above xs t ≡ drop m xs
above_whole xs t m is starts = elim (cases_lt m (length xs)) [
  | inl lt ↦
      let past = counts_past xs t m nowhere is lt in
      let u : leb (get_or xs m nowhere).end t ≡ false = grind (arith, nat_tests) in
      let most : max t (get_or xs m nowhere).start ≡ (get_or xs m nowhere).start = omega (arith, starts lt) in
      above_count xs t m is ∙ ap (λ l. above l t) (drop_more xs m nowhere lt) ∙ (simp (u, most)) ∙ sym (drop_more xs m nowhere lt)
  | inr ends ↦ above_count xs t m is ∙ ap (λ l. above l t) (drop_all m xs ends) ∙ sym (drop_all m xs ends)
]

-- nothing of the first range that ends beyond is left where it starts there or beyond
pub below_none : (xs : List Range) (f n : ℕ) → n ≡ number_ended xs f → (n < length xs → f ≤ (get_or xs n nowhere).start) → below xs f ≡ take n xs ++ []
below_none xs f n is starts = elim (cases_lt n (length xs)) [
  | inl lt ↦
      let later = starts lt in
      let t : ltb (get_or xs n nowhere).start f ≡ false = grind (arith, nat_tests) in
      below_at xs f n is lt ∙ (simp t)
  | inr ends ↦ below_all xs f n is ends
]

-- two parts are kept at most, and two only where both have a place
pub kept_two : (front back : Range) → length (parts_left front back) ≤ 2
kept_two front back = grind (arith, nat_tests)

pub kept_both : (front back : Range) → 1 < length (parts_left front back) → (front.start < front.end) × (back.start < back.end)
kept_both front back two = (grind (arith, nat_tests), grind (arith, nat_tests))

-- a number that is 0 where the part has a place, and else 1
abbrev pub TellsPart : Range → ℕ → Type 0
TellsPart part n =
    ((n ≡ 0) × (ltb part.start part.end ≡ true)) ⊎ ((n ≡ 1) × (ltb part.start part.end ≡ false))

pub tells_part : (part : Range) (empty : Bool) (n : ℕ) → n ≡ bool_byte empty → IsTrue empty ↔ (part.end ≤ part.start) → TellsPart part n
tells_part part true n is tells = let none = tells.0 refl in inr (is, grind (arith, nat_tests))
tells_part part false n is tells =
    elim (cases_lt part.start part.end) [
      | inl some ↦ inl (is, grind (arith, nat_tests))
      | inr none ↦ absurd (false≢true (tells.1 none))
    ]

-- the parts that have a place
pub parts_kept : (front back : Range) (m n : ℕ) → TellsPart front m → TellsPart back n → take (2 - n - m) (drop m (front ∷ back ∷ [])) ≡ parts_left front back
parts_kept front back m n (inl f) (inl b) = rw (f.0, b.0, f.1, b.1) refl
parts_kept front back m n (inl f) (inr b) = rw (f.0, b.0, f.1, b.1) refl
parts_kept front back m n (inr f) (inl b) = rw (f.0, b.0, f.1, b.1) refl
parts_kept front back m n (inr f) (inr b) = rw (f.0, b.0, f.1, b.1) refl
