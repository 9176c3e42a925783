-- How many ranges end at a place or before it.
use Rattle.std.proofs.Common.{◌≡◌, ℕ, ◌+◌, ◌-◌, ◌<◌, ◌≤◌, zero, suc, true, false, ◌&&◌, ◌||◌, List, [], ◌∷◌, length, get_or, drop, leb, ltb, arith, refl, sym, ap, ◌∙◌, subst, inl, inr}
use Rattle.std.proofs.lemmas.Bool.{cases_lt}
use Rattle.std.proofs.lemmas.Bool.Decides.{nat_tests}
use Rattle.std.proofs.lemmas.List.{drop_more, drop_all}
use Rattle.std.proofs.lemmas.List.Sums.{prefix_len_is, prefix_len_stops, prefix_len-le-length}
use Rattle.byte_spans.specs.declared.ranges.Range.{Range}
use Rattle.byte_spans.specs.Ranges.{in_one, AreApart, number_ended}
use Rattle.byte_spans.proofs.Order.{ends_rise, counted_on}

-- the range before the number ends by the place, and the one at it beyond
pub counts : (low high : ℕ) (xs : List Range) → AreApart low xs high → (place n : ℕ) (d : Range) → n ≤ length xs → (0 < n → (get_or xs (n - 1) d).end ≤ place) → (n < length xs → place < (get_or xs n d).end) → n ≡ number_ended xs place
counts low high xs apart place n d le before at =
    sym (prefix_len_is (λ x. leb x.end place) xs n d le
    (λ k lt. let rises = ends_rise low high xs apart k (n - 1) d (omega arith) (omega arith) in let last = before (omega arith) in grind (arith, nat_tests))
    (λ lt. let past = at lt in grind (arith, nat_tests)))

-- no more are counted than there are
pub counts_within : (xs : List Range) (place n : ℕ) → n ≡ number_ended xs place → n ≤ length xs
counts_within xs place n is = omega (arith, is, prefix_len-le-length (λ x. leb x.end place) xs)

past_counted : (xs : List Range) (place : ℕ) (d : Range) → number_ended xs place < length xs → place < (get_or xs (number_ended xs place) d).end
past_counted xs place d lt = let stops = prefix_len_stops (λ x. leb x.end place) xs d lt in grind (arith, nat_tests)

-- the first that is not counted ends beyond the place
pub counts_past : (xs : List Range) (place n : ℕ) (d : Range) → n ≡ number_ended xs place → n < length xs → place < (get_or xs n d).end
counts_past xs place n d is = subst (λ k. k < length xs → place < (get_or xs k d).end) (sym is) (past_counted xs place d)

-- a later place counts no fewer
rises : (xs : List Range) (f t : ℕ) → f ≤ t → number_ended xs f ≤ number_ended xs t
rises [] f t le = omega arith
rises (x ∷ xs) f t le = let rest = rises xs f t le in grind (arith, nat_tests)

pub counts_rise : (xs : List Range) (f t m n : ℕ) → m ≡ number_ended xs f → n ≡ number_ended xs t → f < t → m ≤ n
counts_rise xs f t m n first second lt = omega (arith, first, second, rises xs f t (omega arith))

counted : (xs : List Range) (f p : ℕ) → f ≤ p → in_one xs p ≡ in_one (drop (number_ended xs f) xs) p
counted [] f p le = refl
counted (x ∷ xs) f p le =
    elim (cases_lt f x.end) [
      | inl past ↦ let u : leb x.end f ≡ false = grind (arith, nat_tests) in simp u
      | inr before ↦
          let u : leb x.end f ≡ true = grind (arith, nat_tests) in
          let v : ltb p x.end ≡ false = grind (arith, nat_tests) in
          let rest = counted xs f p le in
          rw (u, counted_on (number_ended xs f)) (grind (arith, nat_tests))
    ]

-- those counted have no place from there on
pub none_counted : (xs : List Range) (f n p : ℕ) → n ≡ number_ended xs f → f ≤ p → in_one xs p ≡ in_one (drop n xs) p
none_counted xs f n p is le = counted xs f p le ∙ ap (λ k. in_one (drop k xs) p) (sym is)

-- from one range on
pub apart_from : (low high : ℕ) (xs : List Range) → AreApart low xs high → (k : ℕ) (d : Range) → k < length xs → AreApart (get_or xs k d).start (drop k xs) high
apart_from low high [] apart k d lt = absurd (omega arith)
apart_from low high (x ∷ xs) apart zero d lt = (omega arith, apart.1, apart.2, apart.3)
apart_from low high (x ∷ xs) apart (suc k) d lt = apart_from (x.end + 1) high xs apart.3 k d (omega arith)

-- the same, with the first in front
split : (low high : ℕ) (xs : List Range) (k : ℕ) (d : Range) → AreApart low (drop k xs) high → k < length xs → AreApart low (get_or xs k d ∷ drop (k + 1) xs) high
split low high xs k d apart lt = subst (λ l. AreApart low l high) (drop_more xs k d lt) apart

-- and behind it
pub apart_behind : (low high : ℕ) (xs : List Range) → AreApart low xs high → (k : ℕ) (d : Range) → k < length xs → AreApart ((get_or xs k d).end + 1) (drop (k + 1) xs) high
apart_behind low high xs apart k d lt =
    let here = split (get_or xs k d).start high xs k d (apart_from low high xs apart k d lt) lt in
    here.3

-- the places from a range on are its own and those behind it
pub in_from : (xs : List Range) (k : ℕ) (d : Range) (p : ℕ) → k < length xs → in_one (drop k xs) p ≡ ((leb (get_or xs k d).start p && ltb p (get_or xs k d).end) || in_one (drop (k + 1) xs) p)
in_from xs k d p lt = ap (λ l. in_one l p) (drop_more xs k d lt)

-- the bound from one range on holds of it
pub low_from : (low high : ℕ) (xs : List Range) (k : ℕ) (d : Range) → AreApart low (drop k xs) high → k < length xs → (low ≤ (get_or xs k d).start) × ((get_or xs k d).start < (get_or xs k d).end)
low_from low high xs k d apart lt = let here = split low high xs k d apart lt in (here.0, here.1)

-- where no range is left, no place is
pub none_from : (xs : List Range) (k p : ℕ) → length xs ≤ k → in_one (drop k xs) p ≡ false
none_from xs k p le = ap (λ l. in_one l p) (drop_all k xs le)

pub apart_none : (low high : ℕ) (xs : List Range) (k : ℕ) → length xs ≤ k → AreApart low (drop k xs) high
apart_none low high xs k le = subst (λ l. AreApart low l high) (sym (drop_all k xs le)) tt

-- a place of one range is in one
pub in_range : (xs : List Range) (k : ℕ) (d : Range) (p : ℕ) → k < length xs → (get_or xs k d).start ≤ p → p < (get_or xs k d).end → in_one xs p ≡ true
in_range [] k d p lt le end = absurd (omega arith)
in_range (x ∷ xs) zero d p lt le end = grind (arith, nat_tests)
in_range (x ∷ xs) (suc k) d p lt le end = let rest = in_range xs k d p (omega arith) le end in grind (arith, nat_tests)
