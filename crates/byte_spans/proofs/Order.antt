-- Ranges in order.
use Rattle.std.proofs.Common.{◌≡◌, ℕ, ◌+◌, ◌<◌, ◌≤◌, zero, suc, false, List, [], ◌∷◌, ◌++◌, ◌||◌, length, get_or, arith, refl}
use Rattle.std.specs.List.Sorted.{IsNonDecreasingBy}
use Rattle.std.proofs.lemmas.Bool.Decides.{nat_tests}
use Rattle.byte_spans.specs.declared.ranges.Range.{Range}
use Rattle.byte_spans.specs.Ranges.{in_one, AreApart}

-- stands where a list has no range
abbrev pub nowhere : Range
nowhere = record { start = 0; end = 0 }

-- each range lies within the bounds
pub within : (low high : ℕ) (xs : List Range) → AreApart low xs high → (k : ℕ) (d : Range) → k < length xs → (low ≤ (get_or xs k d).start) × ((get_or xs k d).start < (get_or xs k d).end) × ((get_or xs k d).end ≤ high)
within low high [] apart k d lt = absurd (omega arith)
within low high (x ∷ xs) apart zero d lt = (apart.0, apart.1, apart.2)
within low high (x ∷ xs) apart (suc k) d lt =
    let rest = within (x.end + 1) high xs apart.3 k d (omega arith) in
    (omega arith, rest.1, rest.2)

-- the ends rise
pub ends_rise : (low high : ℕ) (xs : List Range) → AreApart low xs high → IsNonDecreasingBy (λ (x : Range). x.end) xs
ends_rise low high [] apart i j d le lt = absurd (omega arith)
ends_rise low high (x ∷ xs) apart zero zero d le lt = omega arith
ends_rise low high (x ∷ xs) apart zero (suc j) d le lt = let rest = within (x.end + 1) high xs apart.3 j d (omega arith) in omega arith
ends_rise low high (x ∷ xs) apart (suc i) zero d le lt = absurd (omega arith)
ends_rise low high (x ∷ xs) apart (suc i) (suc j) d le lt = ends_rise (x.end + 1) high xs apart.3 i j d (omega arith) (omega arith)

-- below the lower bound no range has a place
pub none_below : (low high : ℕ) (xs : List Range) → AreApart low xs high → (p : ℕ) → p < low → in_one xs p ≡ false
none_below low high [] apart p lt = refl
none_below low high (x ∷ xs) apart p lt = let rest = none_below (x.end + 1) high xs apart.3 p (omega arith) in grind (arith, nat_tests)

-- nor from the upper bound on
pub none_above : (low high : ℕ) (xs : List Range) → AreApart low xs high → (p : ℕ) → high ≤ p → in_one xs p ≡ false
none_above low high [] apart p le = refl
none_above low high (x ∷ xs) apart p le = let rest = none_above (x.end + 1) high xs apart.3 p le in grind (arith, nat_tests)

-- a lower bound may be lower still
pub loosened : (low lower high : ℕ) (xs : List Range) → lower ≤ low → AreApart low xs high → AreApart lower xs high
loosened low lower high [] le apart = tt
loosened low lower high (x ∷ xs) le apart = (omega arith, apart.1, apart.2, apart.3)

-- a place is in a range of two lists where it is in one of either
pub in_append : (xs ys : List Range) (p : ℕ) → in_one (xs ++ ys) p ≡ (in_one xs p || in_one ys p)
in_append [] ys p = refl
in_append (x ∷ xs) ys p = let rest = in_append xs ys p in grind (arith, nat_tests)

-- one more, as a count over a list has it
pub counted_on : (n : ℕ) → 1 + n ≡ suc n
counted_on n = omega arith
