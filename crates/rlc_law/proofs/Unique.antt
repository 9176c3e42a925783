-- First numbers, first runs and rising lists are determined.
use Rattle.std.proofs.Common.{◌≡◌, inl, inr, ℕ, zero, suc, ◌+◌, ◌<◌, Bool, true, false, List, [], ◌∷◌, length, get_or, refl, sym, ◌∙◌, ap, subst, arith}
use Rattle.std.specs.List.{Contains, prefix_len}
use Rattle.std.specs.List.Sorted.{IsStrictlyIncreasing}
use Rattle.std.proofs.lemmas.Bool.{cases_order, false≢true}
use Rattle.std.proofs.lemmas.List.{get_or_default}
use Rattle.std.proofs.lemmas.List.Sums.{prefix_len_is, prefix_len_passes, prefix_len_stops, prefix_len-le-length}
use Rattle.rlc_model.specs.Numbers.{IsFirst, IsFirstRun}
use Rattle.rlc_law.proofs.Lists.{contains_nil, contains_here, contains_later, contains_cases}

-- there is one first number
pub first_one : (P : ℕ → Type 0) (x y z : ℕ) → IsFirst P x y → IsFirst P x z → y ≡ z
first_one P x y z f g = elim (cases_order y z) [
  | inl e ↦ e
  | inr (inl lt) ↦ absurd (g.none y f.from lt f.has)
  | inr (inr gt) ↦ absurd (f.none z g.from gt g.has)
]

-- tests that pass together are the same
pub bool_iff : (b c : Bool) → (b ≡ true → c ≡ true) → (c ≡ true → b ≡ true) → b ≡ c
bool_iff true c f g = sym (f refl)
bool_iff false true f g = g refl
bool_iff false false f g = refl

-- there is one first run
pub run_one : (flags : List Bool) (a b c d : ℕ) → IsFirstRun flags a b → IsFirstRun flags c d → (a ≡ c) × (b ≡ d)
run_one flags a b c d f g = (starts, ends)
  where
    starts : a ≡ c
    starts = elim (cases_order a c) [
      | inl e ↦ e
      | inr (inl lt) ↦ absurd (false≢true (sym (g.before a lt) ∙ f.run a (omega arith) f.some))
      | inr (inr gt) ↦ absurd (false≢true (sym (f.before c gt) ∙ g.run c (omega arith) g.some))
    ]

    ends : b ≡ d
    ends = elim (cases_order b d) [
      | inl e ↦ e
      | inr (inl lt) ↦ absurd (false≢true (sym f.stops ∙ g.run b (omega (arith, starts, f.some)) lt))
      | inr (inr gt) ↦ absurd (false≢true (sym g.stops ∙ f.run d (omega (arith, starts, g.some)) gt))
    ]

-- fronts of lists as long that pass and fail at the same places
pub same_prefix : {X Y : Type 0} (f : X → Bool) (g : Y → Bool) (xs : List X) (ys : List Y) (d : X) (e : Y) → length xs ≡ length ys → ((n : ℕ) → f (get_or xs n d) ≡ g (get_or ys n e)) → prefix_len f xs ≡ prefix_len g ys
same_prefix f g xs ys d e long same = prefix_len_is f xs (prefix_len g ys) d
    (omega (arith, long, prefix_len-le-length g ys))
    (λ k lt. same k ∙ prefix_len_passes g ys k e lt)
    (λ lt. same (prefix_len g ys) ∙ prefix_len_stops g ys e (omega (arith, long)))

-- each element is below those behind it
abbrev Rising : List ℕ → Type 0
Rising [] = Unit {0}
Rising (x ∷ xs) = ((y : ℕ) → Contains xs y → x < y) × Rising xs

-- a rising list rises behind its first element
tail_rises : (x : ℕ) (xs : List ℕ) → IsStrictlyIncreasing (x ∷ xs) → IsStrictlyIncreasing xs
tail_rises x xs r k lt =
    let next : suc k + 1 ≡ suc (k + 1) = omega arith in
    subst (λ (i : ℕ). get_or xs k 0 < get_or (x ∷ xs) i 0) next (r (suc k) (omega (arith, lt)))

-- in a rising list each element is below all behind it
rising : (xs : List ℕ) → IsStrictlyIncreasing xs → Rising xs
rising [] r = tt
rising (x ∷ xs) r = (λ y c. above c.0 y c.1 c.2, rising xs (tail_rises x xs r))
  where
    at : (k : ℕ) → k < length xs → x < get_or xs k 0
    at zero lt = r 0 (omega (arith, lt))
    at (suc k) lt =
        let next : k + 1 ≡ suc k = omega arith in
        omega (arith, at k (omega (arith, lt)), tail_rises x xs r k (omega (arith, lt)), ap (λ (i : ℕ). get_or xs i 0) next)

    above : (k y : ℕ) → k < length xs → get_or xs k y ≡ y → x < y
    above k y lt e = omega (arith, at k lt, sym (get_or_default xs k y 0 lt) ∙ e)

-- each element of one list is one of the other
abbrev Within : List ℕ → List ℕ → Type 0
Within xs ys = (x : ℕ) → Contains xs x → Contains ys x

-- lists with the same elements, by their first ones
same_rising : (xs ys : List ℕ) → Rising xs → Rising ys → Within xs ys → Within ys xs → xs ≡ ys
same_rising [] [] r s f g = refl
same_rising [] (y ∷ ys) r s f g = absurd (contains_nil y (g y (contains_here y ys)))
same_rising (x ∷ xs) [] r s f g = absurd (contains_nil x (f x (contains_here x xs)))
same_rising (x ∷ xs) (y ∷ ys) r s f g = ap (λ (l : List ℕ). x ∷ l) (same_rising xs ys r.1 s.1 tail_in tail_back) ∙ ap (λ (n : ℕ). n ∷ ys) head
  where
    head : x ≡ y
    head = elim (contains_cases y ys x (f x (contains_here x xs))) [
      | inl e ↦ e
      | inr behind ↦ elim (contains_cases x xs y (g y (contains_here y ys))) [
        | inl e ↦ sym e
        | inr other ↦ absurd (omega (arith, s.0 x behind, r.0 y other))
      ]
    ]

    tail_in : Within xs ys
    tail_in z c = elim (contains_cases y ys z (f z (contains_later x xs z c))) [
      | inl e ↦ absurd (omega (arith, r.0 z c, head, e))
      | inr there ↦ there
    ]

    tail_back : Within ys xs
    tail_back z c = elim (contains_cases x xs z (g z (contains_later y ys z c))) [
      | inl e ↦ absurd (omega (arith, s.0 z c, head, e))
      | inr there ↦ there
    ]

-- rising lists with the same elements are the same
pub rising_one : (xs ys : List ℕ) → IsStrictlyIncreasing xs → IsStrictlyIncreasing ys → ((x : ℕ) → Contains xs x → Contains ys x) → ((x : ℕ) → Contains ys x → Contains xs x) → xs ≡ ys
rising_one xs ys r s f g = same_rising xs ys (rising xs r) (rising ys s) f g
