-- Counts and sums below a number, and the measure of a drain.
use Rattle.std.proofs.Common.{◌≡◌, ◌≢◌, ℕ, zero, suc, ◌+◌, ◌*◌, ◌<◌, ◌≤◌, Bool, true, false, cond, ◌||◌, refl, sym, ◌∙◌, ap, subst, arith, inl, inr, mul-le-mul, List, [], ◌∷◌, length, get_or}
use Rattle.std.proofs.lemmas.Bool.{cases_Bool, cases_eq, cases_lt, false≢true, cond-true, cond-false}
use Rattle.std.specs.List.{count_by}
use Rattle.std.proofs.lemmas.List.Sums.{sum_by-cons}
use Rattle.rlc_rest.specs.Rest.{one_if, count_below, sum_below}

-- a test that implies another counts no more
one_le : (b c : Bool) → (b ≡ true → c ≡ true) → cond b 1 0 ≤ cond c 1 0
one_le false c h = omega arith
one_le true c h = subst (λ (c : Bool). 1 ≤ cond c 1 0) (sym (h refl)) (omega arith)

-- so do counts of such tests
pub count_le : (f g : ℕ → Bool) (k : ℕ) → ((p : ℕ) → p < k → f p ≡ true → g p ≡ true) → count_below f k ≤ count_below g k
count_le f g zero h = omega arith
count_le f g (suc k) h = omega (arith, one_le (f k) (g k) (h k (omega arith)), count_le f g k (λ p lt. h p (omega arith)))

-- and less where they differ
pub count_lt : (f g : ℕ → Bool) (k p : ℕ) → ((p : ℕ) → p < k → f p ≡ true → g p ≡ true) → p < k → f p ≡ false → g p ≡ true → count_below f k < count_below g k
count_lt f g zero p h lt no_f yes_g = absurd (omega arith)
count_lt f g (suc k) p h lt no_f yes_g = elim (cases_eq p k) [
  | inl e ↦
      let fk : one_if (f k) ≡ 0 = cond-false (f k) 1 0 (ap f (sym e) ∙ no_f) in
      let gk : one_if (g k) ≡ 1 = cond-true (g k) 1 0 (ap g (sym e) ∙ yes_g) in
      omega (arith, fk, gk, count_le f g k (λ q lq. h q (omega arith)))
  | inr ne ↦ omega (arith, one_le (f k) (g k) (h k (omega arith)), count_lt f g k p (λ q lq. h q (omega arith)) (omega arith) no_f yes_g)
]

-- tests that pass alike count alike
pub count_same : (f g : ℕ → Bool) (k : ℕ) → ((n : ℕ) → n < k → f n ≡ g n) → count_below f k ≡ count_below g k
count_same f g zero same = refl
count_same f g (suc k) same = omega (arith, ap {B = ℕ} one_if (same k (omega arith)), count_same f g k (λ n lt. same n (omega arith)))

-- one less passes where one doesn't pass any more
pub count_less : (f g : ℕ → Bool) (k m : ℕ) → m < k → f m ≡ false → g m ≡ true → ((n : ℕ) → n ≢ m → f n ≡ g n) → count_below f k + 1 ≡ count_below g k
count_less f g zero m lt no_f yes_g same = absurd (omega (arith, lt))
count_less f g (suc k) m lt no_f yes_g same = elim (cases_eq m k) [
  | inl e ↦
      let f_k : one_if (f k) ≡ 0 = ap {B = ℕ} one_if (sym (ap f e) ∙ no_f) in
      let g_k : one_if (g k) ≡ 1 = ap {B = ℕ} one_if (sym (ap g e) ∙ yes_g) in
      omega (arith, f_k, g_k, count_same f g k (λ n below. same n (omega (arith, e, below))))
  | inr ne ↦ omega (arith, ap {B = ℕ} one_if (same k (omega (arith, ne))), count_less f g k m (omega (arith, lt, ne)) no_f yes_g same)
]

-- a count below k is at most k
pub count_all : (f : ℕ → Bool) (k : ℕ) → count_below f k ≤ k
count_all f zero = omega arith
count_all f (suc k) = omega (arith, one_le (f k) true (λ e. refl), count_all f k)

-- more that passes one of two tests that exclude each other and imply a third
pub count_two : (f g u : ℕ → Bool) (k : ℕ) → ((p : ℕ) → p < k → f p ≡ true → u p ≡ true) → ((p : ℕ) → p < k → g p ≡ true → u p ≡ true) → ((p : ℕ) → p < k → f p ≡ true → g p ≡ false) → count_below f k + count_below g k ≤ count_below u k
count_two f g u zero a b c = omega arith
count_two f g u (suc k) a b c =
    let rest = count_two f g u k (λ p lt. a p (omega arith)) (λ p lt. b p (omega arith)) (λ p lt. c p (omega arith)) in
    elim (cases_Bool (f k)) [
      | inl fk ↦
          let gk : one_if (g k) ≡ 0 = cond-false (g k) 1 0 (c k (omega arith) fk) in
          omega (arith, one_le (f k) (u k) (a k (omega arith)), gk, rest)
      | inr fk ↦
          let z : one_if (f k) ≡ 0 = cond-false (f k) 1 0 fk in
          omega (arith, one_le (g k) (u k) (b k (omega arith)), z, rest)
    ]

-- smaller numbers have a smaller sum
pub sum_le : (f g : ℕ → ℕ) (k : ℕ) → ((n : ℕ) → n < k → f n ≤ g n) → sum_below f k ≤ sum_below g k
sum_le f g zero h = omega arith
sum_le f g (suc k) h = omega (arith, h k (omega arith), sum_le f g k (λ n lt. h n (omega arith)))

-- a sum is less where one number is
pub sum_lt : (f g : ℕ → ℕ) (k m : ℕ) → ((n : ℕ) → n < k → f n ≤ g n) → m < k → f m < g m → sum_below f k < sum_below g k
sum_lt f g zero m h lt less = absurd (omega arith)
sum_lt f g (suc k) m h lt less = elim (cases_eq m k) [
  | inl e ↦ omega (arith, subst (λ (k : ℕ). f k < g k) e less, sum_le f g k (λ n ln. h n (omega arith)))
  | inr ne ↦ omega (arith, h k (omega arith), sum_lt f g k m (λ n ln. h n (omega arith)) (omega arith) less)
]

-- at most one number has more, and by at most c
pub sum_one : (f g : ℕ → ℕ) (k m c : ℕ) → ((n : ℕ) → n < k → (n ≡ m → ⊥) → f n ≤ g n) → f m ≤ g m + c → sum_below f k ≤ sum_below g k + c
sum_one f g zero m c h one = omega arith
sum_one f g (suc k) m c h one = elim (cases_eq k m) [
  | inl e ↦ omega (arith, subst (λ (m : ℕ). f m ≤ g m + c) (sym e) one, sum_le f g k (λ n ln. h n (omega arith) (omega arith)))
  | inr ne ↦ omega (arith, h k (omega arith) ne, sum_one f g k m c (λ n ln. h n (omega arith)) one)
]

-- some number has one that passes
pub sum_some : (f : ℕ → ℕ) (k m : ℕ) → m < k → 0 < f m → 0 < sum_below f k
sum_some f zero m lt some = absurd (omega arith)
sum_some f (suc k) m lt some = elim (cases_eq m k) [
  | inl e ↦ omega (arith, subst (λ (k : ℕ). 0 < f k) e some)
  | inr ne ↦ omega (arith, sum_some f k m (omega arith) some)
]

-- a sum that isn't 0 has such a number
pub some_sum : (f : ℕ → ℕ) (k : ℕ) → 0 < sum_below f k → (m : ℕ) × (m < k) × (0 < f m)
some_sum f zero some = absurd (omega arith)
some_sum f (suc k) some = elim (cases_lt 0 (f k)) [
  | inl here ↦ (k, omega arith, here)
  | inr none ↦ let m = some_sum f k (omega arith) in (m.0, omega (arith, m.1), m.2)
]

-- a count is above 0 where a number passes
pub count_some : (f : ℕ → Bool) (k p : ℕ) → p < k → f p ≡ true → 0 < count_below f k
count_some f k p lt is = omega (arith, count_lt (λ q. false) f k p (λ q lq e. absurd (false≢true e)) lt refl is)

-- and then one passes
pub some_count : (f : ℕ → Bool) (k : ℕ) → 0 < count_below f k → (p : ℕ) × (p < k) × (f p ≡ true)
some_count f zero some = absurd (omega arith)
some_count f (suc k) some = elim (cases_Bool (f k)) [
  | inl here ↦ (k, omega arith, here)
  | inr none ↦
      let z : one_if (f k) ≡ 0 = cond-false (f k) 1 0 none in
      let p = some_count f k (omega arith) in (p.0, omega (arith, p.1), p.2)
]

-- the two ways in which the measure falls
pub major_falls : (l l' b b' m m' : ℕ) → l' < l → b' ≤ b → m' < b' → l' * b' + m' < l * b + m
major_falls l l' b b' m m' lt le small =
    let step : (l' + 1) * b' ≤ l * b = mul-le-mul (omega arith) le in
    omega arith

pub minor_falls : (l l' b b' m m' : ℕ) → l' ≤ l → b' ≤ b → m' < m → l' * b' + m' < l * b + m
minor_falls l l' b b' m m' lt le small =
    let step : l' * b' ≤ l * b = mul-le-mul lt le in
    omega arith

-- two sums are at most a third where their numbers are
pub sum_two : (f g u : ℕ → ℕ) (k : ℕ) → ((n : ℕ) → n < k → f n + g n ≤ u n) → sum_below f k + sum_below g k ≤ sum_below u k
sum_two f g u zero h = omega arith
sum_two f g u (suc k) h = omega (arith, h k (omega arith), sum_two f g u k (λ n lt. h n (omega arith)))

-- and the other way
pub sum_both : (f g u : ℕ → ℕ) (k : ℕ) → ((n : ℕ) → n < k → u n ≤ f n + g n) → sum_below u k ≤ sum_below f k + sum_below g k
sum_both f g u zero h = omega arith
sum_both f g u (suc k) h = omega (arith, h k (omega arith), sum_both f g u k (λ n lt. h n (omega arith)))

-- what passes one of two tests
pub count_both : (f g : ℕ → Bool) (k : ℕ) → count_below (λ p. f p || g p) k ≤ count_below f k + count_below g k
count_both f g zero = omega arith
count_both f g (suc k) = omega (arith, one_or (f k) (g k), count_both f g k)
  where
    one_or : (b c : Bool) → one_if (b || c) ≤ one_if b + one_if c
    one_or true c = omega arith
    one_or false c = omega arith

-- a sum begins with its first number
sum_first : (f : ℕ → ℕ) (k : ℕ) → sum_below f (suc k) ≡ f 0 + sum_below (λ n. f (suc n)) k
sum_first f zero = omega arith
sum_first f (suc k) = omega (arith, sum_first f k)

-- how many elements of a list pass, counted by their places
pub count_sum : {X : Type 0} (p : X → Bool) (d : X) (xs : List X) → count_by p xs ≡ sum_below (λ n. one_if (p (get_or xs n d))) (length xs)
count_sum p d [] = refl
count_sum p d (x ∷ xs) = omega (arith, sum_by-cons (λ y. cond (p y) 1 0) x xs, count_sum p d xs, sum_first (λ n. one_if (p (get_or (x ∷ xs) n d))) (length xs))
