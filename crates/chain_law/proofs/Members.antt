-- What is in a list: in two lists together, among what was picked or made, and where a test says so.
use Rattle.std.proofs.Common.{◌≡◌, ◌⊎◌, inl, inr, ℕ, zero, suc, Bool, true, false, cond, nat_lt, ◌||◌, List, [], ◌∷◌, ◌++◌, map, filter, flat_map, find, Some, None, refl, sym, ◌∙◌, ap, arith}
use Rattle.std.specs.Prelude.{Contains}
use Rattle.std.specs.List.{list_any, list_all, slice_get}
use Rattle.std.proofs.lemmas.Bool.{cases_Bool, and_parts, cond-true, cond-false, or_parts, or_left, or_right, false≢true}
use Rattle.std.proofs.lemmas.Option.{none-some, same_Some}
use Rattle.bearer_map.specs.Order.{in_order}

-- the item is in the list
abbrev pub IsIn : {T : Type 0} → List T → T → Type 0
IsIn [] x = ⊥
IsIn (y ∷ ys) x = (y ≡ x) ⊎ IsIn ys x

pub contained : {T : Type 0} (xs : List T) (x : T) → Contains xs x → IsIn xs x
contained [] x (k, lt, e) = absurd (omega (arith, lt))
contained (y ∷ ys) x (zero, lt, e) = inl e
contained (y ∷ ys) x (suc k, lt, e) = inr (contained ys x (k, omega (arith, lt), e))

pub contains : {T : Type 0} (xs : List T) (x : T) → IsIn xs x → Contains xs x
contains [] x i = absurd i
contains (y ∷ ys) x (inl e) = (zero, omega arith, e)
contains (y ∷ ys) x (inr i) = let m = contains ys x i in (suc m.0, omega (arith, m.1), m.2)

-- what is found, or read at a place
pub found_in : {T : Type 0} (test : T → Bool) (xs : List T) (x : T) → find test xs ≡ Some x → IsIn xs x
found_in test [] x e = absurd (none-some x e)
found_in test (y ∷ ys) x e = elim (cases_Bool (test y)) [
  | inl p ↦ inl (same_Some y x (sym (cond-true (test y) (Some y) (find test ys) p) ∙ e))
  | inr f ↦ inr (found_in test ys x (sym (cond-false (test y) (Some y) (find test ys) f) ∙ e))
]

pub get_in : {T : Type 0} (xs : List T) (k : ℕ) (x : T) → slice_get xs k ≡ Some x → IsIn xs x
get_in [] k x e = absurd (none-some x e)
get_in (y ∷ ys) zero x e = inl (same_Some y x e)
get_in (y ∷ ys) (suc k) x e = inr (get_in ys k x e)

-- of two lists together
pub in_two : {T : Type 0} (xs ys : List T) (x : T) → IsIn (xs ++ ys) x → IsIn xs x ⊎ IsIn ys x
in_two [] ys x i = inr i
in_two (y ∷ xs) ys x (inl e) = inl (inl e)
in_two (y ∷ xs) ys x (inr i) = elim (in_two xs ys x i) [ inl first ↦ inl (inr first) | inr second ↦ inr second ]

pub in_first : {T : Type 0} (xs ys : List T) (x : T) → IsIn xs x → IsIn (xs ++ ys) x
in_first [] ys x i = absurd i
in_first (y ∷ xs) ys x (inl e) = inl e
in_first (y ∷ xs) ys x (inr i) = inr (in_first xs ys x i)

pub in_second : {T : Type 0} (xs ys : List T) (x : T) → IsIn ys x → IsIn (xs ++ ys) x
in_second [] ys x i = i
in_second (y ∷ xs) ys x i = inr (in_second xs ys x i)

-- of what was picked
pub in_picked : {T : Type 0} (picks : T → Bool) (xs : List T) (x : T) → IsIn (filter picks xs) x → IsIn xs x × (picks x ≡ true)
in_picked picks [] x i = absurd i
in_picked {T} picks (y ∷ xs) x i = by (in_picked picks xs x) (picks y) refl i
  where
    by : (IsIn (filter picks xs) x → IsIn xs x × (picks x ≡ true)) → (b : Bool) → picks y ≡ b → IsIn (cond b (y ∷ filter picks xs) (filter picks xs)) x
        → IsIn (y ∷ xs) x × (picks x ≡ true)
    by more true is (inl e) = (inl e, ap picks (sym e) ∙ is)
    by more true is (inr i) = let m = more i in (inr m.0, m.1)
    by more false is i = let m = more i in (inr m.0, m.1)

-- of what was made
pub in_made : {X T : Type 0} (make : X → T) (xs : List X) (y : T) → IsIn (map make xs) y → (x : X) × IsIn xs x × (make x ≡ y)
in_made make [] y i = absurd i
in_made make (x ∷ xs) y (inl e) = (x, inl refl, e)
in_made make (x ∷ xs) y (inr i) = let m = in_made make xs y i in (m.0, inr m.1, m.2)

pub made_in : {X T : Type 0} (make : X → T) (xs : List X) (x : X) → IsIn xs x → IsIn (map make xs) (make x)
made_in make [] x i = absurd i
made_in make (y ∷ xs) x (inl e) = inl (ap make e)
made_in make (y ∷ xs) x (inr i) = inr (made_in make xs x i)

pub in_many : {X T : Type 0} (make : X → List T) (xs : List X) (y : T) → IsIn (flat_map make xs) y → (x : X) × IsIn xs x × IsIn (make x) y
in_many make [] y i = absurd i
in_many make (x ∷ xs) y i = elim (in_two (make x) (flat_map make xs) y i) [
  | inl here ↦ (x, inl refl, here)
  | inr there ↦ let m = in_many make xs y there in (m.0, inr m.1, m.2)
]

-- of rows and one more
pub in_more : {T : Type 0} (rank : T → ℕ) (row : T) (rows : List T) (x : T) → IsIn (in_order rank row rows) x → (row ≡ x) ⊎ IsIn rows x
in_more rank row [] x i = i
in_more {T} rank row (r ∷ rows) x i = by (in_more rank row rows x) (nat_lt (rank row) (rank r)) i
  where
    by : (IsIn (in_order rank row rows) x → (row ≡ x) ⊎ IsIn rows x) → (b : Bool) → IsIn (cond b (row ∷ r ∷ rows) (r ∷ in_order rank row rows)) x → (row ≡ x) ⊎ IsIn (r ∷ rows) x
    by more true i = i
    by more false (inl e) = inr (inl e)
    by more false (inr i) = elim (more i) [ inl new ↦ inl new | inr old ↦ inr (inr old) ]

-- where none passes a test, or none is found by it
pub none_passes : {T : Type 0} (test : T → Bool) (xs : List T) (x : T) → list_any test xs ≡ false → IsIn xs x → test x ≡ false
none_passes test [] x none i = absurd i
none_passes test (y ∷ xs) x none (inl e) = ap test (sym e) ∙ (or_parts (test y) (list_any test xs) none).0
none_passes test (y ∷ xs) x none (inr i) = none_passes test xs x (or_parts (test y) (list_any test xs) none).1 i

pub none_found : {T : Type 0} (test : T → Bool) (xs : List T) (x : T) → find test xs ≡ None → IsIn xs x → test x ≡ false
none_found test [] x none i = absurd i
none_found {T} test (y ∷ xs) x none i = elim (cases_Bool (test y)) [
  | inl p ↦ absurd (none-some y (sym none ∙ cond-true (test y) (Some y) (find test xs) p))
  | inr f ↦ either f (none_found test xs x (sym (cond-false (test y) (Some y) (find test xs) f) ∙ none)) i
]
  where
    either : test y ≡ false → (IsIn xs x → test x ≡ false) → IsIn (y ∷ xs) x → test x ≡ false
    either f more (inl e) = ap test (sym e) ∙ f
    either f more (inr i) = more i

-- where all pass a test
pub all_pass : {T : Type 0} (test : T → Bool) (xs : List T) (x : T) → list_all test xs ≡ true → IsIn xs x → test x ≡ true
all_pass test [] x all i = absurd i
all_pass test (y ∷ ys) x all (inl e) = ap test (sym e) ∙ (and_parts (test y) (list_all test ys) all).0
all_pass test (y ∷ ys) x all (inr i) = all_pass test ys x (and_parts (test y) (list_all test ys) all).1 i

-- where one is found by a test, one passes it, and the other way about
pub found_any : {T : Type 0} (test : T → Bool) (xs : List T) (x : T) → find test xs ≡ Some x → list_any test xs ≡ true
found_any test [] x e = absurd (none-some x e)
found_any test (y ∷ ys) x e = elim (cases_Bool (test y)) [
  | inl p ↦ or_left (test y) (list_any test ys) p
  | inr f ↦ or_right (test y) (list_any test ys) (found_any test ys x (sym (cond-false (test y) (Some y) (find test ys) f) ∙ e))
]

pub any_found : {T : Type 0} (test : T → Bool) (xs : List T) → list_any test xs ≡ true → (x : T) × (find test xs ≡ Some x)
any_found test [] some = absurd (false≢true some)
any_found test (y ∷ ys) some = elim (cases_Bool (test y)) [
  | inl p ↦ (y, cond-true (test y) (Some y) (find test ys) p)
  | inr f ↦ let m = any_found test ys (sym (ap (λ (b : Bool). b || list_any test ys) f) ∙ some) in (m.0, cond-false (test y) (Some y) (find test ys) f ∙ m.1)
]

-- where one passes a test
pub one_passes : {T : Type 0} (test : T → Bool) (xs : List T) → list_any test xs ≡ true → (x : T) × IsIn xs x × (test x ≡ true)
one_passes test [] some = absurd (false≢true some)
one_passes test (y ∷ xs) some = elim (cases_Bool (test y)) [
  | inl p ↦ (y, inl refl, p)
  | inr f ↦ let m = one_passes test xs (sym (ap (λ (b : Bool). b || list_any test xs) f) ∙ some) in (m.0, inr m.1, m.2)
]

pub passes_any : {T : Type 0} (test : T → Bool) (xs : List T) (x : T) → IsIn xs x → test x ≡ true → list_any test xs ≡ true
passes_any test [] x i is = absurd i
passes_any test (y ∷ xs) x (inl e) is = or_left (test y) (list_any test xs) (ap test e ∙ is)
passes_any test (y ∷ xs) x (inr i) is = or_right (test y) (list_any test xs) (passes_any test xs x i is)
