-- Of items, seen as others by a map, the one at a place is the only one that passes a test.
use Rattle.std.proofs.Common.{◌≡◌, ℕ, zero, suc, ◌<◌, Bool, true, false, cond, List, [], ◌∷◌, length, map, get_or, set, Option, Some, None, refl, sym, ◌∙◌, ap, subst, arith}
use Rattle.std.specs.Prelude.{find, ◌&&◌}
use Rattle.std.specs.List.{AllByRecursion}
use Rattle.node_model.specs.Names.{replaced}

-- the one at this place passes, and no other
abbrev pub IsOnly : {A : Type 0} → (A → Bool) → List A → ℕ → Type 0
IsOnly test [] place = ⊥
IsOnly test (x ∷ xs) zero = (test x ≡ true) × AllByRecursion (λ y. test y ≡ false) xs
IsOnly test (x ∷ xs) (suc place) = (test x ≡ false) × IsOnly test xs place

module _ {A B : Type 0} (f : A → B) (test : B → Bool) where
  pub none_found : (xs : List A) → AllByRecursion (λ x. test (f x) ≡ false) xs → find test (map f xs) ≡ None
  none_found [] none = refl
  none_found (x ∷ xs) none = rw none.0 (none_found xs none.1)

  pub none_replaced : (new : B) (xs : List A) → AllByRecursion (λ x. test (f x) ≡ false) xs → replaced test new (map f xs) ≡ map f xs
  none_replaced new [] none = refl
  none_replaced new (x ∷ xs) none = rw none.0 (ap (λ ys. f x ∷ ys) (none_replaced new xs none.1))

  pub only_found : (x : A) (xs : List A) (place : ℕ) → IsOnly (λ y. test (f y)) xs place → x ≡ get_or xs place x → find test (map f xs) ≡ Some (f x)
  only_found x [] place only here = absurd only
  only_found x (y ∷ ys) zero only here = rw only.0 (ap (λ z. Some (f z)) (sym here))
  only_found x (y ∷ ys) (suc place) only here = rw only.0 (only_found x ys place only.1 here)

  pub only_replaced : (new : A) (xs : List A) (place : ℕ) → IsOnly (λ y. test (f y)) xs place → replaced test (f new) (map f xs) ≡ map f (set xs place new)
  only_replaced new [] place only = absurd only
  only_replaced new (y ∷ ys) zero only = rw only.0 (ap (λ zs. f new ∷ zs) (none_replaced (f new) ys only.1))
  only_replaced new (y ∷ ys) (suc place) only = rw only.0 (ap (λ zs. f y ∷ zs) (only_replaced new ys place only.1))

-- an item that is seen as the one before it changes nothing
pub same_seen : {A B : Type 0} (f : A → B) (x new : A) (xs : List A) (place : ℕ) → x ≡ get_or xs place x → f new ≡ f x → map f (set xs place new) ≡ map f xs
same_seen f x new [] place here same = refl
same_seen f x new (y ∷ ys) zero here same = ap (λ z. z ∷ map f ys) (same ∙ ap f here)
same_seen f x new (y ∷ ys) (suc place) here same = ap (λ zs. f y ∷ zs) (same_seen f x new ys place here same)

-- what holds of each item holds of the one at a place, and of each once one of which it holds is set
pub all_at : {A : Type 0} (P : A → Type 0) (x : A) (xs : List A) (place : ℕ) → AllByRecursion P xs → place < length xs → x ≡ get_or xs place x → P x
all_at P x [] place all lt here = absurd (omega arith)
all_at P x (y ∷ ys) zero all lt here = subst P (sym here) all.0
all_at P x (y ∷ ys) (suc place) all lt here = all_at P x ys place all.1 (omega arith) here

pub all_set : {A : Type 0} (P : A → Type 0) (new : A) (xs : List A) (place : ℕ) → AllByRecursion P xs → P new → AllByRecursion P (set xs place new)
all_set P new [] place all is = tt
all_set P new (y ∷ ys) zero all is = (is, all.1)
all_set P new (y ∷ ys) (suc place) all is = (all.0, all_set P new ys place all.1 is)

pub all_map : {A : Type 0} {P Q : A → Type 0} (goes : (x : A) → P x → Q x) (xs : List A) → AllByRecursion P xs → AllByRecursion Q xs
all_map goes [] all = tt
all_map goes (x ∷ xs) all = (goes x all.0, all_map goes xs all.1)

-- both tests pass
pub both_true : (a b : Bool) → (a && b) ≡ true → (a ≡ true) × (b ≡ true)
both_true true b is = (refl, is)
both_true false b is = absurd cc
