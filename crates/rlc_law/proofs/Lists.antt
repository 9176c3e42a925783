-- Elements of a list that begins with one more.
use Rattle.std.proofs.Common.{◌≡◌, ◌⊎◌, inl, inr, ℕ, zero, suc, ◌<◌, List, [], ◌∷◌, length, get_or, refl, sym, arith}
use Rattle.std.specs.List.{Contains, AllPairs}
use Rattle.std.proofs.lemmas.List.Elements.{Contains-get_or}

-- an empty list has no element
pub contains_nil : {X : Type 0} (x : X) → Contains [] x → ⊥
contains_nil x c = omega (arith, c.1)

-- the first element is one
pub contains_here : {X : Type 0} (x : X) (xs : List X) → Contains (x ∷ xs) x
contains_here x xs = (0, omega arith, refl)

-- so is each behind it
pub contains_later : {X : Type 0} (y : X) (xs : List X) (x : X) → Contains xs x → Contains (y ∷ xs) x
contains_later y xs x c = (suc c.0, omega (arith, c.1), c.2)

-- and there are no others
pub contains_cases : {X : Type 0} (y : X) (xs : List X) (x : X) → Contains (y ∷ xs) x → (x ≡ y) ⊎ Contains xs x
contains_cases y xs x c = go c.0 c.1 c.2
  where
    go : (k : ℕ) → k < length (y ∷ xs) → get_or (y ∷ xs) k x ≡ x → (x ≡ y) ⊎ Contains xs x
    go zero lt e = inl (sym e)
    go (suc k) lt e = inr (k, omega (arith, lt), e)

-- a relation of all pairs, with one more element in front
pub all_pairs_cons : {X : Type 0} (R : X → X → Type 0) (x : X) (xs : List X) → ((y : X) → Contains xs y → R x y) → AllPairs R xs → AllPairs R (x ∷ xs)
all_pairs_cons R x xs first rest zero zero d lt below = absurd (omega arith)
all_pairs_cons R x xs first rest zero (suc j) d lt below = first (get_or xs j d) (Contains-get_or xs j d (omega (arith, below)))
all_pairs_cons R x xs first rest (suc i) zero d lt below = absurd (omega arith)
all_pairs_cons R x xs first rest (suc i) (suc j) d lt below = rest i j d (omega (arith, lt)) (omega (arith, below))
