-- A list with one more at its end.
use Rattle.std.proofs.Common.{◌≡◌, ◌⊎◌, inl, inr, ℕ, zero, suc, List, [], ◌∷◌, ◌++◌, length, Some, refl, sym, arith}
use Rattle.std.specs.List.{slice_get}
use Rattle.std.proofs.lemmas.Option.{none-some, same_Some}

-- at the end is the new one, and elsewhere what was there
pub push_end : {X : Type 0} (xs : List X) (x : X) → slice_get (xs ++ x ∷ []) (length xs) ≡ Some x
push_end [] x = refl
push_end (y ∷ xs) x = push_end xs x

pub push_old : {X : Type 0} (xs : List X) (x : X) (k : ℕ) → (k ≡ length xs → ⊥) → slice_get (xs ++ x ∷ []) k ≡ slice_get xs k
push_old [] x zero ne = absurd (ne refl)
push_old [] x (suc k) ne = refl
push_old (y ∷ xs) x zero ne = refl
push_old (y ∷ xs) x (suc k) ne = push_old xs x k (λ e. ne (omega (arith, e)))

-- what is somewhere was there, or is the new one at the end
pub push_was : {X : Type 0} (xs : List X) (x : X) (k : ℕ) (y : X) → slice_get (xs ++ x ∷ []) k ≡ Some y → (slice_get xs k ≡ Some y) ⊎ ((k ≡ length xs) × (y ≡ x))
push_was [] x zero y e = inr (refl, sym (same_Some x y e))
push_was [] x (suc k) y e = absurd (none-some y e)
push_was (z ∷ xs) x zero y e = inl e
push_was (z ∷ xs) x (suc k) y e = elim (push_was xs x k y e) [
  | inl h ↦ inl h
  | inr h ↦ inr (omega (arith, h.0), h.1)
]

-- what was there stays
pub push_keeps : {X : Type 0} (xs : List X) (x : X) (k : ℕ) (y : X) → slice_get xs k ≡ Some y → slice_get (xs ++ x ∷ []) k ≡ Some y
push_keeps [] x k y e = absurd (none-some y e)
push_keeps (z ∷ xs) x zero y e = e
push_keeps (z ∷ xs) x (suc k) y e = push_keeps xs x k y e
