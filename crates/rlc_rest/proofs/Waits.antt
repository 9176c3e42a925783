-- Whether something stays can be decided.
use Rattle.std.proofs.Common.{◌≡◌, ◌⊎◌, inl, inr, ℕ, zero, suc, ◌≤◌, Bool, true, false, nat_lt, List, [], ◌∷◌, length, get_or, Option, Some, None, refl, ◌∙◌, ap}
use Rattle.std.proofs.lemmas.Bool.{cases_Bool, false≢true, ltb-false}
use Rattle.rlc_model.specs.Tx.{Tx, Kept, kept_at, is_pending, is_unsent, PendingWaits, UnsentWaits}

-- an element of the list has P
abbrev Finds : {X : Type 0} → (X → Type 0) → X → List X → Type 0
Finds P d xs = (n : ℕ) × P (get_or xs n d)

-- some element has P, or none has, where the default has not and each element is decided
find : {X : Type 0} (P : X → Type 0) (d : X) → ((x : X) → P x ⊎ (P x → ⊥)) → (P d → ⊥) → (xs : List X) → Finds P d xs ⊎ (Finds P d xs → ⊥)
find P d decide lacks [] = inr (λ f. lacks f.1)
find {X} P d decide lacks (x ∷ xs) = elim (decide x) [
  | inl yes_here ↦ inl (0, yes_here)
  | inr not_here ↦ elim (find P d decide lacks xs) [
    | inl there ↦ inl (suc there.0, there.1)
    | inr not_there ↦ inr (λ f. apart f.0 f.1 not_here not_there)
  ]
]
  where
    apart : (n : ℕ) → P (get_or (x ∷ xs) n d) → (P x → ⊥) → (Finds P d xs → ⊥) → ⊥
    apart zero h not_here not_there = not_here h
    apart (suc n) h not_here not_there = not_there (n, h)

-- a test passes or not
is_true : (b : Bool) → (b ≡ true) ⊎ (b ≡ true → ⊥)
is_true true = inl refl
is_true false = inr false≢true

-- whether an unsent byte waits
pub cases_unsent : (t : Tx) → UnsentWaits t ⊎ (UnsentWaits t → ⊥)
cases_unsent t = find (λ o. is_unsent o ≡ true) None (λ o. is_true (is_unsent o)) false≢true t.kept

-- whether a byte of an SDU is pending
pending_in : (o : Option Kept) → ((p : ℕ) × (is_pending o p ≡ true)) ⊎ ((p : ℕ) × (is_pending o p ≡ true) → ⊥)
pending_in None = inr (λ h. false≢true h.1)
pending_in (Some k) = find (λ b. b ≡ true) false is_true false≢true k.flags

-- whether a pending byte waits
pub cases_pending : (t : Tx) → PendingWaits t ⊎ (PendingWaits t → ⊥)
cases_pending t = elim (find (λ o. (p : ℕ) × (is_pending o p ≡ true)) None pending_in (λ h. false≢true h.1) t.kept) [
  | inl f ↦ inl (f.0, f.1.0, f.1.1)
  | inr none ↦ inr (λ w. none (w.0, (w.1, w.2)))
]

-- a byte of each number kept is sent, once none stays unsent
pub all_sent : (t : Tx) (n : ℕ) (k : Kept) → kept_at t n ≡ Some k → (UnsentWaits t → ⊥) → length k.sdu ≤ length k.flags
all_sent t n k is none = elim (cases_Bool (nat_lt (length k.flags) (length k.sdu))) [
  | inl yes_less ↦ absurd (none (n, ap is_unsent is ∙ yes_less))
  | inr not_less ↦ ltb-false (length k.flags) (length k.sdu) not_less
]
