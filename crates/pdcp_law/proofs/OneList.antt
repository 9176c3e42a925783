-- One list is handed up.
use Rattle.std.proofs.Common.{◌≡◌, inl, inr, ℕ, ◌+◌, ◌≤◌, List, [], ◌∷◌, length, sym, ◌∙◌, arith}
use Rattle.std.proofs.lemmas.Bool.{cases_lt}
use Rattle.std.proofs.lemmas.List.{ext_get_or}
use Rattle.pdcp_model.specs.HandUp.{IsHeardAs, IsLongestRun}
use Rattle.pdcp_law.specs.HandUps.{OneHandUp, OneSdu}

-- a COUNT was heard as one SDU
pub one_sdu : OneSdu
one_sdu size first [] count s t p q = absurd p
one_sdu size first (h ∷ hs) count s t (inl p) (inl q) = one_sdu size first hs count s t p q
one_sdu size first (h ∷ hs) count s t (inl p) (inr q) = absurd (q.0 s p)
one_sdu size first (h ∷ hs) count s t (inr p) (inl q) = absurd (p.0 t q)
one_sdu size first (h ∷ hs) count s t (inr p) (inr q) = p.1 ∙ sym q.1

module _ (first : ℕ) (IsSdu : ℕ → List ℕ → Type 0) (one : (count : ℕ) (s t : List ℕ) → IsSdu count s → IsSdu count t → s ≡ t) where
  -- a longest run isn't shorter than another
  no_shorter : (a b : List (List ℕ)) → IsLongestRun first IsSdu a → IsLongestRun first IsSdu b → length b ≤ length a
  no_shorter a b p q = elim (cases_lt (length a) (length b)) [
    | inl lt ↦ absurd (p.gap _ (q.each (length a) lt))
    | inr le ↦ le
  ]

  -- so there is one
  one_run : (a b : List (List ℕ)) → IsLongestRun first IsSdu a → IsLongestRun first IsSdu b → a ≡ b
  one_run a b p q =
      let long : length a ≡ length b = omega (arith, no_shorter a b p q, no_shorter b a q p) in
      ext_get_or [] a b long (λ i lt. one (first + i) _ _ (p.each i lt) (q.each i (omega (arith, lt, long))))

-- that of all that was heard is one
pub one_hand_up : OneHandUp
one_hand_up size first hs a b p q = one_run first (IsHeardAs size first hs) (one_sdu size first hs) a b p q
