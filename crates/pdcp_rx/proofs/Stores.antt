-- An SDU put at its place.
use Rattle.std.proofs.Common.{◌≡◌, ℕ, zero, suc, ◌+◌, ◌-◌, List, [], ◌∷◌, ◌++◌, length, replicate, set, Option, Some, None, refl, ap, arith}
use Rattle.std.proofs.lemmas.List.{append-nil}
use Rattle.pdcp_model.specs.Receiver.{with_sdu}

-- gaps up to a place, and the SDU there
pub put_is : (n : ℕ) (sdu : List ℕ) (xs : List (Option (List ℕ))) (k : ℕ) → k ≡ n + 1 - length xs → set (xs ++ replicate k None) n (Some sdu) ≡ with_sdu n sdu xs
put_is zero sdu [] zero e = absurd (omega arith)
put_is zero sdu [] (suc zero) e = refl
put_is zero sdu [] (suc (suc k)) e = absurd (omega arith)
put_is zero sdu (x ∷ xs) zero e = ap (λ (ys : List (Option (List ℕ))). Some sdu ∷ ys) (append-nil xs)
put_is zero sdu (x ∷ xs) (suc k) e = absurd (omega arith)
put_is (suc n) sdu [] zero e = absurd (omega arith)
put_is (suc n) sdu [] (suc k) e = ap (λ (ys : List (Option (List ℕ))). None ∷ ys) (put_is n sdu [] k (omega arith))
put_is (suc n) sdu (x ∷ xs) k e = ap (λ (ys : List (Option (List ℕ))). x ∷ ys) (put_is n sdu xs k (omega arith))
