-- What is stored of a receiving side, place by place.
use Rattle.std.proofs.Common.{◌≡◌, ◌≢◌, ℕ, zero, suc, ◌+◌, ◌<◌, ◌≤◌, max, List, [], ◌∷◌, length, get_or, Option, Some, None, refl, arith}
use Rattle.pdcp_model.specs.Receiver.{with_sdu, run}

-- an SDU that is stored stands at its place
pub with_sdu_here : (n : ℕ) (sdu : List ℕ) (xs : List (Option (List ℕ))) → get_or (with_sdu n sdu xs) n None ≡ Some sdu
with_sdu_here zero sdu [] = refl
with_sdu_here zero sdu (x ∷ xs) = refl
with_sdu_here (suc n) sdu [] = with_sdu_here n sdu []
with_sdu_here (suc n) sdu (x ∷ xs) = with_sdu_here n sdu xs

-- and the other places are as before
pub with_sdu_other : (n : ℕ) (sdu : List ℕ) (xs : List (Option (List ℕ))) (k : ℕ) → k ≢ n → get_or (with_sdu n sdu xs) k None ≡ get_or xs k None
with_sdu_other zero sdu xs zero ne = absurd (ne refl)
with_sdu_other zero sdu [] (suc k) ne = refl
with_sdu_other zero sdu (x ∷ xs) (suc k) ne = refl
with_sdu_other (suc n) sdu [] zero ne = refl
with_sdu_other (suc n) sdu (x ∷ xs) zero ne = refl
with_sdu_other (suc n) sdu [] (suc k) ne = with_sdu_other n sdu [] k (omega arith)
with_sdu_other (suc n) sdu (x ∷ xs) (suc k) ne = with_sdu_other n sdu xs k (omega arith)

-- there are places up to it
pub with_sdu_long : (n : ℕ) (sdu : List ℕ) (xs : List (Option (List ℕ))) → length (with_sdu n sdu xs) ≡ max (length xs) (n + 1)
with_sdu_long zero sdu [] = omega arith
with_sdu_long zero sdu (x ∷ xs) = omega arith
with_sdu_long (suc n) sdu [] = omega (arith, with_sdu_long n sdu [])
with_sdu_long (suc n) sdu (x ∷ xs) = omega (arith, with_sdu_long n sdu xs)

-- a run has what is stored at its places
pub run_at : (xs : List (Option (List ℕ))) (k : ℕ) (d : List ℕ) → k < length (run xs) → get_or xs k None ≡ Some (get_or (run xs) k d)
run_at [] k d lt = absurd (omega arith)
run_at (None ∷ xs) k d lt = absurd (omega arith)
run_at (Some sdu ∷ xs) zero d lt = refl
run_at (Some sdu ∷ xs) (suc k) d lt = run_at xs k d (omega arith)

-- behind it nothing is stored
pub run_end : (xs : List (Option (List ℕ))) → get_or xs (length (run xs)) None ≡ None
run_end [] = refl
run_end (None ∷ xs) = refl
run_end (Some sdu ∷ xs) = run_end xs

-- it is no longer than the list
pub run_long : (xs : List (Option (List ℕ))) → length (run xs) ≤ length xs
run_long [] = omega arith
run_long (None ∷ xs) = omega arith
run_long (Some sdu ∷ xs) = omega (arith, run_long xs)
