-- A row that is added at its place, or changed in its place, keeps rows in order and their limits.
use Rattle.std.proofs.Common.{◌≡◌, ℕ, suc, ◌+◌, ◌<◌, ◌≤◌, Bool, true, false, cond, List, [], ◌∷◌, length, map, refl, ap, arith}
use Rattle.std.specs.Prelude.{nat_lt, ◌==◌, ◌||◌, count_by, sum_by}
use Rattle.std.specs.List.{AllByRecursion}
use Rattle.std.proofs.lemmas.Bool.{ltb-true, ltb-false, eqb-false}
use Rattle.std.proofs.lemmas.List.Sums.{sum_by-cons}
use Rattle.bearer_map.specs.Order.{has_row, in_order, IsAscending}

-- what is above a rank is above each lower one
above : {T : Type 0} (rank : T → ℕ) (low high : ℕ) (rows : List T) → low < high → AllByRecursion (λ x. high < rank x) rows → AllByRecursion (λ x. low < rank x) rows
above rank low high [] lt all = tt
above rank low high (r ∷ rows) lt all = (omega (arith, all.0), above rank low high rows lt all.1)

all_in_order : {T : Type 0} (P : T → Type 0) (rank : T → ℕ) (row : T) (rows : List T) → P row → AllByRecursion P rows → AllByRecursion P (in_order rank row rows)
all_in_order P rank row [] here all = (here, tt)
all_in_order {T} P rank row (r ∷ rows) here all =
    elim (nat_lt (rank row) (rank r)) as (λ b. AllByRecursion P (cond b (row ∷ r ∷ rows) (r ∷ in_order rank row rows))) [
      | true ↦ (here, all)
      | false ↦ (all.0, all_in_order P rank row rows here all.1)
    ]

-- no row has the rank
not_here : (a b : Bool) → (a || b) ≡ false → (a ≡ false) × (b ≡ false)
not_here false false e = (refl, refl)
not_here false true e = absurd cc
not_here true b e = absurd cc

at_place : {T : Type 0} (rank : T → ℕ) (row r : T) (rows : List T) (b : Bool) → (b ≡ true → rank row < rank r) → (b ≡ false → rank r < rank row) → IsAscending rank (r ∷ rows) → IsAscending rank (in_order rank row rows)
    → IsAscending rank (cond b (row ∷ r ∷ rows) (r ∷ in_order rank row rows))
at_place rank row r rows true here later up rest = ((here refl, above rank (rank row) (rank r) rows (here refl) up.0), up)
at_place {T} rank row r rows false here later up rest = (all_in_order (λ (x : T). rank r < rank x) rank row rows (later refl) up.0, rest)

pub ascending_in_order : {T : Type 0} (rank : T → ℕ) (row : T) (rows : List T) → IsAscending rank rows → has_row rank rows (rank row) ≡ false → IsAscending rank (in_order rank row rows)
ascending_in_order rank row [] up new = (tt, tt)
ascending_in_order rank row (r ∷ rows) up new =
    let apart = not_here (rank r == rank row) (has_row rank rows (rank row)) new in
    at_place rank row r rows (nat_lt (rank row) (rank r)) (λ t. ltb-true _ _ t) (λ f. omega (arith, ltb-false _ _ f, eqb-false _ _ apart.0)) up (ascending_in_order rank row rows up.1 apart.1)

pub length-in_order : {T : Type 0} (rank : T → ℕ) (row : T) (rows : List T) → length (in_order rank row rows) ≡ suc (length rows)
length-in_order rank row [] = refl
length-in_order {T} rank row (r ∷ rows) =
    elim (nat_lt (rank row) (rank r)) as (λ b. length (cond b (row ∷ r ∷ rows) (r ∷ in_order rank row rows)) ≡ suc (suc (length rows))) [
      | true ↦ refl
      | false ↦ ap suc (length-in_order rank row rows)
    ]

sum_by-in_order : {T : Type 0} (f : T → ℕ) (rank : T → ℕ) (row : T) (rows : List T) → sum_by f (in_order rank row rows) ≡ f row + sum_by f rows
sum_by-in_order f rank row [] = sum_by-cons f row []
sum_by-in_order {T} f rank row (r ∷ rows) =
    elim (nat_lt (rank row) (rank r)) as (λ b. sum_by f (cond b (row ∷ r ∷ rows) (r ∷ in_order rank row rows)) ≡ f row + sum_by f (r ∷ rows)) [
      | true ↦ sum_by-cons f row (r ∷ rows)
      | false ↦ omega (arith, sum_by-cons f r (in_order rank row rows), sum_by-cons f r rows, sum_by-in_order f rank row rows)
    ]

room_for : (b : Bool) (old new : ℕ) → new ≡ cond b 1 0 + old → old ≤ 8 → (b ≡ true → old < 8) → new ≤ 8
room_for true old new e few room = omega (arith, room refl)
room_for false old new e few room = omega arith

-- where few rows pass a test that the new one may pass, few pass it behind
pub few_in_order : {T : Type 0} (p : T → Bool) (rank : T → ℕ) (row : T) (rows : List T) → count_by p rows ≤ 8 → (p row ≡ true → count_by p rows < 8) → count_by p (in_order rank row rows) ≤ 8
few_in_order p rank row rows few room = room_for (p row) (count_by p rows) (count_by p (in_order rank row rows)) (sum_by-in_order (λ x. cond (p x) 1 0) rank row rows) few room

all_map : {T : Type 0} (rank : T → ℕ) (f : T → T) (same : (x : T) → rank (f x) ≡ rank x) (low : ℕ) (rows : List T) → AllByRecursion (λ x. low < rank x) rows → AllByRecursion (λ x. low < rank x) (map f rows)
all_map rank f same low [] all = tt
all_map rank f same low (r ∷ rows) all = (omega (arith, same r, all.0), all_map rank f same low rows all.1)

pub ascending_map : {T : Type 0} (rank : T → ℕ) (f : T → T) (same : (x : T) → rank (f x) ≡ rank x) (rows : List T) → IsAscending rank rows → IsAscending rank (map f rows)
ascending_map rank f same [] up = tt
ascending_map {T} rank f same (r ∷ rows) up =
    (rw same (all_map rank f same (rank r) rows up.0), ascending_map rank f same rows up.1)

pub sum_by-map_same : {T : Type 0} (g : T → ℕ) (f : T → T) (same : (x : T) → g (f x) ≡ g x) (rows : List T) → sum_by g (map f rows) ≡ sum_by g rows
sum_by-map_same g f same [] = refl
sum_by-map_same g f same (r ∷ rows) = omega (arith, sum_by-cons g (f r) (map f rows), sum_by-cons g r rows, same r, sum_by-map_same g f same rows)
