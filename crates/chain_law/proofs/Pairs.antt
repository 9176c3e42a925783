-- Lists of which each item stands so to each later one.
use Rattle.std.proofs.Common.{◌||◌, ◌≡◌, ℕ, ◌<◌, Bool, true, false, cond, eqb, nat_lt, List, [], ◌∷◌, ◌++◌, map, filter, flat_map, refl, arith, ap, sym, ◌∙◌, inl, inr}
use Rattle.std.specs.List.{AllByRecursion, list_any}
use Rattle.std.proofs.lemmas.Bool.{cases_Bool, or_parts, or_left, or_right, ltb-true, ltb-false, eqb-false, false≢true}
use Rattle.bearer_map.specs.Order.{has_row, in_order, IsAscending}
use Rattle.node_model.proofs.Finding.{each_append, each_map}

-- each item stands so to each later one
abbrev pub Pairwise : {T : Type 0} → (T → T → Type 0) → List T → Type 0
Pairwise R [] = Unit {0}
Pairwise R (x ∷ xs) = AllByRecursion (R x) xs × Pairwise R xs

-- what each has, each has that was picked
pub each_picked : {T : Type 0} (P : T → Type 0) (picks : T → Bool) (xs : List T) → AllByRecursion P xs → AllByRecursion P (filter picks xs)
each_picked P picks [] all = tt
each_picked P picks (x ∷ xs) all = by (picks x) (each_picked P picks xs all.1)
  where
    by : (b : Bool) → AllByRecursion P (filter picks xs) → AllByRecursion P (cond b (x ∷ filter picks xs) (filter picks xs))
    by true more = (all.0, more)
    by false more = more

-- each is one that was picked
pub each_passes : {T : Type 0} (picks : T → Bool) (xs : List T) → AllByRecursion (λ x. picks x ≡ true) (filter picks xs)
each_passes {T} picks [] = tt
each_passes {T} picks (x ∷ xs) = by (picks x) refl (each_passes picks xs)
  where
    by : (b : Bool) → picks x ≡ b → AllByRecursion (λ (x : T). picks x ≡ true) (filter picks xs)
        → AllByRecursion (λ (x : T). picks x ≡ true) (cond b (x ∷ filter picks xs) (filter picks xs))
    by true is more = (is, more)
    by false is more = more

-- what each has may follow from what each has besides
pub each_then : {T : Type 0} (P Q : T → Type 0) → ((x : T) → P x → Q x) → (xs : List T) → AllByRecursion P xs → AllByRecursion Q xs
each_then P Q gives [] all = tt
each_then P Q gives (x ∷ xs) all = (gives x all.0, each_then P Q gives xs all.1)

-- each of one list stands so to each of another
pub each_to_each : {S T : Type 0} (P : S → Type 0) (Q : T → Type 0) (R : S → T → Type 0) → ((x : S) (y : T) → P x → Q y → R x y) → (xs : List S) (ys : List T)
    → AllByRecursion P xs → AllByRecursion Q ys → AllByRecursion (λ x. AllByRecursion (R x) ys) xs
each_to_each P Q R gives xs ys some more = each_then P (λ x. AllByRecursion (R x) ys) (λ x p. each_then Q (R x) (λ y q. gives x y p q) ys more) xs some

module _ {T : Type 0} (R : T → T → Type 0) where
  pub pairs_append : (xs ys : List T) → Pairwise R xs → Pairwise R ys → AllByRecursion (λ x. AllByRecursion (R x) ys) xs → Pairwise R (xs ++ ys)
  pairs_append [] ys first second across = second
  pairs_append (x ∷ xs) ys first second across = (each_append (R x) xs ys first.0 across.0, pairs_append xs ys first.1 second across.1)

  pub pairs_picked : (picks : T → Bool) (xs : List T) → Pairwise R xs → Pairwise R (filter picks xs)
  pairs_picked picks [] all = tt
  pairs_picked picks (x ∷ xs) all = by (picks x) (pairs_picked picks xs all.1)
    where
      by : (b : Bool) → Pairwise R (filter picks xs) → Pairwise R (cond b (x ∷ filter picks xs) (filter picks xs))
      by true more = (each_picked (R x) picks xs all.0, more)
      by false more = more

  pub pairs_map : {X : Type 0} (Q : X → X → Type 0) (make : X → T) → ((x y : X) → Q x y → R (make x) (make y)) → (xs : List X) → Pairwise Q xs → Pairwise R (map make xs)
  pairs_map Q make gives [] all = tt
  pairs_map Q make gives (x ∷ xs) all = (each_map (R (make x)) (Q x) make (gives x) xs all.0, pairs_map Q make gives xs all.1)

  pub pairs_flat : {X : Type 0} (Q : X → X → Type 0) (make : X → List T) → ((x : X) → Pairwise R (make x))
      → ((x y : X) → Q x y → AllByRecursion (λ a. AllByRecursion (R a) (make y)) (make x))
      → (xs : List X) → Pairwise Q xs → Pairwise R (flat_map make xs)
  pairs_flat Q make each across [] all = tt
  pairs_flat {X} Q make each across (x ∷ xs) all = pairs_append (make x) (flat_map make xs) (each x) (pairs_flat Q make each across xs all.1) (to_all xs all.0)
    where
      join : (xs : List T) (ys zs : List T) → AllByRecursion (λ a. AllByRecursion (R a) ys) xs → AllByRecursion (λ a. AllByRecursion (R a) zs) xs
          → AllByRecursion (λ a. AllByRecursion (R a) (ys ++ zs)) xs
      join [] ys zs p q = tt
      join (a ∷ rest) ys zs p q = (each_append (R a) ys zs p.0 q.0, join rest ys zs p.1 q.1)

      none : (xs : List T) → AllByRecursion (λ a. AllByRecursion (R a) []) xs
      none [] = tt
      none (a ∷ rest) = (tt, none rest)

      to_all : (ys : List X) → AllByRecursion (Q x) ys → AllByRecursion (λ a. AllByRecursion (R a) (flat_map make ys)) (make x)
      to_all [] all = none (make x)
      to_all (y ∷ ys) all = join (make x) (make y) (flat_map make ys) (across x y all.0) (to_all ys all.1)

-- rows in ascending order
module _ {T : Type 0} (rank : T → ℕ) where
  pub ascending_pairs : (rows : List T) → IsAscending rank rows → Pairwise (λ a b. rank a < rank b) rows
  ascending_pairs [] all = tt
  ascending_pairs (r ∷ rows) all = (all.0, ascending_pairs rows all.1)

  pub each_in_order : (P : T → Type 0) (row : T) → P row → (rows : List T) → AllByRecursion P rows → AllByRecursion P (in_order rank row rows)
  each_in_order P row is [] all = (is, tt)
  each_in_order P row is (r ∷ rows) all = by (nat_lt (rank row) (rank r)) (each_in_order P row is rows all.1)
    where
      by : (b : Bool) → AllByRecursion P (in_order rank row rows) → AllByRecursion P (cond b (row ∷ r ∷ rows) (r ∷ in_order rank row rows))
      by true more = (is, (all.0, all.1))
      by false more = (all.0, more)

  pub order_keeps : (row : T) (rows : List T) → has_row rank rows (rank row) ≡ false → IsAscending rank rows → IsAscending rank (in_order rank row rows)
  order_keeps row [] new all = (tt, tt)
  order_keeps row (r ∷ rows) new all = by (nat_lt (rank row) (rank r)) refl (order_keeps row rows parts.1 all.1)
    where
      parts : (eqb (rank r) (rank row) ≡ false) × (list_any (λ (x : T). eqb (rank x) (rank row)) rows ≡ false)
      parts = or_parts (eqb (rank r) (rank row)) (list_any (λ (x : T). eqb (rank x) (rank row)) rows) new

      by : (b : Bool) → nat_lt (rank row) (rank r) ≡ b → IsAscending rank (in_order rank row rows) → IsAscending rank (cond b (row ∷ r ∷ rows) (r ∷ in_order rank row rows))
      by true is more =
          let low : rank row < rank r = ltb-true (rank row) (rank r) is in
          ((low, each_then (λ (x : T). rank r < rank x) (λ (x : T). rank row < rank x) (λ x p. omega (arith, low, p)) rows all.0), (all.0, all.1))
      by false is more =
          let high : rank r < rank row = omega (arith, ltb-false (rank row) (rank r) is, eqb-false (rank r) (rank row) parts.0) in
          (each_in_order (λ (x : T). rank r < rank x) row high rows all.0, more)

  pub map_keeps : (change : T → T) → ((x : T) → rank (change x) ≡ rank x) → (rows : List T) → IsAscending rank rows → IsAscending rank (map change rows)
  map_keeps change same [] all = tt
  map_keeps change same (r ∷ rows) all =
      (each_map (λ (x : T). rank (change r) < rank x) (λ (x : T). rank r < rank x) change (λ x p. omega (arith, p, same r, same x)) rows all.0, map_keeps change same rows all.1)

  -- a row that is there is there with one more, and where rows keep their ranks
  pub row_stays : (row : T) (rows : List T) (n : ℕ) → has_row rank rows n ≡ true → has_row rank (in_order rank row rows) n ≡ true
  row_stays row [] n e = absurd (false≢true e)
  row_stays row (r ∷ rows) n e = by (nat_lt (rank row) (rank r)) (row_stays row rows n)
    where
      by : (b : Bool) → (has_row rank rows n ≡ true → has_row rank (in_order rank row rows) n ≡ true) → has_row rank (cond b (row ∷ r ∷ rows) (r ∷ in_order rank row rows)) n ≡ true
      by true more = or_right (eqb (rank row) n) (has_row rank (r ∷ rows) n) e
      by false more = elim (cases_Bool (eqb (rank r) n)) [
        | inl here ↦ or_left (eqb (rank r) n) _ here
        | inr other ↦ or_right (eqb (rank r) n) _ (more (sym (ap (λ (b : Bool). b || has_row rank rows n) other) ∙ e))
      ]

  pub row_mapped : (change : T → T) → ((x : T) → rank (change x) ≡ rank x) → (rows : List T) (n : ℕ) → has_row rank (map change rows) n ≡ has_row rank rows n
  row_mapped change same [] n = refl
  row_mapped change same (r ∷ rows) n = ap (λ (k : ℕ). eqb k n || has_row rank (map change rows) n) (same r)
      ∙ ap (λ (b : Bool). eqb (rank r) n || b) (row_mapped change same rows n)
