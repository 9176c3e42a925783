-- A row that is inserted before the first of a higher rank.
use Rattle.std.proofs.Common.{◌≡◌, ℕ, ◌+◌, ◌≤◌, Bool, true, false, cond, List, [], ◌∷◌, length, Some, None, refl, suc, sym, ◌∙◌, ap, arith}
use Rattle.std.specs.Prelude.{nat_lt, not, unwrap_or}
use Rattle.std.specs.List.{insert, position, position_or_len}
use Rattle.std.proofs.lemmas.Bool.{ltb-false}
use Rattle.std.proofs.lemmas.List.Sums.{prefix_len-le-length}
use Rattle.bearer_map.specs.Order.{in_order}

some_or : (b : Bool) (n len : ℕ) → (b ≡ false → n ≡ len) → unwrap_or (cond b (Some n) None) len ≡ n
some_or true n len same = refl
some_or false n len same = sym (same refl)

-- the place of the first that passes, or the end
pub position_is : {T : Type 0} (p : T → Bool) (rows : List T) → unwrap_or (position p rows) (length rows) ≡ position_or_len p rows
position_is p rows =
    let within : position_or_len p rows ≤ length rows = prefix_len-le-length (λ x. not (p x)) rows in
    some_or (nat_lt (position_or_len p rows) (length rows)) (position_or_len p rows) (length rows) (λ past. omega (arith, ltb-false _ _ past))

pub insert_at_place : {T : Type 0} (rank : T → ℕ) (row : T) (rows : List T) → insert rows (position_or_len (λ r. nat_lt (rank row) (rank r)) rows) row ≡ in_order rank row rows
insert_at_place rank row [] = refl
insert_at_place {T} rank row (r ∷ rows) =
    let n : ℕ = position_or_len (λ r. nat_lt (rank row) (rank r)) rows in
    let next : 1 + n ≡ suc n = omega arith in
    elim (nat_lt (rank row) (rank r)) as (λ b. insert (r ∷ rows) (cond (not b) (1 + n) 0) row ≡ cond b (row ∷ r ∷ rows) (r ∷ in_order rank row rows)) [
      | true ↦ refl
      | false ↦ rw next (ap (λ (xs : List T). r ∷ xs) (insert_at_place rank row rows))
    ]

-- the rows behind an insertion before the first of a higher rank
pub inserted : {T : Type 0} (rank : T → ℕ) (row : T) (rows slice new : List T) (place n : ℕ) → new ≡ insert rows place row → place ≡ unwrap_or (position (λ r. nat_lt n (rank r)) slice) (length slice) → slice ≡ rows → n ≡ rank row → new ≡ in_order rank row rows
inserted {T} rank row rows slice new place n is at same of =
    let here : place ≡ unwrap_or (position (λ r. nat_lt (rank row) (rank r)) rows) (length rows) =
    at ∙ (ap (λ (xs : List T). unwrap_or (position (λ r. nat_lt n (rank r)) xs) (length xs)) same ∙ ap (λ (m : ℕ). unwrap_or (position (λ r. nat_lt m (rank r)) rows) (length rows)) of) in
    is ∙ (ap (λ (i : ℕ). insert rows i row) (here ∙ position_is (λ r. nat_lt (rank row) (rank r)) rows) ∙ insert_at_place rank row rows)
