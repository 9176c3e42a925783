-- Rows in ascending order of a rank, which stands for their names.
use Rattle.std.specs.Prelude.{ℕ, ◌<◌, ◌==◌, Bool, List, [], ◌∷◌, nat_lt, if◌then◌else◌}
use Rattle.std.specs.List.{list_any, AllByRecursion}

-- one of the rows has this rank
abbrev pub has_row : {T : Type 0} → (T → ℕ) → List T → ℕ → Bool
has_row rank rows n = list_any (λ row. rank row == n) rows

-- the rows and one more, before the first of a higher rank
abbrev pub in_order : {T : Type 0} → (T → ℕ) → T → List T → List T
in_order rank row [] = row ∷ []
in_order rank row (r ∷ rows) = if nat_lt (rank row) (rank r) then row ∷ r ∷ rows else r ∷ in_order rank row rows

-- each row has a lower rank than all behind it
abbrev pub IsAscending : {T : Type 0} → (T → ℕ) → List T → Type 0
IsAscending rank [] = Unit {0}
IsAscending rank (r ∷ rows) = AllByRecursion (λ row. rank r < rank row) rows × IsAscending rank rows
