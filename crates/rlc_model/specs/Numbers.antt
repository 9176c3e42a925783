-- First numbers and first runs of places.
use Rattle.std.specs.Prelude.{◌≡◌, ℕ, ◌<◌, ◌≤◌, Bool, true, false, List, slice_index_or}

-- y is the first number from x on of which P holds
pub record IsFirst (P : ℕ → Type 0) (x y : ℕ) : Type 0 where
  pub from : x ≤ y
  pub has : P y
  pub none : (n : ℕ) → x ≤ n → n < y → P n → ⊥

-- the places from a up to but without b are the first maximal run of places whose flag is true
pub record IsFirstRun (flags : List Bool) (a b : ℕ) : Type 0 where
  pub some : a < b
  pub run : (p : ℕ) → a ≤ p → p < b → slice_index_or flags p false ≡ true
  pub before : (p : ℕ) → p < a → slice_index_or flags p false ≡ false
  pub stops : slice_index_or flags b false ≡ false
