-- Numbers of delayed polls.
use Rattle.std.specs.Prelude.{◌≡◌, ◌≢◌, ◌⊎◌, ◌↔◌, ℕ, ◌<◌, Bool, true, List, ◌∷◌, Contains}

-- the new list has the old one's numbers, and this one where there is a poll
abbrev pub AddsIf : List ℕ → Bool → ℕ → List ℕ → Type 0
AddsIf old poll number new = (k : ℕ) → Contains new k ↔ (Contains old k ⊎ ((poll ≡ true) × (k ≡ number)))

-- the new list has the old one's numbers but this one
abbrev pub DropsOne : List ℕ → ℕ → List ℕ → Type 0
DropsOne old number new = (k : ℕ) → Contains new k ↔ (Contains old k × (k ≢ number))

-- the new list has the old one's numbers but those below `until`
abbrev pub Drops : List ℕ → ℕ → List ℕ → Type 0
Drops old until new = (k : ℕ) → Contains new k ↔ (Contains old k × (k < until → ⊥))

-- a number of the list is below `until`
abbrev pub HasBelow : List ℕ → ℕ → Type 0
HasBelow numbers until = (k : ℕ) × Contains numbers k × (k < until)

-- the new list has the old one's numbers but the first, which is below `until`
abbrev pub PopsBelow : List ℕ → ℕ → List ℕ → Type 0
PopsBelow old until new = (first : ℕ) × (first < until) × (old ≡ first ∷ new)
