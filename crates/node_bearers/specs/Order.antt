-- Bearers in the order of their keys.
use Rattle.std.specs.Prelude.{◌≡◌, ◌≢◌, ℕ, ◌<◌, false, List, length}
use Rattle.std.specs.List.{AllByRecursion, HoldsAt}
use Rattle.link_base.specs.declared.names.Key.{Key}
use Rattle.link_base.specs.declared.names.Way.{Way}
use Rattle.bearer_map.specs.Order.{IsAscending}
use Rattle.node_model.specs.Names.{is_key}
use Rattle.node_bearers.specs.declared.bearer.Bearer.{Bearer}
use Rattle.node_bearers.specs.Bearer.{rank, bearer_key}

-- a bearer's identity is a number of an octet
abbrev pub IsSmall : Bearer → Type 0
IsSmall b = b.drb.0 < 256

-- bearers in the order of their keys, each once
pub record IsInOrder (rows : List Bearer) : Type 0 where
  pub ascend : IsAscending rank rows
  pub small : AllByRecursion IsSmall rows

-- there is a bearer at this place, and this holds of it
abbrev pub IsAt : (Bearer → Type 0) → List Bearer → ℕ → Type 0
IsAt P rows place = (place < length rows) × HoldsAt P rows place

-- the bearer's key in this way is this key
abbrev pub IsOf : Way → Key → Bearer → Type 0
IsOf way key b = key ≡ bearer_key way b

-- the bearer has this rank
abbrev pub HasRank : ℕ → Bearer → Type 0
HasRank n b = rank b ≡ n

-- no bearer has this key in this way
abbrev pub HasNone : Way → Key → List Bearer → Type 0
HasNone way key rows = AllByRecursion (λ (b : Bearer). is_key key (bearer_key way b) ≡ false) rows

-- no bearer has this rank
abbrev pub HasNoRank : ℕ → List Bearer → Type 0
HasNoRank n rows = AllByRecursion (λ (b : Bearer). rank b ≢ n) rows
