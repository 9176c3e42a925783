-- Sets of places of bytes in an SDU. A set has a flag for each place that there can be.
use Rattle.std.specs.Prelude.{◌≡◌, ℕ, ◌+◌, ◌-◌, ◌<◌, ◌≤◌, Bool, true, false, List, length, slice_index_or}
use Rattle.link_base.specs.declared.limits.TheConstants.{LONGEST_RLC_SDU}

-- whether the set has the place
abbrev pub has : List Bool → ℕ → Bool
has spans place = slice_index_or spans place false

-- the set has the place
abbrev pub Has : List Bool → ℕ → Type 0
Has spans place = has spans place ≡ true

-- the set lacks the place
abbrev pub Lacks : List Bool → ℕ → Type 0
Lacks spans place = has spans place ≡ false

-- the set has each place from `from` up to but without `to`
abbrev pub HasAll : List Bool → ℕ → ℕ → Type 0
HasAll spans from to = (place : ℕ) → from ≤ place → place < to → Has spans place

-- the set lacks each of these places
abbrev pub LacksAll : List Bool → ℕ → ℕ → Type 0
LacksAll spans from to = (place : ℕ) → from ≤ place → place < to → Lacks spans place

-- the set lacks one of these places
abbrev pub LacksOne : List Bool → ℕ → ℕ → Type 0
LacksOne spans from to = (place : ℕ) × (from ≤ place) × (place < to) × Lacks spans place

-- a set without places
pub record IsEmpty (spans : List Bool) : Type 0 where
  pub flags : length spans ≡ LONGEST_RLC_SDU
  pub none : (place : ℕ) → Lacks spans place

-- the new set has the old one's places and those from `from` up to but without `to`
pub record Adds (old new : List Bool) (from to : ℕ) : Type 0 where
  pub flags : length new ≡ LONGEST_RLC_SDU
  pub within : HasAll new from to
  pub below : (place : ℕ) → place < from → has new place ≡ has old place
  pub above : (place : ℕ) → to ≤ place → has new place ≡ has old place

-- the new set has the old one's places but those from `from` up to but without `to`
pub record Removes (old new : List Bool) (from to : ℕ) : Type 0 where
  pub flags : length new ≡ LONGEST_RLC_SDU
  pub within : LacksAll new from to
  pub below : (place : ℕ) → place < from → has new place ≡ has old place
  pub above : (place : ℕ) → to ≤ place → has new place ≡ has old place

-- the set has the places from `from` up to but without `to`, and no others
pub record HasOnly (spans : List Bool) (from to : ℕ) : Type 0 where
  pub flags : length spans ≡ LONGEST_RLC_SDU
  pub within : HasAll spans from to
  pub below : (place : ℕ) → place < from → Lacks spans place
  pub above : (place : ℕ) → to ≤ place → Lacks spans place

-- the places from `from` up to but without `to` are the set's first maximal run
pub record IsFirstRun (spans : List Bool) (from to : ℕ) : Type 0 where
  pub some : from < to
  pub before : (place : ℕ) → place < from → Lacks spans place
  pub run : HasAll spans from to
  pub stops : Lacks spans to

-- of the places from `from` up to but without `until`, those from `start` up to but without `stop` are the first
-- maximal run that the set lacks
pub record IsFirstGap (spans : List Bool) (from until start stop : ℕ) : Type 0 where
  pub some : start < stop
  pub after : from ≤ start
  pub within : stop ≤ until
  pub before : HasAll spans from start
  pub gap : LacksAll spans start stop
  pub stops : stop < until → Has spans stop

-- one more than the greatest place of the set, or 0
pub record IsEnd (spans : List Bool) (end : ℕ) : Type 0 where
  pub above : (place : ℕ) → end ≤ place → Lacks spans place
  pub last : 0 < end → Has spans (end - 1)

-- two sets with the same places are equal
abbrev pub SamePlacesSameSet : Type 0
SamePlacesSameSet = (a b : List Bool) → length a ≡ LONGEST_RLC_SDU → length b ≡ LONGEST_RLC_SDU → ((place : ℕ) → has a place ≡ has b place) → a ≡ b

-- the set has places, but none from the one before `from` up to `to` itself
pub record IsApart (spans : List Bool) (from to : ℕ) : Type 0 where
  pub some : (place : ℕ) × Has spans place
  pub none : LacksAll spans (from - 1) (to + 1)

-- the set has each place from the one before `from` up to `to` itself
pub record SplitsRun (spans : List Bool) (from to : ℕ) : Type 0 where
  pub before : 0 < from
  pub run : HasAll spans (from - 1) (to + 1)

-- the set lacks a place between two that it has
pub record HasTwoRuns (spans : List Bool) : Type 0 where
  pub low : ℕ
  pub between : ℕ
  pub high : ℕ
  pub rises : (low < between) × (between < high)
  pub places : Has spans low × Lacks spans between × Has spans high
