-- Sets of places as ranges in order.
use Rattle.std.specs.Prelude.{ℕ, ◌+◌, ◌<◌, ◌≤◌, Bool, false, ◌&&◌, ◌||◌, nat_lt, nat_le, min, max, List, [], ◌∷◌, ◌++◌, map, if◌then◌else◌}
use Rattle.std.specs.List.{prefix_len, range_with_len}
use Rattle.link_base.specs.declared.limits.TheConstants.{LONGEST_RLC_SDU}
use Rattle.byte_spans.specs.declared.ranges.Range.{Range}

-- one of the ranges has the place
abbrev pub in_one : List Range → ℕ → Bool
in_one [] place = false
in_one (range ∷ rest) place = (nat_le range.start place && nat_lt place range.end) || in_one rest place

-- the ranges lie in order from `low` up to `high`, each has a place, and one place at least is between two of them
abbrev pub AreApart : ℕ → List Range → ℕ → Type 0
AreApart low [] high = Unit {0}
AreApart low (range ∷ rest) high = (low ≤ range.start) × (range.start < range.end) × (range.end ≤ high) × AreApart (range.end + 1) rest high

-- the ranges are those of a set of places
abbrev pub AreRanges : List Range → Type 0
AreRanges ranges = AreApart 0 ranges LONGEST_RLC_SDU

-- the flag of each place: whether a range has it
unfoldable pub flags_of : List Range → List Bool
flags_of ranges = map (in_one ranges) (range_with_len 0 LONGEST_RLC_SDU)

-- how many ranges end at the place or before it
abbrev pub number_ended : List Range → ℕ → ℕ
number_ended ranges place = prefix_len (λ range. nat_le range.end place) ranges

-- the range that both lie in
abbrev pub hull : Range → Range → Range
hull a b = record { start = min a.start b.start; end = max a.end b.end }

-- the ranges once one more is joined with those that it meets or touches
abbrev pub joined_with : Range → List Range → List Range
joined_with range [] = range ∷ []
joined_with range (next ∷ rest) =
    if nat_lt next.end range.start then next ∷ joined_with range rest
    else (if nat_lt range.end next.start then range ∷ next ∷ rest else joined_with (hull range next) rest)

-- what of the ranges lies below the place
abbrev pub below : List Range → ℕ → List Range
below [] place = []
below (range ∷ rest) place =
    if nat_le range.end place then range ∷ below rest place
    else (if nat_lt range.start place then record { start = range.start; end = place } ∷ [] else [])

-- what of the ranges lies from the place on
abbrev pub above : List Range → ℕ → List Range
above [] place = []
above (range ∷ rest) place =
    if nat_le range.end place then above rest place else record { start = max place range.start; end = range.end } ∷ rest

-- of the parts in front of a cut and behind it, those that have a place
abbrev pub parts_left : Range → Range → List Range
parts_left front back =
    (if nat_lt front.start front.end then front ∷ [] else []) ++ (if nat_lt back.start back.end then back ∷ [] else [])
