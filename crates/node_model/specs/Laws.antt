-- What holds of rows of a table in strict order.
use Rattle.std.specs.Prelude.{◌≡◌, ℕ, ◌<◌, Bool, true, false, List, length, slice_index_or, slice_set, find, Some, None}
use Rattle.node_model.specs.Names.{replaced}
use Rattle.node_model.specs.Rows.{AreOrdered}

-- a test tells the rows of one name, and none of two such stands before the other. So of rows in order the one that passes is found, and to replace it is to
-- write at its place
abbrev pub FindsRow : Type 0 → Type 0
FindsRow T =
    (before : T → T → Bool) (test : T → Bool) (rows : List T) (place : ℕ) (row : T) → AreOrdered before rows → ((a b : T) → test a ≡ true → test b ≡ true → before a b ≡ false)
    → place < length rows → row ≡ slice_index_or rows place row → test row ≡ true
    → (find test rows ≡ Some row) × ((new : T) → replaced test new rows ≡ slice_set rows place new)

-- where no row passes a test, none is found
abbrev pub FindsNone : Type 0 → Type 0
FindsNone T =
    (test : T → Bool) (rows : List T) → ((place : ℕ) (row : T) → place < length rows → test (slice_index_or rows place row) ≡ false)
    → find test rows ≡ None

-- of two rows in order the one at the lower place stands before the other
abbrev pub PlacesOrdered : Type 0 → Type 0
PlacesOrdered T =
    (before : T → T → Bool) (rows : List T) → AreOrdered before rows → (low high : ℕ) (row : T) → low < high → high < length rows
    → before (slice_index_or rows low row) (slice_index_or rows high row) ≡ true

-- rows stay in order where one is replaced by another that stands before and behind the same rows
abbrev pub StaysOrdered : Type 0 → Type 0
StaysOrdered T =
    (before : T → T → Bool) (rows : List T) (place : ℕ) (row new : T) → AreOrdered before rows → place < length rows → row ≡ slice_index_or rows place row
    → ((other : T) → before other new ≡ before other row) → ((other : T) → before new other ≡ before row other)
    → AreOrdered before (slice_set rows place new)

-- all four
pub record OrderedRows (T : Type 0) : Type 0 where
  pub found : FindsRow T
  pub none : FindsNone T
  pub places : PlacesOrdered T
  pub stays : StaysOrdered T
