-- Rows in strict order: a name is that of one row.
use Rattle.std.proofs.Common.{◌≡◌, ℕ, zero, suc, ◌<◌, Bool, true, false, List, [], ◌∷◌, length, get_or, set, Some, None, refl, sym, ◌∙◌, ap, subst, arith}
use Rattle.std.proofs.lemmas.Bool.{both_ways, false_from_ne_true}
use Rattle.std.specs.Prelude.{find}
use Rattle.std.specs.List.{AllByRecursion}
use Rattle.node_model.specs.Names.{replaced}
use Rattle.node_model.specs.Rows.{AreOrdered}
use Rattle.node_model.specs.Laws.{OrderedRows}

-- what holds of each element holds at each place
at_place : {T : Type 0} (P : T → Type 0) (xs : List T) → AllByRecursion P xs → (place : ℕ) (d : T) → place < length xs → P (get_or xs place d)
at_place P [] all place d lt = absurd (omega arith)
at_place P (x ∷ xs) all zero d lt = all.0
at_place P (x ∷ xs) all (suc k) d lt = at_place P xs all.1 k d (omega arith)

-- where no row passes, each stays
pub none_replaced : {T : Type 0} (test : T → Bool) (rows : List T) (new : T) → AllByRecursion (λ row. test row ≡ false) rows → replaced test new rows ≡ rows
none_replaced test [] new all = refl
none_replaced test (r ∷ rows) new all = rw all.0 (ap (λ xs. r ∷ xs) (none_replaced test rows new all.1))

module _ {T : Type 0} (before : T → T → Bool) (test : T → Bool) (apart : (a b : T) → test a ≡ true → test b ≡ true → before a b ≡ false) where
  -- no row behind one that passes does
  behind : (row : T) (rows : List T) → test row ≡ true → AllByRecursion (λ other. before row other ≡ true) rows → AllByRecursion (λ other. test other ≡ false) rows
  behind row [] is all = tt
  behind row (r ∷ rows) is all = (false_from_ne_true (test r) (λ t. both_ways (before row r) (apart row r is t) all.0), behind row rows is all.1)

  pub finds_row : (rows : List T) (place : ℕ) (row : T) → AreOrdered before rows → place < length rows → row ≡ get_or rows place row → test row ≡ true
      → (find test rows ≡ Some row) × ((new : T) → replaced test new rows ≡ set rows place new)
  finds_row [] place row up lt here is = absurd (omega arith)
  finds_row (r ∷ rows) zero row up lt here is =
      let t : test r ≡ true = subst (λ x. test x ≡ true) here is in
      (rw t (ap (λ x. Some x) (sym here)), λ new. rw t (ap (λ xs. new ∷ xs) (none_replaced test rows new (behind r rows t up.0))))
  finds_row (r ∷ rows) (suc k) row up lt here is =
      let later : before r row ≡ true = subst (λ x. before r x ≡ true) (sym here) (at_place (λ x. before r x ≡ true) rows up.0 k row (omega arith)) in
      let f : test r ≡ false = false_from_ne_true (test r) (λ t. both_ways (before r row) (apart r row t is) later) in
      let rest = finds_row rows k row up.1 (omega arith) here is in
      (rw f rest.0, λ new. rw f (ap (λ xs. r ∷ xs) (rest.1 new)))

pub finds_none : {T : Type 0} (test : T → Bool) (rows : List T) → ((place : ℕ) (row : T) → place < length rows → test (get_or rows place row) ≡ false) → find test rows ≡ None
finds_none test [] none = refl
finds_none test (r ∷ rows) none = rw (none 0 r (omega arith)) (finds_none test rows (λ place row lt. none (suc place) row (omega arith)))

module _ {T : Type 0} (before : T → T → Bool) where
  pub places_ordered : (rows : List T) → AreOrdered before rows → (low high : ℕ) (row : T) → low < high → high < length rows → before (get_or rows low row) (get_or rows high row) ≡ true
  places_ordered [] up low high row lt end = absurd (omega arith)
  places_ordered (r ∷ rows) up low zero row lt end = absurd (omega arith)
  places_ordered (r ∷ rows) up zero (suc high) row lt end = at_place (λ x. before r x ≡ true) rows up.0 high row (omega arith)
  places_ordered (r ∷ rows) up (suc low) (suc high) row lt end = places_ordered rows up.1 low high row (omega arith) (omega arith)

  -- what holds of each row holds still where one is replaced of which it holds
  set_all : (P : T → Type 0) (rows : List T) (place : ℕ) (new : T) → AllByRecursion P rows → P new → AllByRecursion P (set rows place new)
  set_all P [] place new all is = tt
  set_all P (r ∷ rows) zero new all is = (is, all.1)
  set_all P (r ∷ rows) (suc k) new all is = (all.0, set_all P rows k new all.1 is)

  same_all : (row new : T) (rows : List T) → ((other : T) → before new other ≡ before row other) → AllByRecursion (λ other. before row other ≡ true) rows
      → AllByRecursion (λ other. before new other ≡ true) rows
  same_all row new [] same all = tt
  same_all row new (r ∷ rows) same all = (same r ∙ all.0, same_all row new rows same all.1)

  pub stays_ordered : (rows : List T) (place : ℕ) (row new : T) → AreOrdered before rows → place < length rows → row ≡ get_or rows place row
      → ((other : T) → before other new ≡ before other row) → ((other : T) → before new other ≡ before row other) → AreOrdered before (set rows place new)
  stays_ordered [] place row new up lt here left right = absurd (omega arith)
  stays_ordered (r ∷ rows) zero row new up lt here left right =
      (same_all r new rows (λ other. right other ∙ ap (λ x. before x other) here) up.0, up.1)
  stays_ordered (r ∷ rows) (suc k) row new up lt here left right =
      let is : before r new ≡ true = left r ∙ subst (λ x. before r x ≡ true) (sym here) (at_place (λ x. before r x ≡ true) rows up.0 k row (omega arith)) in
      (set_all (λ other. before r other ≡ true) rows k new up.0 is, stays_ordered rows k row new up.1 (omega arith) here left right)

pub ordered_rows : (T : Type 0) → OrderedRows T
ordered_rows T = record {
  found = λ before test rows place row up apart lt here is. finds_row before test apart rows place row up lt here is;
  none = finds_none;
  places = λ before rows up low high row lt end. places_ordered before rows up low high row lt end;
  stays = λ before rows place row new up lt here left right. stays_ordered before rows place row new up lt here left right;
}
