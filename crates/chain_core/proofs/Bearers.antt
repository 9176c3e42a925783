-- The row of a bearer among rows in order.
use Rattle.std.proofs.Common.{◌≡◌, inl, inr, ℕ, zero, suc, ◌<◌, ◌==◌, Bool, true, false, ◌&&◌, ◌||◌, nat_lt, List, [], ◌∷◌, length, get_or, refl, sym, ◌∙◌, ap, subst, arith}
use Rattle.std.specs.List.{list_any, AllByRecursion}
use Rattle.std.specs.List.Sorted.{IsPartitionedBy, IsPartitionPoint}
use Rattle.std.proofs.lemmas.Bool.{cases_Bool, cases_order, eqb-true, ltb-true, lt-ltb, false≢true, true≢false}
use Rattle.std.proofs.lemmas.List.{get_or_default}
use Rattle.link_base.specs.declared.names.Drb.{Drb}
use Rattle.link_base.specs.declared.names.Remote.{Remote}
use Rattle.bearer_map.specs.declared.rows.BearerRow.{BearerRow}
use Rattle.bearer_map.specs.Contents.{pair, bearer_rank}
use Rattle.bearer_map.specs.Order.{IsAscending}
use Rattle.node_model.specs.Names.{is_remote}

-- what holds of each row holds of the one at a place
each_at : (P : BearerRow → Type 0) (rows : List BearerRow) (i : ℕ) (d : BearerRow) → AllByRecursion P rows → i < length rows → P (get_or rows i d)
each_at P [] i d all lt = absurd (omega (arith, lt))
each_at P (r ∷ rows) zero d all lt = all.0
each_at P (r ∷ rows) (suc i) d all lt = each_at P rows i d all.1 (omega (arith, lt))

rises : (rows : List BearerRow) (i j : ℕ) (d : BearerRow) → IsAscending bearer_rank rows → i < j → j < length rows → bearer_rank (get_or rows i d) < bearer_rank (get_or rows j d)
rises [] i j d up lt within = absurd (omega (arith, within))
rises (r ∷ rows) i zero d up lt within = absurd (omega (arith, lt))
rises (r ∷ rows) zero (suc j) d up lt within = each_at (λ (row : BearerRow). bearer_rank r < bearer_rank row) rows j d up.0 (omega (arith, within))
rises (r ∷ rows) (suc i) (suc j) d up lt within = rises rows i j d up.1 (omega (arith, lt)) (omega (arith, within))

module _ (remote : Remote) (drb : Drb) (rows : List BearerRow) (up : IsAscending bearer_rank rows) where
  -- the row stands before that of the bearer
  abbrev pub is_below : BearerRow → Bool
  is_below row = nat_lt (bearer_rank row) (pair remote.0 drb.0)

  abbrev pub is_row : BearerRow → Bool
  is_row row = is_remote remote row.remote && (drb.0 == row.drb.0)

  pub parted : IsPartitionedBy is_below rows
  parted i j d le lt is = elim (cases_order i j) [
    | inl same ↦ subst (λ k. is_below (get_or rows k d) ≡ true) (sym same) is
    | inr (inl below) ↦ lt-ltb (bearer_rank (get_or rows i d)) (pair remote.0 drb.0) (omega (arith, rises rows i j d up below lt, ltb-true (bearer_rank (get_or rows j d)) (pair remote.0 drb.0) is))
    | inr (inr above) ↦ absurd (omega (arith, le, above))
  ]

  its_rank : (row : BearerRow) → is_row row ≡ true → bearer_rank row ≡ pair remote.0 drb.0
  its_rank row is = elim (cases_Bool (is_remote remote row.remote)) [
    | inl same ↦ omega (arith, eqb-true remote.0 row.remote.0 same, eqb-true drb.0 row.drb.0 (sym (ap (λ (b : Bool). b && (drb.0 == row.drb.0)) same) ∙ is))
    | inr apart ↦ absurd (false≢true (sym (ap (λ (b : Bool). b && (drb.0 == row.drb.0)) apart) ∙ is))
  ]

  pub any_here : (place : ℕ) (d : BearerRow) → place < length rows → is_row (get_or rows place d) ≡ true → list_any is_row rows ≡ true
  any_here place d lt is = go rows place lt is
    where
      or_true : (a : Bool) → (a || true) ≡ true
      or_true true = refl
      or_true false = refl

      go : (rows : List BearerRow) (place : ℕ) → place < length rows → is_row (get_or rows place d) ≡ true → list_any is_row rows ≡ true
      go [] place lt is = absurd (omega (arith, lt))
      go (r ∷ rows) zero lt is = ap (λ (b : Bool). b || list_any is_row rows) is
      go (r ∷ rows) (suc place) lt is = ap (λ (b : Bool). is_row r || b) (go rows place (omega (arith, lt)) is) ∙ or_true (is_row r)

  pub none_here : (place : ℕ) → IsPartitionPoint (λ (row : BearerRow). is_below row ≡ true) (λ (row : BearerRow). is_below row ≡ false) rows place
      → ((d : BearerRow) → place < length rows → is_row (get_or rows place d) ≡ false) → list_any is_row rows ≡ false
  none_here place point other = all rows each
    where
      each : (j : ℕ) (d : BearerRow) → j < length rows → is_row (get_or rows j d) ≡ false
      each j d lt = elim (cases_Bool (is_row (get_or rows j d))) [
        | inr left ↦ left
        | inl is ↦ elim (cases_order j place) [
          | inl at ↦ subst (λ k. is_row (get_or rows k d) ≡ false) (sym at) (other d (subst (λ k. k < length rows) at lt))
          | inr (inl below) ↦ absurd (omega (arith, its_rank (get_or rows j d) is, ltb-true (bearer_rank (get_or rows j d)) (pair remote.0 drb.0) (point.0 j d (omega arith) below)))
          | inr (inr above) ↦ absurd (true≢false (sym (lt-ltb (bearer_rank (get_or rows place d)) (pair remote.0 drb.0)
              (omega (arith, rises rows place j d up above lt, its_rank (get_or rows j d) is))) ∙ point.1 place d (omega arith) (omega (arith, above, lt))))
        ]
      ]

      all : (rows : List BearerRow) → ((j : ℕ) (d : BearerRow) → j < length rows → is_row (get_or rows j d) ≡ false) → list_any is_row rows ≡ false
      all [] no_row = refl
      all (r ∷ rows) no_row = ap (λ (b : Bool). b || list_any is_row rows) (no_row 0 r (omega arith)) ∙ all rows (λ j d lt. no_row (suc j) d (omega (arith, lt)))

  -- the bearer has a row where the one at this place is its row
  pub is_here : (place : ℕ) (d : BearerRow) → IsPartitionPoint (λ (row : BearerRow). is_below row ≡ true) (λ (row : BearerRow). is_below row ≡ false) rows place → place < length rows
      → is_row (get_or rows place d) ≡ list_any is_row rows
  is_here place d point lt = elim (cases_Bool (is_row (get_or rows place d))) [
    | inl is ↦ is ∙ sym (any_here place d lt is)
    | inr left ↦ left ∙ sym (none_here place point (λ e lt. ap is_row (get_or_default rows place e d lt) ∙ left))
  ]
