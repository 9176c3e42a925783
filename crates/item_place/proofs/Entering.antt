-- An end gives: a new item comes to the end of a station.
use Rattle.std.proofs.Common.{◌≡◌, ◌⊎◌, inl, inr, ℕ, [], ◌∷◌, ◌++◌, length, Option, Some, None, sym, ◌∙◌, ap, subst, arith}
use Rattle.std.specs.List.{slice_get}
use Rattle.std.proofs.lemmas.Bool.{cases_eq}
use Rattle.std.proofs.lemmas.Option.{none-some, same_Some, slice_get_past}
use Rattle.std.proofs.lemmas.List.{length_push}
use Rattle.bearer_map.specs.Contents.{Contents}
use Rattle.item_law.specs.State.{Item, Spot, OnFirstHop, is_number, put, is_on_its_way}
use Rattle.item_law.proofs.base.Puts.{of_number, put_same, put_other}
use Rattle.item_place.specs.Places.{Station, Box, is_station, at, enter, Layout, StandsFor, IsSpot}
use Rattle.item_place.proofs.Pushed.{push_end, push_old, push_was}
use Rattle.item_place.proofs.Boxes.{of_station, entered_at, entered_other, cases_station, within}

module _ (t : Contents) (m : Layout) (items : ℕ → Option Item) (spot : ℕ → Spot) (fit : StandsFor t m items spot) (B : Station) (i : Item) (here : IsSpot t i OnFirstHop B) where
  abbrev pub n : ℕ
  n = length m.items

  abbrev pub box : Station → Box
  box = put is_station m.box B (enter (m.box B) n)

  pub free : items n ≡ None
  free = fit.has n ∙ slice_get_past m.items n (omega arith)

  pub enters_was : (c : Station) (j l : ℕ) → at (box c) j ≡ Some l → ((c ≡ B) × (j ≡ length (m.box B).log) × (l ≡ n)) ⊎ (at (m.box c) j ≡ Some l)
  enters_was c j l e = elim (cases_station c B) [
    | inl same ↦
        let is : at (enter (m.box B) n) j ≡ Some l = sym (ap (λ (b : Box). at b j) (ap box same ∙ put_same of_station m.box B (enter (m.box B) n))) ∙ e in
        elim (cases_eq j (length (m.box B).log)) [
          | inl at_end ↦ inl (same, at_end, same_Some l n (sym is ∙ ap (at (enter (m.box B) n)) at_end ∙ entered_at (m.box B) n (fit.fresh B (length (m.box B).log) (omega arith))))
          | inr ne ↦ inr (ap (λ (c : Station). at (m.box c) j) same ∙ sym (entered_other (m.box B) n j ne) ∙ is)
        ]
    | inr ne ↦ inr (sym (ap (λ (b : Box). at b j) (put_other of_station m.box B (enter (m.box B) n) c ne)) ∙ e)
  ]

  enters_keeps : (c : Station) (j l : ℕ) → at (m.box c) j ≡ Some l → at (box c) j ≡ Some l
  enters_keeps c j l e = elim (cases_station c B) [
    | inl same ↦ ap (λ (b : Box). at b j) (ap box same ∙ put_same of_station m.box B (enter (m.box B) n))
        ∙ entered_other (m.box B) n j (λ at_end. absurd (omega (arith, at_end, within (m.box c) j l e, ap (λ (c : Station). length (m.box c).log) same)))
        ∙ ap (λ (c : Station). at (m.box c) j) (sym same) ∙ e
    | inr ne ↦ ap (λ (b : Box). at b j) (put_other of_station m.box B (enter (m.box B) n) c ne) ∙ e
  ]

  enters_new : at (box B) (length (m.box B).log) ≡ Some n
  enters_new = ap (λ (b : Box). at b (length (m.box B).log)) (put_same of_station m.box B (enter (m.box B) n))
      ∙ entered_at (m.box B) n (fit.fresh B (length (m.box B).log) (omega arith))

  pub not_new : (c : Station) (j l : ℕ) → at (m.box c) j ≡ Some l → l ≡ n → ⊥
  not_new c j l e same = let was = fit.stands c j l e in none-some was.0 (sym free ∙ ap items (sym same) ∙ was.1)

  abbrev pub items_after : ℕ → Option Item
  items_after = put is_number items n (Some i)

  abbrev pub spot_after : ℕ → Spot
  spot_after = put is_number spot n OnFirstHop

  pub enters_on : StandsFor t (record { items = m.items ++ i ∷ []; box = box }) items_after spot_after
  enters_on = record {
    has = λ l. elim (cases_eq l n) [
      | inl e ↦ ap (put is_number items n (Some i)) e ∙ put_same of_number items n (Some i) ∙ sym (ap (slice_get (m.items ++ i ∷ [])) e ∙ push_end m.items i)
      | inr ne ↦ put_other of_number items n (Some i) l ne ∙ fit.has l ∙ sym (push_old m.items i l ne)
    ];
    stands = λ c j l e. elim (enters_was c j l e) [
      | inl new ↦ (
        i,
        ap (put is_number items n (Some i)) new.2 ∙ put_same of_number items n (Some i),
        subst (λ (c : Station). IsSpot t i (put is_number spot n OnFirstHop l) c)
            (sym new.0) (subst (λ (x : Spot). IsSpot t i x B) (sym (ap (put is_number spot n OnFirstHop) new.2 ∙ put_same of_number spot n OnFirstHop)) here),
      )
      | inr old ↦
          let was = fit.stands c j l old in
          let ne = not_new c j l old in
          (was.0, put_other of_number items n (Some i) l ne ∙ was.1, subst (λ (x : Spot). IsSpot t was.0 x c) (sym (put_other of_number spot n OnFirstHop l ne)) was.2)
    ];
    once = λ c d j k l e f. elim (enters_was c j l e) [
      | inl new ↦ elim (enters_was d k l f) [
        | inl too ↦ (new.0 ∙ sym too.0, new.1 ∙ sym too.1)
        | inr old ↦ absurd (not_new d k l old new.2)
      ]
      | inr old ↦ elim (enters_was d k l f) [
        | inl new ↦ absurd (not_new c j l old new.2)
        | inr too ↦ fit.once c d j k l old too
      ]
    ];
    found = λ l j is goes. elim (cases_eq l n) [
      | inl e ↦ (B, length (m.box B).log, enters_new ∙ ap (λ (k : ℕ). Some k) (sym e))
      | inr ne ↦
          let was = fit.found l j (sym (put_other of_number items n (Some i) l ne) ∙ is) (ap is_on_its_way (sym (put_other of_number spot n OnFirstHop l ne)) ∙ goes) in
          (was.0, was.1, enters_keeps was.0 was.1 l was.2)
    ];
    fresh = λ c k le. elim (cases_station c B) [
      | inl same ↦
          let is = ap box same ∙ put_same of_station m.box B (enter (m.box B) n) in
          ap (λ (b : Box). b.left k) is ∙ fit.fresh B k (omega (arith, le, ap (λ (b : Box). length b.log) is, length_push (m.box B).log n))
      | inr ne ↦
          let is = put_other of_station m.box B (enter (m.box B) n) c ne in
          ap (λ (b : Box). b.left k) is ∙ fit.fresh c k (omega (arith, le, ap (λ (b : Box). length b.log) is))
    ];
    known = λ c j l e. elim (cases_station c B) [
      | inl same ↦ elim (push_was (m.box B).log n j l (sym (ap (λ (b : Box). slice_get b.log j) (ap box same ∙ put_same of_station m.box B (enter (m.box B) n))) ∙ e)) [
        | inl old ↦ omega (arith, fit.known B j l old, length_push m.items i)
        | inr new ↦ omega (arith, new.1, length_push m.items i)
      ]
      | inr ne ↦ omega (arith, fit.known c j l (sym (ap (λ (b : Box). slice_get b.log j) (put_other of_station m.box B (enter (m.box B) n) c ne)) ∙ e), length_push m.items i)
    ];
  }
