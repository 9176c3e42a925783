-- Runs of numbers of which nothing is held.
use Rattle.std.proofs.Common.{◌≡◌, ◌≢◌, ◌⊎◌, inl, inr, ℕ, zero, suc, ◌+◌, ◌-◌, ◌%◌, ◌<◌, ◌≤◌, min, cond, eqb, List, [], ◌∷◌, get_or, Option, Some, None, refl, sym, subst, arith}
use Rattle.std.proofs.lemmas.Bool.{cases_eq, cases_lt}
use Rattle.std.proofs.lemmas.Option.{none-some}
use Rattle.link_base.specs.SequenceNumbers.{modulus}
use Rattle.rlc_model.specs.Numbers.{IsFirst}
use Rattle.rlc_model.specs.Rx.{Rx, Got, got}
use Rattle.rlc_model.specs.Rx.Got.{Done, Part}
use Rattle.rlc_model.specs.Made.{EndsRun, Group, HoldsNone, IsTouched}
use Rattle.rlc_model.specs.Made.Group.{run}
use Rattle.rlc_am_rx.specs.StatusMaking.{IsMissingRun}
use Rattle.rlc_am_rx.proofs.Entries.{part_not_done}

-- whether something is held
some_or_none : (held : List (Option ℕ)) → ((p : ℕ) × (get_or held p None ≢ None)) ⊎ ((p : ℕ) → get_or held p None ≡ None)
some_or_none [] = inr (λ p. refl)
some_or_none (Some b ∷ held) = inl (0, λ is. none-some b (sym is))
some_or_none (None ∷ held) = elim (some_or_none held) [ inl some ↦ inl (suc some.0, some.1) | inr none ↦ inr (later none) ]
  where
    later : ((p : ℕ) → get_or held p None ≡ None) → (p : ℕ) → get_or (None ∷ held) p None ≡ None
    later none zero = refl
    later none (suc p) = none p

touched_or_not : (g : Got) → IsTouched g ⊎ (IsTouched g → ⊥)
touched_or_not Done = inl (inl refl)
touched_or_not (Part held len) = elim (some_or_none held) [
  | inl some ↦ inl (inr some)
  | inr none ↦ inr (λ h. elim h [ inl done ↦ part_not_done done | inr some ↦ some.1 (none some.0) ])
]

module _ (r : Rx) where
  goes_on : (n : ℕ) → n < r.rx_highest_status → (IsTouched (got r n) → ⊥) → EndsRun r n → ⊥
  goes_on n lt untouched (inl limit) = omega (arith, lt, limit)
  goes_on n lt untouched (inr touched) = untouched touched

  -- one ends it at RX_Highest_Status at the latest
  first_end : (k x : ℕ) → x + k ≡ r.rx_highest_status → (y : ℕ) × IsFirst (EndsRun r) x y
  first_end zero x is = (x, record { from = omega arith; has = inl (omega (arith, is)); none = λ n ge lt ends. omega (arith, ge, lt) })
  first_end (suc k) x is = elim (touched_or_not (got r x)) [
    | inl touched ↦ (x, record { from = omega arith; has = inr touched; none = λ n ge lt ends. omega (arith, ge, lt) })
    | inr not ↦
        let rest : (y : ℕ) × IsFirst (EndsRun r) (suc x) y = first_end k (suc x) (omega (arith, is)) in (
          rest.0,
          record {
            from = omega (arith, (rest.1).from);
            has = (rest.1).has;
            none = λ n ge lt. elim (cases_eq n x) [
              | inl here ↦ λ ends. goes_on x (omega (arith, is)) not (subst (EndsRun r) here ends)
              | inr behind ↦ (rest.1).none n (omega (arith, ge, behind)) lt
            ];
          },
        )
  ]

  -- a run of at most 255 numbers is named by an element
  pub run_group : (m y : ℕ) → HoldsNone (got r m) → IsMissingRun r m y
      → Group r m y (record { sn = m % modulus r.size; part = None; range = cond (eqb (y - m) 1) None (Some (y - m)) } ∷ [])
  run_group m y none is = elim is.stops [
    | inl full ↦ let far : (z : ℕ) × IsFirst (EndsRun r) y z = first_end (r.rx_highest_status - y) y (omega (arith, is.within)) in group_to far.0
        (far.1).has (omega (arith, (far.1).from)) (far.1).none (omega (arith, full, (far.1).from))
    | inr ends ↦ group_to y ends (omega arith) (λ n ge lt ends. omega (arith, ge, lt)) (omega (arith, is.few, is.some))
  ]
    where
      within : (n : ℕ) → m ≤ n → n < y → EndsRun r n → ⊥
      within n ge lt = goes_on n (omega (arith, lt, is.within)) (is.run n ge lt)

      group_to : (end : ℕ) → EndsRun r end → y ≤ end → ((n : ℕ) → y ≤ n → n < end → EndsRun r n → ⊥) → y ≡ m + min 255 (end - m)
          → Group r m y (record { sn = m % modulus r.size; part = None; range = cond (eqb (y - m) 1) None (Some (y - m)) } ∷ [])
      group_to end has le rest long = run end none (record {
        from = omega (arith, is.some, le);
        has = has;
        none = λ n ge lt. elim (cases_lt n y) [ inl below ↦ within n ge below | inr behind ↦ rest n behind lt ];
      }) long refl
