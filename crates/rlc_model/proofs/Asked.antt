-- Three SDUs, of which the second is lost: the receiver's side.
use Rattle.std.proofs.Common.{◌≡◌, ◌≢◌, ◌⊎◌, inl, inr, ℕ, zero, suc, ◌<◌, ◌≤◌, Bool, true, false, List, [], ◌∷◌, length, get_or, Option, Some, None, refl, sym, ◌∙◌, ap, subst, arith}
use Rattle.std.specs.List.{Contains}
use Rattle.std.proofs.lemmas.Bool.{false≢true}
use Rattle.std.proofs.lemmas.Option.{none-some}
use Rattle.rlc_model.specs.Rx.{Rx, Got, Done, Part, got, held_at, rx_next, IsRepeat, IsConflict, other_length, held_past, past_length, no_last, starts, rests, IsDue, Completes, ExpiresReassembly}
use Rattle.rlc_model.specs.Made.{run, IsMissing, all, group, WritesStatus}
use Rattle.rlc_model.specs.Worked.{r0, sdu0, sdu1, sdu2, whole, asks, AsksForMissing}
use Rattle.rlc_model.proofs.Checks.{at_below, same_option, option_is, places_of, part_not_done, only_one, contains_none, contains_one}

-- all bytes of an SDU, as they are held
abbrev held : List ℕ → List (Option ℕ)
held [] = []
held (b ∷ bs) = Some b ∷ held bs

-- nothing is got
abbrev missing : Got
missing = Part [] None

-- the receiver at each step
abbrev r1 : Rx
r1 = record r0 { received = Done ∷ []; rx_highest_status = 1 }

abbrev r2 : Rx
r2 = record r1 { received = Done ∷ missing ∷ Done ∷ []; rx_next_status_trigger = Some 3; delayed_polls = 2 ∷ [] }

abbrev r3 : Rx
r3 = record r2 { rx_highest_status = 3; rx_next_status_trigger = None; status_triggered = true; delayed_polls = [] }

abbrev r4 : Rx
r4 = record r3 { status_triggered = false; status_prohibit_runs = true }

abbrev r5 : Rx
r5 = record r4 { received = Done ∷ Done ∷ Done ∷ []; status_triggered = true }

abbrev r6 : Rx
r6 = record r5 { status_prohibit_runs = false }

abbrev r7 : Rx
r7 = record r6 { status_triggered = false; status_prohibit_runs = true }

-- of a number of which nothing is held, a whole SDU disagrees with nothing
agrees : (sn : ℕ) (poll : Bool) (sdu : List ℕ) → IsConflict missing (whole sn poll sdu) → ⊥
agrees sn poll sdu (other_length l ends is ne) = none-some l is
agrees sn poll sdu (held_past p ends past h) = h refl
agrees sn poll sdu (past_length l is past) = none-some l is
agrees sn poll sdu (no_last goes is) = false≢true (sym goes)

-- a whole SDU of three bytes brings something new
is_fresh : (r : Rx) (x sn : ℕ) (poll : Bool) (sdu : List ℕ) → rx_next r ≤ x → got r x ≡ missing → length sdu ≡ 3 → IsRepeat r x (whole sn poll sdu) → ⊥
is_fresh r x sn poll sdu le none long (inl below) = omega (arith, below, le)
is_fresh r x sn poll sdu le none long (inr (inl done)) = part_not_done [] None (sym none ∙ done)
is_fresh r x sn poll sdu le none long (inr (inr full)) = full.0 0 (omega arith) (omega (arith, long)) (ap (λ (g : Got). held_at g 0) none)

-- the first is heard
hears_first : Completes r0 0 (whole 0 false sdu0) sdu0 r1
hears_first = record {
  held = held sdu0;
  len = Some 3;
  places = places_of missing (whole 0 false sdu0) (held sdu0) (Some 3) 3 (omega arith) (omega arith) (λ p le. refl) refl refl;
  covers = record { known = refl; bytes = λ p lt. option_is (get_or (held sdu0) p None) (Some (get_or sdu0 p 0)) (at_below (λ p. same_option (get_or (held sdu0) p None) (Some (get_or sdu0 p 0))) 3 refl p lt) };
  enters = record { this = refl; others = others; long = refl };
  highest_status = inl (refl, record { from = omega arith; has = part_not_done [] None; none = λ n low high. absurd (omega arith) });
  size = refl;
  prohibit = refl;
  reassembly = rests (λ t is runs. none-some t is) (λ w. elim w [ inl lt ↦ omega (arith, lt) | inr e ↦ omega (arith, e.0) ]) refl;
  polls = record {
    triggers = (λ e. absurd (false≢true e), λ why. elim why [ inl e ↦ e | inr (inl p) ↦ absurd (false≢true p.0) | inr (inr k) ↦ absurd (contains_none k.0 k.1) ]);
    delays = λ k. (λ c. absurd (contains_none k c), λ h. elim h.0 [ inl c ↦ c | inr p ↦ absurd (false≢true p.0) ]);
    rises = λ k lt. absurd (omega (arith, lt));
  };
}
  where
    others : (n : ℕ) → n ≢ 0 → got r1 n ≡ got r0 n
    others zero ne = absurd (ne refl)
    others (suc n) ne = refl

-- the third is heard, and its poll is delayed
hears_third : Completes r1 2 (whole 2 true sdu2) sdu2 r2
hears_third = record {
  held = held sdu2;
  len = Some 3;
  places = places_of missing (whole 2 true sdu2) (held sdu2) (Some 3) 3 (omega arith) (omega arith) (λ p le. refl) refl refl;
  covers = record { known = refl; bytes = λ p lt. option_is (get_or (held sdu2) p None) (Some (get_or sdu2 p 0)) (at_below (λ p. same_option (get_or (held sdu2) p None) (Some (get_or sdu2 p 0))) 3 refl p lt) };
  enters = record { this = refl; others = others; long = refl };
  highest_status = inr (λ e. absurd (omega (arith, e)), refl);
  size = refl;
  prohibit = refl;
  reassembly = starts (λ t is runs. none-some t is) (inl (omega arith)) refl;
  polls = record {
    triggers = (λ e. absurd (false≢true e), λ why. elim why [ inl e ↦ e | inr (inl p) ↦ absurd (not_due p.1) | inr (inr k) ↦ absurd (contains_none k.0 k.1) ]);
    delays = λ k. (
      λ c. (inr (refl, only_one 2 k c), λ due. not_due (subst (IsDue r2) (only_one 2 k c) due)),
      λ h. elim h.0 [ inl c ↦ absurd (contains_none k c) | inr p ↦ subst (Contains (2 ∷ [])) (sym p.1) (contains_one 2) ],
    );
    rises = λ k lt. absurd (omega (arith, lt));
  };
}
  where
    others : (n : ℕ) → n ≢ 2 → got r2 n ≡ got r1 n
    others zero ne = refl
    others (suc zero) ne = refl
    others (suc (suc zero)) ne = absurd (ne refl)
    others (suc (suc (suc n))) ne = refl

    not_due : IsDue r2 2 → ⊥
    not_due (inl lt) = omega (arith, lt)
    not_due (inr le) = omega (arith, le)

-- t-Reassembly runs out, and a STATUS is triggered
runs_out : ExpiresReassembly r2 r3
runs_out = record {
  trigger = 3;
  runs = refl;
  highest_status = record { from = omega arith; has = part_not_done [] None; none = λ n low high. absurd (omega arith) };
  reassembly = inr (λ w. elim w [ inl lt ↦ omega (arith, lt) | inr e ↦ omega (arith, e.0) ], refl);
  is = refl;
  delays = λ k. (λ c. absurd (contains_none k c), λ h. absurd (h.1 (inl (omega (arith, only_one 2 k h.0)))));
  rises = λ k lt. absurd (omega (arith, lt));
}

-- number 1 alone is missing
only_missing : (n : ℕ) → IsMissing r3 n → n ≡ 1
only_missing zero m = absurd (m.1 refl)
only_missing (suc zero) m = refl
only_missing (suc (suc zero)) m = absurd (m.1 refl)
only_missing (suc (suc (suc n))) m = absurd (omega (arith, m.0))

-- so the STATUS asks for number 1
makes_asks : WritesStatus r3 100 3 asks r4
makes_asks = record {
  due = refl;
  room = omega arith;
  ack = refl;
  writes = group 1 2 asks.nacks
      (record { from = omega arith; has = (omega arith, part_not_done [] None); none = λ n low high m. omega (arith, only_missing n m, high) })
      (run 2 (λ p. refl) (record { from = omega arith; has = inr (inl refl); none = none }) refl refl)
      (omega arith)
      (all (λ n past m. omega (arith, only_missing n m, past)));
  after = refl;
}
  where
    none : (n : ℕ) → 1 ≤ n → n < 2 → (n ≡ 3) ⊎ (got r3 n ≡ Done) ⊎ ((p : ℕ) × (held_at (got r3 n) p ≢ None)) → ⊥
    none n low high (inl e) = omega (arith, high, e)
    none n low high (inr (inl done)) = part_not_done [] None (sym (ap (got r3) (let one : n ≡ 1 = omega arith in one)) ∙ done)
    none n low high (inr (inr some)) = some.1 (ap (λ (n : ℕ). held_at (got r3 n) some.0) (let one : n ≡ 1 = omega arith in one))

-- the second is heard, and its poll triggers a STATUS
hears_second : Completes r4 1 (whole 1 true sdu1) sdu1 r5
hears_second = record {
  held = held sdu1;
  len = Some 3;
  places = places_of missing (whole 1 true sdu1) (held sdu1) (Some 3) 3 (omega arith) (omega arith) (λ p le. refl) refl refl;
  covers = record { known = refl; bytes = λ p lt. option_is (get_or (held sdu1) p None) (Some (get_or sdu1 p 0)) (at_below (λ p. same_option (get_or (held sdu1) p None) (Some (get_or sdu1 p 0))) 3 refl p lt) };
  enters = record { this = refl; others = others; long = refl };
  highest_status = inr (λ e. absurd (omega (arith, e)), refl);
  size = refl;
  prohibit = refl;
  reassembly = rests (λ t is runs. none-some t is) (λ w. elim w [ inl lt ↦ omega (arith, lt) | inr e ↦ omega (arith, e.0) ]) refl;
  polls = record {
    triggers = (λ e. inr (inl (refl, inl (omega arith))), λ why. refl);
    delays = λ k. (λ c. absurd (contains_none k c), λ h. elim h.0 [ inl c ↦ c | inr p ↦ absurd (h.1 (inl (omega (arith, p.1)))) ]);
    rises = λ k lt. absurd (omega (arith, lt));
  };
}
  where
    others : (n : ℕ) → n ≢ 1 → got r5 n ≡ got r4 n
    others zero ne = refl
    others (suc zero) ne = absurd (ne refl)
    others (suc (suc n)) ne = refl

-- then no number is missing
none_missing : (n : ℕ) → IsMissing r6 n → ⊥
none_missing zero m = m.1 refl
none_missing (suc zero) m = m.1 refl
none_missing (suc (suc zero)) m = m.1 refl
none_missing (suc (suc (suc n))) m = omega (arith, m.0)

pub asks_for_missing : AsksForMissing
asks_for_missing = (
  r1,
  r2,
  r3,
  r4,
  r5,
  r6,
  r7,
  (record { same = refl; low = omega arith; high = omega arith }, is_fresh r0 0 0 false sdu0 (omega arith) refl refl, agrees 0 false sdu0, hears_first),
  (record { same = refl; low = omega arith; high = omega arith }, is_fresh r1 2 2 true sdu2 (omega arith) refl refl, agrees 2 true sdu2, hears_third),
  refl,
  runs_out,
  makes_asks,
  refl,
  (record { same = refl; low = omega arith; high = omega arith }, is_fresh r4 1 1 true sdu1 (omega arith) refl refl, agrees 1 true sdu1, hears_second),
  refl,
  record { runs = refl; is = refl },
  record { due = refl; room = omega arith; ack = refl; writes = all (λ n past m. none_missing n m); after = refl },
  refl,
)
