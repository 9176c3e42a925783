-- Three SDUs, of which the second is lost: the transmitter's side.
use Rattle.std.proofs.Common.{◌≡◌, ◌≢◌, inl, inr, ℕ, zero, suc, ◌<◌, ◌≤◌, Bool, true, false, List, [], ◌∷◌, get_or, Option, Some, None, refl, sym, ◌∙◌, arith}
use Rattle.std.proofs.lemmas.Bool.{false≢true}
use Rattle.std.proofs.lemmas.Option.{none-some}
use Rattle.link_base.specs.declared.names.SnSize.TheVariants.{S12}
use Rattle.link_base.specs.declared.rlc_words.Tag.{Tag}
use Rattle.link_base.specs.SequenceNumbers.{Near}
use Rattle.rlc_status.specs.Says.{NamesNumber, Names}
use Rattle.rlc_model.specs.Pdu.{piece}
use Rattle.rlc_model.specs.Tx.{Tx, Kept, kept_at, is_pending, is_unsent, pending, unsent, Clears, nothing_waits, Sends}
use Rattle.rlc_model.specs.Retransmission.{first, IsBeyondAt, IsBeyond, no_number, beyond_at, above, below_zero, past_ack, begins_past, ends_past, not_sent, UpdatesSdu, confirmed, missing, rest, Acknowledges}
use Rattle.rlc_model.specs.Worked.{t0, sdu0, sdu1, sdu2, asks, confirms, SendsAgain}
use Rattle.rlc_model.proofs.Checks.{none_pending, none_unsent, not_polled, contains_none}

-- flags of three bytes
abbrev three : Bool → List Bool
three b = b ∷ b ∷ b ∷ []

-- three false flags
three_false : (p : ℕ) → get_or (three false) p false ≡ false
three_false zero = refl
three_false (suc zero) = refl
three_false (suc (suc zero)) = refl
three_false (suc (suc (suc p))) = refl

-- three true flags
three_true : (p : ℕ) → p < 3 → get_or (three true) p false ≡ true
three_true zero lt = refl
three_true (suc zero) lt = refl
three_true (suc (suc zero)) lt = refl
three_true (suc (suc (suc p))) lt = absurd (omega (arith, lt))

-- no flag stands behind them
three_past : (b : Bool) (p : ℕ) → 3 ≤ p → get_or (three b) p false ≡ false
three_past b zero le = absurd (omega (arith, le))
three_past b (suc zero) le = absurd (omega (arith, le))
three_past b (suc (suc zero)) le = absurd (omega (arith, le))
three_past b (suc (suc (suc p))) le = refl

-- all three bytes are sent for the first time, and again
clears_all : Clears [] 0 3 (three false)
clears_all = record { long = refl; sent = λ p from to. three_false p; rest = λ p out. three_false p }

clears_again : Clears (three true) 0 3 (three false)
clears_again = record { long = refl; sent = λ p from to. three_false p; rest = λ p out. three_false p ∙ sym (elim out [ inl lt ↦ absurd (omega (arith, lt)) | inr le ↦ three_past true p le ]) }

module _ (tag0 tag1 tag2 : Tag) where
  -- an SDU that is kept
  abbrev kept : Tag → List ℕ → List Bool → Option ℕ → Kept
  kept tag sdu flags count = record { tag = tag; sdu = sdu; flags = flags; retx_count = count }

  -- the transmitter at each step
  abbrev t1 : Tx
  t1 = record t0 { kept = Some (kept tag0 sdu0 [] None) ∷ [] }

  abbrev t2 : Tx
  t2 = record t0 { kept = Some (kept tag0 sdu0 [] None) ∷ Some (kept tag1 sdu1 [] None) ∷ [] }

  abbrev t3 : Tx
  t3 = record t0 { kept = Some (kept tag0 sdu0 [] None) ∷ Some (kept tag1 sdu1 [] None) ∷ Some (kept tag2 sdu2 [] None) ∷ [] }

  abbrev t4 : Tx
  t4 = record t0 { kept = Some (kept tag0 sdu0 (three false) None) ∷ Some (kept tag1 sdu1 [] None) ∷ Some (kept tag2 sdu2 [] None) ∷ []; pdu_without_poll = 1; byte_without_poll = 3 }

  abbrev t5 : Tx
  t5 = record t0 { kept = Some (kept tag0 sdu0 (three false) None) ∷ Some (kept tag1 sdu1 (three false) None) ∷ Some (kept tag2 sdu2 [] None) ∷ []; pdu_without_poll = 2; byte_without_poll = 6 }

  abbrev t6 : Tx
  t6 = record t0 { kept = Some (kept tag0 sdu0 (three false) None) ∷ Some (kept tag1 sdu1 (three false) None) ∷ Some (kept tag2 sdu2 (three false) None) ∷ []; poll_sn = Some 2; poll_retransmit_runs = true }

  abbrev t7 : Tx
  t7 = record t6 { kept = None ∷ Some (kept tag1 sdu1 (three true) (Some 0)) ∷ None ∷ []; poll_retransmit_runs = false }

  abbrev t8 : Tx
  t8 = record t6 { kept = None ∷ Some (kept tag1 sdu1 (three false) (Some 0)) ∷ None ∷ [] }

  abbrev t9 : Tx
  t9 = record t6 { kept = None ∷ None ∷ None ∷ []; poll_retransmit_runs = false }

  -- the first is sent
  sends0 : Sends t3 100 0 (piece S12 0 sdu0 0 3 false) t4
  sends0 = record {
    kept = kept tag0 sdu0 [] None;
    flags = three false;
    a = 0;
    b = 3;
    e = 3;
    next = unsent (none_pending t3 refl) (record { from = omega arith; has = refl; none = λ n low high. absurd (omega arith) }) refl refl refl;
    fits = omega arith;
    end = refl;
    view = refl;
    clears = clears_all;
    this = refl;
    others = others;
    long = refl;
    same = record { size = refl; poll_pdu = refl; poll_byte = refl; max_retx_threshold = refl };
    counters = record {
      polled = (λ e. absurd (false≢true e), λ p. absurd (not_polled t3 t4 3 refl (omega arith) refl refl (1, refl) p));
      begins = λ e. absurd (false≢true e);
      counts = λ e. record { pdu_without_poll = refl; byte_without_poll = refl; poll_owed = refl; runs = refl; poll_sn = refl };
    };
  }
    where
      others : (n : ℕ) → n ≢ 0 → kept_at t4 n ≡ kept_at t3 n
      others zero ne = absurd (ne refl)
      others (suc n) ne = refl

  -- the second
  sends1 : Sends t4 100 1 (piece S12 1 sdu1 0 3 false) t5
  sends1 = record {
    kept = kept tag1 sdu1 [] None;
    flags = three false;
    a = 0;
    b = 3;
    e = 3;
    next = unsent (none_pending t4 refl) (record { from = omega arith; has = refl; none = first_is }) refl refl refl;
    fits = omega arith;
    end = refl;
    view = refl;
    clears = clears_all;
    this = refl;
    others = others;
    long = refl;
    same = record { size = refl; poll_pdu = refl; poll_byte = refl; max_retx_threshold = refl };
    counters = record {
      polled = (λ e. absurd (false≢true e), λ p. absurd (not_polled t4 t5 3 refl (omega arith) refl refl (2, refl) p));
      begins = λ e. absurd (false≢true e);
      counts = λ e. record { pdu_without_poll = refl; byte_without_poll = refl; poll_owed = refl; runs = refl; poll_sn = refl };
    };
  }
    where
      first_is : (n : ℕ) → 0 ≤ n → n < 1 → is_unsent (kept_at t4 n) ≡ true → ⊥
      first_is zero low high e = false≢true e
      first_is (suc n) low high e = omega (arith, high)

      others : (n : ℕ) → n ≢ 1 → kept_at t5 n ≡ kept_at t4 n
      others zero ne = refl
      others (suc zero) ne = absurd (ne refl)
      others (suc (suc n)) ne = refl

  -- and the third, with a poll
  sends2 : Sends t5 100 2 (piece S12 2 sdu2 0 3 true) t6
  sends2 = record {
    kept = kept tag2 sdu2 [] None;
    flags = three false;
    a = 0;
    b = 3;
    e = 3;
    next = unsent (none_pending t5 refl) (record { from = omega arith; has = refl; none = first_is }) refl refl refl;
    fits = omega arith;
    end = refl;
    view = refl;
    clears = clears_all;
    this = refl;
    others = others;
    long = refl;
    same = record { size = refl; poll_pdu = refl; poll_byte = refl; max_retx_threshold = refl };
    counters = record {
      polled = (λ e. nothing_waits (none_unsent t6 refl) (none_pending t6 refl), λ p. refl);
      begins = λ e. record { pdu_without_poll = refl; byte_without_poll = refl; poll_owed = refl; runs = refl; highest = 2; poll_sn = refl; is_highest = record { above = λ n sent. sent.0; last = inr (omega arith, refl) } };
      counts = λ e. absurd (false≢true (sym e));
    };
  }
    where
      first_is : (n : ℕ) → 0 ≤ n → n < 2 → is_unsent (kept_at t5 n) ≡ true → ⊥
      first_is zero low high e = false≢true e
      first_is (suc zero) low high e = false≢true e
      first_is (suc (suc n)) low high e = omega (arith, high)

      others : (n : ℕ) → n ≢ 2 → kept_at t6 n ≡ kept_at t5 n
      others zero ne = refl
      others (suc zero) ne = refl
      others (suc (suc zero)) ne = absurd (ne refl)
      others (suc (suc (suc n))) ne = refl

  -- 3 lies near 1
  near_three : Near S12 3 1 3
  near_three = record { same = refl; low = omega arith; high = omega arith }

  -- the first STATUS is not beyond what was sent
  asks_fine : IsBeyond t6 asks → ⊥
  asks_fine (no_number none) = none 3 near_three
  asks_fine (beyond_at a near beyond) = go beyond
    where
      go : IsBeyondAt t6 asks a → ⊥
      go (above c is lt) = omega (arith, near.same, near.high, is.above 2 (omega arith, refl), lt)
      go (below_zero (inl h)) = h 1 (record { below = omega (arith, near.same, near.low, near.high); same = refl; last = omega (arith, near.high) })
      go (below_zero (inr h)) = h
      go (past_ack (inl h)) = omega (arith, near.same, near.low, near.high, h.1.same, h.1.below, h.2)
      go (past_ack (inr h)) = h
      go (begins_past (inl h)) = none-some (h.start, h.end) h.part
      go (begins_past (inr h)) = h
      go (ends_past (inl h)) = none-some (h.start, h.end) h.part
      go (ends_past (inr h)) = h
      go (not_sent n says is) = none_unsent t6 refl (n, is)

  -- nor is the second
  confirms_fine : IsBeyond t8 confirms → ⊥
  confirms_fine (no_number none) = none 3 (record { same = refl; low = omega arith; high = omega arith })
  confirms_fine (beyond_at a near beyond) = go beyond
    where
      go : IsBeyondAt t8 confirms a → ⊥
      go (above c is lt) = omega (arith, near.same, near.high, is.above 2 (omega arith, refl), lt)
      go (below_zero h) = h
      go (past_ack h) = h
      go (begins_past h) = h
      go (ends_past h) = h
      go (not_sent n says is) = none_unsent t8 refl (n, is)

  -- the STATUS names number 1 and no other
  names_one : NamesNumber S12 3 (record { sn = 1; part = None; range = None }) 1
  names_one = record { first = 1; is = record { below = omega arith; same = refl; last = omega arith }; from = omega arith; to = omega arith }

  -- and no other
  only_one : (n : ℕ) → n ≢ 1 → Names S12 3 asks n → ⊥
  only_one n ne (inl h) = omega (arith, ne, h.is.same, h.is.below, h.from, h.to)
  only_one n ne (inr h) = h

  -- it confirms numbers 0 and 2, and all of number 1 becomes pending
  updates_each : (n : ℕ) → UpdatesSdu t6 3 asks n [] (kept_at t7 n)
  updates_each zero = confirmed (kept tag0 sdu0 (three false) None) refl (omega arith, only_one 0 (λ e. absurd (omega (arith, e)))) refl
  updates_each (suc zero) = missing (kept tag1 sdu1 (three false) None) (kept tag1 sdu1 (three true) (Some 0)) refl (omega arith) (inl names_one) refl (record {
    tag = refl;
    sdu = refl;
    long = refl;
    pends = λ p lt. (λ e. inr (omega arith, inl (record { number = names_one; start = λ e. tt; stop = λ e. tt })), λ why. three_true p lt);
    counts = first refl refl (λ c. absurd (contains_none 1 c), λ e. absurd (omega (arith, e)));
  })
  updates_each (suc (suc zero)) = confirmed (kept tag2 sdu2 (three false) None) refl (omega arith, only_one 2 (λ e. absurd (omega (arith, e)))) refl
  updates_each (suc (suc (suc n))) = rest (inl (omega arith)) refl

  -- so the first STATUS is carried out
  asked : Acknowledges t6 asks (tag0 ∷ tag2 ∷ []) [] t7
  asked = record {
    fine = asks_fine;
    a = 3;
    ack = near_three;
    current = omega arith;
    its_tags = refl;
    mid = t7;
    missing_marks = [];
    lowest_marks = [];
    its_marks = refl;
    updates = record {
      each = updates_each;
      marks_only = λ n c. absurd (contains_none n c);
      marks_rise = λ k lt. absurd (omega (arith, lt));
      long = refl;
      same = record { size = refl; poll_pdu = refl; poll_byte = refl; max_retx_threshold = refl };
      pdu_without_poll = refl;
      byte_without_poll = refl;
      poll_owed = refl;
      poll_sn = refl;
      timer = inl (2, refl, omega arith, refl);
    };
    lowest = (λ e. absurd (false≢true e), λ e. (refl, refl));
  }

  -- the second SDU is sent again, with a poll
  sends_again : Sends t7 100 1 (piece S12 1 sdu1 0 3 true) t8
  sends_again = record {
    kept = kept tag1 sdu1 (three true) (Some 0);
    flags = three false;
    a = 0;
    b = 3;
    e = 3;
    next = pending (record { from = omega arith; has = (0, refl); none = first_is }) refl
        (record { some = omega arith; run = λ p from to. three_true p to; before = λ p lt. absurd (omega (arith, lt)); stops = refl });
    fits = omega arith;
    end = refl;
    view = refl;
    clears = clears_again;
    this = refl;
    others = others;
    long = refl;
    same = record { size = refl; poll_pdu = refl; poll_byte = refl; max_retx_threshold = refl };
    counters = record {
      polled = (λ e. nothing_waits (none_unsent t8 refl) (none_pending t8 refl), λ p. refl);
      begins = λ e. record { pdu_without_poll = refl; byte_without_poll = refl; poll_owed = refl; runs = refl; highest = 2; poll_sn = refl; is_highest = record { above = λ n sent. sent.0; last = inr (omega arith, refl) } };
      counts = λ e. absurd (false≢true (sym e));
    };
  }
    where
      first_is : (n : ℕ) → 0 ≤ n → n < 1 → (p : ℕ) × (is_pending (kept_at t7 n) p ≡ true) → ⊥
      first_is zero low high w = false≢true w.1
      first_is (suc n) low high w = omega (arith, high)

      others : (n : ℕ) → n ≢ 1 → kept_at t8 n ≡ kept_at t7 n
      others zero ne = refl
      others (suc zero) ne = absurd (ne refl)
      others (suc (suc n)) ne = refl

  -- the second STATUS confirms number 1
  confirms_each : (n : ℕ) → UpdatesSdu t8 3 confirms n [] (kept_at t9 n)
  confirms_each zero = rest (inr refl) refl
  confirms_each (suc zero) = confirmed (kept tag1 sdu1 (three false) (Some 0)) refl (omega arith, λ h. h) refl
  confirms_each (suc (suc zero)) = rest (inr refl) refl
  confirms_each (suc (suc (suc n))) = rest (inl (omega arith)) refl

  -- and is carried out
  confirms_last : Acknowledges t8 confirms (tag1 ∷ []) [] t9
  confirms_last = record {
    fine = confirms_fine;
    a = 3;
    ack = record { same = refl; low = omega arith; high = omega arith };
    current = omega arith;
    its_tags = refl;
    mid = t9;
    missing_marks = [];
    lowest_marks = [];
    its_marks = refl;
    updates = record {
      each = confirms_each;
      marks_only = λ n c. absurd (contains_none n c);
      marks_rise = λ k lt. absurd (omega (arith, lt));
      long = refl;
      same = record { size = refl; poll_pdu = refl; poll_byte = refl; max_retx_threshold = refl };
      pdu_without_poll = refl;
      byte_without_poll = refl;
      poll_owed = refl;
      poll_sn = refl;
      timer = inl (2, refl, omega arith, refl);
    };
    lowest = (λ e. absurd (false≢true e), λ e. (refl, refl));
  }

pub sends_missing : SendsAgain
sends_missing tag0 tag1 tag2 = (
  t1 tag0 tag1 tag2,
  t2 tag0 tag1 tag2,
  t3 tag0 tag1 tag2,
  t4 tag0 tag1 tag2,
  t5 tag0 tag1 tag2,
  t6 tag0 tag1 tag2,
  t7 tag0 tag1 tag2,
  t8 tag0 tag1 tag2,
  t9 tag0 tag1 tag2,
  record { has_room = omega arith; its_number = refl; is = refl },
  record { has_room = omega arith; its_number = refl; is = refl },
  record { has_room = omega arith; its_number = refl; is = refl },
  (piece S12 0 sdu0 0 3 false, refl, sends0 tag0 tag1 tag2),
  (piece S12 1 sdu1 0 3 false, refl, sends1 tag0 tag1 tag2),
  (piece S12 2 sdu2 0 3 true, refl, sends2 tag0 tag1 tag2),
  asked tag0 tag1 tag2,
  (piece S12 1 sdu1 0 3 true, refl, sends_again tag0 tag1 tag2),
  confirms_last tag0 tag1 tag2,
)
