-- An SDU in three segments.
use Rattle.std.proofs.Common.{◌≡◌, ◌≢◌, inl, inr, ℕ, zero, suc, ◌+◌, ◌<◌, ◌≤◌, Bool, true, false, List, [], ◌∷◌, length, get_or, replicate, Option, Some, None, refl, sym, ◌∙◌, ap, subst, arith}
use Rattle.std.specs.List.{Contains}
use Rattle.std.proofs.lemmas.Bool.{false≢true}
use Rattle.std.proofs.lemmas.Option.{none-some, same_Some}
use Rattle.std.proofs.lemmas.List.{get_or_past, length-replicate}
use Rattle.link_base.specs.declared.rlc_words.Tag.{Tag}
use Rattle.link_base.specs.SequenceNumbers.{window, Near}
use Rattle.rlc_pdu.specs.declared.amd.Si.TheVariants.{First, Last, Middle}
use Rattle.rlc_pdu.specs.Amd.{Amd}
use Rattle.link_base.specs.declared.names.SnSize.TheVariants.{S12}
use Rattle.rlc_model.specs.Pdu.{piece, end_of, is_end}
use Rattle.rlc_model.specs.Tx.{Tx, Kept, kept_at, is_unsent, PendingWaits, IsNext, unsent, Clears, nothing_waits, Sends}
use Rattle.rlc_model.specs.Rx.{Rx, Got, Done, Part, got, rx_next, IsConflict, other_length, held_past, past_length, no_last, IsFull, starts, runs_on, rests, RunsOn, IsDue, Stores, Completes}
use Rattle.rlc_model.specs.Worked.{t0, r0, twelve, SendsSegments, HearsSegments}
use Rattle.rlc_model.proofs.Checks.{at_below, same_option, option_is, places_of, none_pending, none_unsent, not_polled, part_not_done, is_new, only_one, contains_none, contains_one}

module _ (tag : Tag) where
  -- the SDU with these flags
  abbrev kept : List Bool → Kept
  kept flags = record { tag = tag; sdu = twelve; flags = flags; retx_count = None }

  -- the transmitter with these flags and counters
  abbrev sent : List Bool → ℕ → ℕ → Tx
  sent flags pdus bytes = record t0 { kept = Some (kept flags) ∷ []; pdu_without_poll = pdus; byte_without_poll = bytes }

  -- the transmitter at each step
  abbrev t1 : Tx
  t1 = sent [] 0 0

  abbrev t2 : Tx
  t2 = sent (replicate 3 false) 1 3

  abbrev t3 : Tx
  t3 = sent (replicate 7 false) 2 7

  abbrev t4 : Tx
  t4 = record (sent (replicate 12 false) 0 0) { poll_sn = Some 0; poll_retransmit_runs = true }

  -- the unsent bytes of the one SDU are next
  next : (flags : List Bool) (pdus bytes : ℕ) → (PendingWaits (sent flags pdus bytes) → ⊥) → is_unsent (Some (kept flags)) ≡ true → IsNext (sent flags pdus bytes) 0 (kept flags) (length flags) 12
  next flags pdus bytes none is = unsent none (record { from = omega arith; has = is; none = λ n le lt. absurd (omega arith) }) refl refl refl

  -- flags that are all false
  all_false : (n p : ℕ) → get_or (replicate n false) p false ≡ false
  all_false zero p = refl
  all_false (suc n) zero = refl
  all_false (suc n) (suc p) = all_false n p

  -- the flags once more bytes were sent
  clears : (n e : ℕ) → n ≤ e → Clears (replicate n false) n e (replicate e false)
  clears n e le = record {
    long = omega (arith, length-replicate n false, length-replicate e false);
    sent = λ p from to. all_false e p;
    rest = λ p out. all_false e p ∙ sym (all_false n p);
  }

  -- there is no other SDU
  other : (a b : Tx) (k j : Kept) → a.kept ≡ Some k ∷ [] → b.kept ≡ Some j ∷ [] → (n : ℕ) → n ≢ 0 → kept_at b n ≡ kept_at a n
  other a b k j ea eb n ne = get_or_past b.kept n None (omega (arith, ne, ap (λ (l : List (Option Kept)). length l) eb)) ∙ sym (get_or_past a.kept n None (omega (arith, ne, ap (λ (l : List (Option Kept)). length l) ea)))

  -- the first segment is sent
  first_sends : Sends t1 5 0 (piece S12 0 twelve 0 3 false) t2
  first_sends = record {
    kept = kept [];
    flags = replicate 3 false;
    a = 0;
    b = 12;
    e = 3;
    next = next [] 0 0 (none_pending t1 refl) refl;
    fits = omega arith;
    end = refl;
    view = refl;
    clears = clears 0 3 (omega arith);
    this = refl;
    others = other t1 t2 (kept []) (kept (replicate 3 false)) refl refl;
    long = refl;
    same = record { size = refl; poll_pdu = refl; poll_byte = refl; max_retx_threshold = refl };
    counters = record {
      polled = (λ e. absurd (false≢true e), λ p. absurd (not_polled t1 t2 3 refl (omega arith) refl refl (0, refl) p));
      begins = λ e. absurd (false≢true e);
      counts = λ e. record { pdu_without_poll = refl; byte_without_poll = refl; poll_owed = refl; runs = refl; poll_sn = refl };
    };
  }

  -- the middle one
  second_sends : Sends t2 8 0 (piece S12 0 twelve 3 7 false) t3
  second_sends = record {
    kept = kept (replicate 3 false);
    flags = replicate 7 false;
    a = 3;
    b = 12;
    e = 7;
    next = next (replicate 3 false) 1 3 (none_pending t2 refl) refl;
    fits = omega arith;
    end = refl;
    view = refl;
    clears = clears 3 7 (omega arith);
    this = refl;
    others = other t2 t3 (kept (replicate 3 false)) (kept (replicate 7 false)) refl refl;
    long = refl;
    same = record { size = refl; poll_pdu = refl; poll_byte = refl; max_retx_threshold = refl };
    counters = record {
      polled = (λ e. absurd (false≢true e), λ p. absurd (not_polled t2 t3 4 refl (omega arith) refl refl (0, refl) p));
      begins = λ e. absurd (false≢true e);
      counts = λ e. record { pdu_without_poll = refl; byte_without_poll = refl; poll_owed = refl; runs = refl; poll_sn = refl };
    };
  }

  -- and the last one, with a poll
  last_sends : Sends t3 100 0 (piece S12 0 twelve 7 12 true) t4
  last_sends = record {
    kept = kept (replicate 7 false);
    flags = replicate 12 false;
    a = 7;
    b = 12;
    e = 12;
    next = next (replicate 7 false) 2 7 (none_pending t3 refl) refl;
    fits = omega arith;
    end = refl;
    view = refl;
    clears = clears 7 12 (omega arith);
    this = refl;
    others = other t3 t4 (kept (replicate 7 false)) (kept (replicate 12 false)) refl refl;
    long = refl;
    same = record { size = refl; poll_pdu = refl; poll_byte = refl; max_retx_threshold = refl };
    counters = record {
      polled = (λ e. nothing_waits (none_unsent t4 refl) (none_pending t4 refl), λ p. refl);
      begins = λ e. record { pdu_without_poll = refl; byte_without_poll = refl; poll_owed = refl; runs = refl; highest = 0; poll_sn = refl; is_highest = record { above = λ n sent. sent.0; last = inr (omega arith, refl) } };
      counts = λ e. absurd (false≢true (sym e));
    };
  }

pub sends_segments : SendsSegments
sends_segments tag = (
  t1 tag,
  t2 tag,
  t3 tag,
  t4 tag,
  record { has_room = omega arith; its_number = refl; is = refl },
  (0, kept tag [], 0, 12, next tag [] 0 0 (none_pending (t1 tag) refl) refl, refl, omega arith, refl),
  (piece S12 0 twelve 0 3 false, refl, first_sends tag),
  (0, kept tag (replicate 3 false), 3, 12, next tag (replicate 3 false) 1 3 (none_pending (t2 tag) refl) refl, refl, omega arith, refl),
  (piece S12 0 twelve 3 7 false, refl, second_sends tag),
  (piece S12 0 twelve 7 12 true, refl, last_sends tag),
  (none_pending (t4 tag) refl, none_unsent (t4 tag) refl, refl),
)

-- the three segments
abbrev pub last_piece : Amd
last_piece = record { sn = 0; poll = true; si = Last; so = 7; body = 6 ∷ 7 ∷ 8 ∷ 9 ∷ 10 ∷ [] }

abbrev pub first_piece : Amd
first_piece = record { sn = 0; poll = false; si = First; so = 0; body = 128 ∷ 0 ∷ 1 ∷ [] }

abbrev pub middle_piece : Amd
middle_piece = record { sn = 0; poll = false; si = Middle; so = 3; body = 2 ∷ 3 ∷ 4 ∷ 5 ∷ [] }

-- what is held behind each of them
abbrev back : List (Option ℕ)
back = Some 6 ∷ Some 7 ∷ Some 8 ∷ Some 9 ∷ Some 10 ∷ []

abbrev held1 : List (Option ℕ)
held1 = None ∷ None ∷ None ∷ None ∷ None ∷ None ∷ None ∷ back

abbrev held2 : List (Option ℕ)
held2 = Some 128 ∷ Some 0 ∷ Some 1 ∷ None ∷ None ∷ None ∷ None ∷ back

abbrev held3 : List (Option ℕ)
held3 = Some 128 ∷ Some 0 ∷ Some 1 ∷ Some 2 ∷ Some 3 ∷ Some 4 ∷ Some 5 ∷ back

-- the receiver at each step
abbrev r1 : Rx
r1 = record r0 { received = Part held1 (Some 12) ∷ []; rx_next_status_trigger = Some 1; delayed_polls = 0 ∷ [] }

abbrev r2 : Rx
r2 = record r1 { received = Part held2 (Some 12) ∷ [] }

abbrev r3 : Rx
r3 = record r2 { received = Done ∷ []; rx_highest_status = 1; rx_next_status_trigger = None; status_triggered = true; delayed_polls = [] }

-- 0 lies near 0
near_zero : Near S12 0 0 0
near_zero = record { same = refl; low = omega arith; high = omega arith }

-- nothing is got of another number
other_got : (a b : Rx) (g h : Got) → a.received ≡ g ∷ [] → b.received ≡ h ∷ [] → (n : ℕ) → n ≢ 0 → got b n ≡ got a n
other_got a b g h ea eb n ne = get_or_past b.received n (Part [] None) (omega (arith, ne, ap (λ (l : List Got). length l) eb)) ∙ sym (get_or_past a.received n (Part [] None) (omega (arith, ne, ap (λ (l : List Got). length l) ea)))

-- the last segment agrees with nothing held
agrees0 : IsConflict (got r0 0) last_piece → ⊥
agrees0 (other_length l ends is ne) = none-some l is
agrees0 (held_past p ends past held) = held refl
agrees0 (past_length l is past) = none-some l is
agrees0 (no_last goes is) = none-some 12 is

-- a segment that ends before the known length agrees with it
agrees : (held : List (Option ℕ)) (v : Amd) → is_end v.si ≡ false → end_of v < 12 → IsConflict (Part held (Some 12)) v → ⊥
agrees held v goes_on before (other_length l ends is ne) = false≢true (sym goes_on ∙ ends)
agrees held v goes_on before (held_past p ends past h) = false≢true (sym goes_on ∙ ends)
agrees held v goes_on before (past_length l is past) = omega (arith, same_Some 12 l is, past, before)
agrees held v goes_on before (no_last goes is) = omega (arith, same_Some 12 (end_of v) is, before)

-- a byte is missing
not_full : (held : List (Option ℕ)) (p : ℕ) → p < 12 → get_or held p None ≡ None → IsFull held (Some 12) → ⊥
not_full held p lt none whole = whole.2 p (omega (arith, same_Some 12 whole.0 whole.1, lt)) none

-- a poll of number 0 is not due while RX_Highest_Status is 0
not_due : (r : Rx) → r.rx_highest_status ≡ 0 → 0 < rx_next r + window r.size → IsDue r 0 → ⊥
not_due r zero_status room (inl lt) = omega (arith, lt, zero_status)
not_due r zero_status room (inr le) = omega (arith, le, room)

-- the last segment is stored, its poll is delayed, and t-Reassembly starts
hears_last : Stores r0 0 last_piece r1
hears_last = record {
  held = held1;
  len = Some 12;
  places = places_of (got r0 0) last_piece held1 (Some 12) 12 (omega arith) (omega arith) (λ p le. refl) refl refl;
  partial = not_full held1 0 (omega arith) refl;
  enters = record { this = refl; others = λ n ne. get_or_past r1.received n (Part [] None) (omega (arith, ne)); long = refl };
  highest_status = refl;
  size = refl;
  prohibit = refl;
  reassembly = starts (λ t is runs. none-some t is) (inr (refl, (0, 7, omega arith, refl, λ e. none-some 6 (sym e)))) refl;
  polls = record {
    triggers = (
      λ e. absurd (false≢true e),
      λ why. elim why [
        | inl e ↦ e
        | inr (inl p) ↦ absurd (not_due r1 refl (omega arith) p.1)
        | inr (inr k) ↦ absurd (contains_none k.0 k.1)
      ],
    );
    delays = λ k. (
      λ c. (inr (refl, only_one 0 k c), λ due. not_due r1 refl (omega arith) (subst (IsDue r1) (only_one 0 k c) due)),
      λ h. elim h.0 [ inl c ↦ absurd (contains_none k c) | inr p ↦ subst (Contains (0 ∷ [])) (sym p.1) (contains_one 0) ],
    );
    rises = λ k lt. absurd (omega (arith, lt));
  };
}

-- while the poll stays delayed and the timer runs on
hears_first : Stores r1 0 first_piece r2
hears_first = record {
  held = held2;
  len = Some 12;
  places = places_of (got r1 0) first_piece held2 (Some 12) 12 (omega arith) (omega arith) (λ p le. get_or_past held1 p None (omega (arith, le))) refl refl;
  partial = not_full held2 3 (omega arith) refl;
  enters = record { this = refl; others = other_got r1 r2 (Part held1 (Some 12)) (Part held2 (Some 12)) refl refl; long = refl };
  highest_status = refl;
  size = refl;
  prohibit = refl;
  reassembly = runs_on 1 refl (record { above = omega arith; within = omega arith; gap = λ e. (3, 7, omega arith, refl, λ e. none-some 6 (sym e)) }) refl;
  polls = record {
    triggers = (
      λ e. absurd (false≢true e),
      λ why. elim why [
        | inl e ↦ e
        | inr (inl p) ↦ absurd (false≢true p.0)
        | inr (inr k) ↦ absurd (not_due r2 refl (omega arith) (subst (IsDue r2) (only_one 0 k.0 k.1) k.2))
      ],
    );
    delays = λ k. (
      λ c. (inl c, λ due. not_due r2 refl (omega arith) (subst (IsDue r2) (only_one 0 k c) due)),
      λ h. elim h.0 [ inl c ↦ c | inr p ↦ absurd (false≢true p.0) ],
    );
    rises = λ k lt. absurd (omega (arith, lt));
  };
}

-- the middle one completes the SDU, the timer stops, and the poll triggers a STATUS
hears_middle : Completes r2 0 middle_piece twelve r3
hears_middle = record {
  held = held3;
  len = Some 12;
  places = places_of (got r2 0) middle_piece held3 (Some 12) 12 (omega arith) (omega arith) (λ p le. get_or_past held2 p None (omega (arith, le))) refl refl;
  covers = record { known = refl; bytes = λ p lt. option_is (get_or held3 p None) (Some (get_or twelve p 0)) (at_below (λ p. same_option (get_or held3 p None) (Some (get_or twelve p 0))) 12 refl p lt) };
  enters = record { this = refl; others = other_got r2 r3 (Part held2 (Some 12)) Done refl refl; long = refl };
  highest_status = inl (refl, record { from = omega arith; has = λ e. part_not_done [] None e; none = λ k low high. absurd (omega arith) });
  size = refl;
  prohibit = refl;
  reassembly = rests stops (λ w. elim w [ inl lt ↦ omega (arith, lt) | inr e ↦ omega (arith, e.0) ]) refl;
  polls = record {
    triggers = (λ e. inr (inr (0, contains_one 0, inl (omega arith))), λ why. refl);
    delays = λ k. (λ c. absurd (contains_none k c), λ h. elim h.0 [ inl c ↦ absurd (h.1 (inl (omega (arith, only_one 0 k c)))) | inr p ↦ absurd (false≢true p.0) ]);
    rises = λ k lt. absurd (omega (arith, lt));
  };
}
  where
    stops : (t : ℕ) → r2.rx_next_status_trigger ≡ Some t → RunsOn r3 t → ⊥
    stops t is runs = omega (arith, same_Some 1 t is, runs.above)

pub hears_segments : HearsSegments
hears_segments = (
  r1,
  r2,
  r3,
  (0, near_zero, is_new r0 last_piece refl (part_not_done [] None) refl (omega arith), agrees0, hears_last),
  (0, near_zero, is_new r1 first_piece refl (part_not_done held1 (Some 12)) refl (omega arith), agrees held1 first_piece refl (omega arith), hears_first),
  (near_zero, is_new r2 middle_piece refl (part_not_done held2 (Some 12)) refl (omega arith), agrees held2 middle_piece refl (omega arith), hears_middle),
  refl,
  refl,
)
