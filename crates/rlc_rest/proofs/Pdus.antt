-- What is left falls with each data PDU that is heard at once.
use Rattle.std.proofs.Common.{◌≡◌, ◌≢◌, ◌⊎◌, inl, inr, ℕ, ◌+◌, ◌-◌, ◌<◌, ◌≤◌, Bool, true, false, cond, not, nat_lt, ◌&&◌, ◌||◌, List, ◌∷◌, length, get_or, drop, slice_get, Option, Some, None, refl, sym, ◌∙◌, ap, subst, arith, lt-ltb, le-ltb, true≢false, length-take, length-drop}
use Rattle.std.specs.Option.{is_none, is_some}
use Rattle.std.proofs.lemmas.Bool.{cases_Bool, cases_lt, cases_eq, false≢true, and_parts, and_from, cond-false, ltb-true}
use Rattle.std.proofs.lemmas.Option.{slice_get-get_or}
use Rattle.link_base.specs.SequenceNumbers.{Near}
use Rattle.rlc_pdu.specs.Amd.{Amd}
use Rattle.rlc_model.specs.Pdu.{IsPiece, end_of, is_end, byte_at}
use Rattle.rlc_model.specs.Tx.{Tx, Kept, kept_at, tx_next, tx_next_ack, is_pending, IsNext, pending, unsent, owed, Sends, unconfirmed}
use Rattle.rlc_model.specs.Rx.{Rx, Got, got, held_at, is_done, rx_next, IsRepeat, Stores, Completes, Hears}
use Rattle.rlc_model.specs.declared.receiver.Heard.{Heard}
use Rattle.rlc_model.specs.declared.receiver.Heard.TheVariants.{Stored, Complete, Repeat, Outside, Conflict}
use Rattle.rlc_law.specs.Hop.{Hop, Grant, Reaches}
use Rattle.rlc_law.specs.Hop as events
use Rattle.rlc_law.proofs.Lists.{contains_here}
use Rattle.rlc_rest.specs.Rest.{one_if, sum_below, count_below, sdu_len, lacks, waits_at, missing, bytes, pendings, forgotten, useful, distance, major, scale, minor, rest, DataFalls}
use Rattle.rlc_law.proofs.Base.{below_rx_next, done_of, kept_below, near_one}
use Rattle.rlc_rest.proofs.Sums.{sum_le, count_lt, major_falls, minor_falls}
use Rattle.rlc_rest.proofs.Totals.{unconfirmed_sum, total_le, total_lt, total_some, some_total, same_ack, small_minor, stage_le}
use Rattle.rlc_rest.proofs.Lacking.{range_or_one, held_lacks, lacks_not_done, lacks_none}
use Rattle.rlc_law.proofs.Moving.{fresh_sent}
use Rattle.rlc_law.proofs.Invariant.{at}
use Rattle.rlc_law.proofs.Inductive.{reaches_inv, own_number}
use Rattle.rlc_law.proofs.Runs.{reaches_more}
use Rattle.rlc_law.proofs.Pieces.{sends_some, sends_within, run_within}
use Rattle.rlc_law.proofs.Grant.{next_was}
use Rattle.rlc_law.proofs.Safety.{no_conflict}
use Rattle.rlc_law.proofs.Sending.{reaches_sent}
use Rattle.rlc_law.proofs.Delivered.{first_kept, first_some}

module _ (h : Hop) (run : Reaches h) (n m : ℕ) (v : Amd) (t : Tx) (s : Sends h.tx n m v t) where
  -- the SDU before
  was : kept_at h.tx m ≡ Some s.kept
  was = next_was h.tx m s.kept s.a s.b s.next

  -- the SDU behind it
  abbrev sent_kept : Kept
  sent_kept = record s.kept { flags = s.flags }

  -- the piece ends within its SDU
  e_within : s.e ≤ length s.kept.sdu
  e_within = sends_within h.tx n m v t s ((reaches_inv h run).tx.sent m s.kept was)

  -- it begins at its first place
  so_is : v.so ≡ s.a
  so_is = ap (λ (v : Amd). v.so) s.view

  -- and ends at its last
  end_is : end_of v ≡ s.e
  end_is = omega (arith, ap end_of s.view, length-take (s.e - s.a) (drop s.a s.kept.sdu), length-drop s.a s.kept.sdu, sends_some h.tx n m v t s, e_within)

  -- the hop once the PDU is made
  abbrev h1 : Hop
  h1 = record h { tx = t; pdus = record { number = m; view = v } ∷ h.pdus }

  -- it can be reached
  run1 : Reaches h1
  run1 = reaches_more h (Grant n) h1 run (events.sends m v t s)

  -- the PDU isn't stale, so it is read under its own number
  own_m : (x : ℕ) → Near h.rx.size v.sn (rx_next h.rx) x → x ≡ m
  own_m x near = near_one h.rx.size v.sn (rx_next h.rx) x m near (own_number h1 (reaches_inv h1 run1) (record { number = m; view = v }) (contains_here (record { number = m; view = v }) h.pdus) (fresh_sent h run n m v t s))

  -- and is a piece
  is_piece : IsPiece (at h.given m) v
  is_piece = ((reaches_inv h1 run1).pdus (record { number = m; view = v }) (contains_here (record { number = m; view = v }) h.pdus)).piece

  -- sizes and what is confirmed are the same
  size_same : (j : ℕ) → sdu_len (kept_at t j) ≡ sdu_len (kept_at h.tx j)
  size_same j = elim (cases_eq j m) [
    | inl e ↦ ap sdu_len (ap (kept_at t) e ∙ s.this) ∙ sym (ap sdu_len (ap (kept_at h.tx) e ∙ was))
    | inr ne ↦ ap sdu_len (s.others j ne)
  ]

  -- no number is confirmed by it
  none_same : (j : ℕ) → is_none (kept_at t j) ≡ is_none (kept_at h.tx j)
  none_same j = elim (cases_eq j m) [
    | inl e ↦ ap is_none (ap (kept_at t) e ∙ s.this) ∙ sym (ap is_none (ap (kept_at h.tx) e ∙ was))
    | inr ne ↦ ap is_none (s.others j ne)
  ]

  some_same : (j : ℕ) → is_some (kept_at t j) ≡ is_some (kept_at h.tx j)
  some_same j = elim (cases_eq j m) [
    | inl e ↦ ap is_some (ap (kept_at t) e ∙ s.this) ∙ sym (ap is_some (ap (kept_at h.tx) e ∙ was))
    | inr ne ↦ ap is_some (s.others j ne)
  ]

  -- as many stay unconfirmed
  unconfirmed_le : unconfirmed t ≤ unconfirmed h.tx
  unconfirmed_le = omega (arith, unconfirmed_sum t, unconfirmed_sum h.tx, ap (λ (k : ℕ). sum_below (λ j. one_if (is_some (kept_at t j))) k) s.long, sum_le (λ j. one_if (is_some (kept_at t j))) (λ j. one_if (is_some (kept_at h.tx j))) (tx_next h.tx) (λ j lt. omega (arith, ap one_if (some_same j))))

  -- TX_Next_Ack is the same
  ack_same : tx_next_ack t ≡ tx_next_ack h.tx
  ack_same = same_ack h.tx t s.long (λ j lt. none_same j)

  -- its number was given
  m_below : m < tx_next h.tx
  m_below = kept_below h.tx m s.kept was

  -- as many bytes are kept
  bytes_le : (r : Rx) → bytes t r ≤ bytes h.tx h.rx
  bytes_le r = total_le (λ o g p. true) (λ o g p. true) h.tx h.rx t r s.long (λ j lt. inr (size_same j, λ p lp e. e))

  -- the byte of the PDU for one of its places
  has_byte : (p : ℕ) → s.a ≤ p → p < s.e → (b : ℕ) × (byte_at v p ≡ Some b)
  has_byte p le lt =
      let inside : p - v.so < length v.body = omega (arith, so_is, end_is) in
      (get_or v.body (p - v.so) 0, cond-false (nat_lt p v.so) None (slice_get v.body (p - v.so)) (le-ltb p v.so (omega (arith, so_is))) ∙ slice_get-get_or v.body (p - v.so) 0 inside)

  module _ (p0 : ℕ) (from : s.a ≤ p0) (to : p0 < s.e) (lacked : lacks (got h.rx m) p0 ≡ true) (r : Rx)
      (here : lacks (got r m) p0 ≡ false) (less : (j p : ℕ) → lacks (got r j) p ≡ true → lacks (got h.rx j) p ≡ true) where
    new_falls : rest t r < rest h.tx h.rx
    new_falls =
        let size_m : sdu_len (kept_at h.tx m) ≡ length s.kept.sdu = ap sdu_len was in
        let fewer : missing t r < missing h.tx h.rx = total_lt (λ o g p. lacks g p) (λ o g p. lacks g p) h.tx h.rx t r s.long m m_below (λ j lt. inr (size_same j, λ p lp e. less j p e))
        (omega (
          arith,
          ap (λ (k : ℕ). count_below (lacks (got r m)) k) (size_same m),
          count_lt (lacks (got r m)) (lacks (got h.rx m)) (sdu_len (kept_at h.tx m)) p0 (λ p lp e. less m p e) (omega (arith, size_m, e_within)) here lacked,
        )) in
        major_falls (major h.tx h.rx) (major t r) (scale h.tx h.rx) (scale t r) (minor h.tx h.rx) (minor t r) (omega (arith, fewer, unconfirmed_le)) (omega (arith, bytes_le r)) (small_minor t r (stage_le t r))

  -- where the PDU is stored
  stores_falls : (p0 : ℕ) → s.a ≤ p0 → p0 < s.e → lacks (got h.rx m) p0 ≡ true → (r : Rx) → Stores h.rx m v r → rest t r < rest h.tx h.rx
  stores_falls p0 from to lacked r st = new_falls p0 from to lacked r here less
    where
      here : lacks (got r m) p0 ≡ false
      here = elim (cases_Bool (lacks (got r m) p0)) [
        | inr fine ↦ fine
        | inl still ↦
            let none : get_or st.held p0 None ≡ None = sym (ap (λ (g : Got). held_at g p0) st.enters.this) ∙ lacks_none (got r m) p0 still in
            let b = has_byte p0 from to in
            absurd (first_some (held_at (got h.rx m) p0) (byte_at v p0) b.0 b.1 (sym (st.places.bytes p0) ∙ none))
      ]

      less : (j p : ℕ) → lacks (got r j) p ≡ true → lacks (got h.rx j) p ≡ true
      less j p e = elim (cases_eq j m) [
        | inl same ↦
            let none : get_or st.held p None ≡ None = sym (ap (λ (g : Got). held_at g p) (ap (got r) same ∙ st.enters.this)) ∙ lacks_none (got r j) p e in
            elim (cases_Bool (lacks (got h.rx j) p)) [
              | inl was_lacked ↦ was_lacked
              | inr fine ↦ elim (held_lacks (got h.rx j) p fine) [
                | inl done ↦ absurd (lacks_not_done (got h.rx m) p0 lacked (ap (got h.rx) (sym same) ∙ done))
                | inr held ↦ absurd (first_kept (held_at (got h.rx m) p) (byte_at v p) (λ no_byte. held (ap (λ (j : ℕ). held_at (got h.rx j) p) same ∙ no_byte)) (sym (st.places.bytes p) ∙ none))
              ]
            ]
        | inr ne ↦ sym (ap (λ (g : Got). lacks g p) (st.enters.others j ne)) ∙ e
      ]

  -- and where it completes its SDU
  completes_falls : (p0 : ℕ) → s.a ≤ p0 → p0 < s.e → lacks (got h.rx m) p0 ≡ true → (r : Rx) (sdu : List ℕ) → Completes h.rx m v sdu r → rest t r < rest h.tx h.rx
  completes_falls p0 from to lacked r sdu st = new_falls p0 from to lacked r (ap (λ (g : Got). lacks g p0) st.enters.this) less
    where
      less : (j p : ℕ) → lacks (got r j) p ≡ true → lacks (got h.rx j) p ≡ true
      less j p e = elim (cases_eq j m) [
        | inl same ↦ absurd (lacks_not_done (got r j) p e (ap (got r) same ∙ st.enters.this))
        | inr ne ↦ sym (ap (λ (g : Got). lacks g p) (st.enters.others j ne)) ∙ e
      ]

  module _ (held_all : (p : ℕ) → s.a ≤ p → p < s.e → lacks (got h.rx m) p ≡ false) where
    -- the PDU is a repeat
    is_repeat : IsRepeat h.rx m v
    is_repeat = elim (cases_Bool (is_done (got h.rx m))) [
      | inl done ↦ inr (inl (done_of (got h.rx m) done))
      | inr open_m ↦ inr (inr (
        λ p le lt. held_one p (omega (arith, so_is)) (omega (arith, end_is)) open_m,
        elim (cases_Bool (is_end v.si)) [
          | inr goes_on ↦ inl goes_on
          | inl ends ↦ inr ((reaches_inv h run).rx.ends m (s.e - 1) (held_one (s.e - 1) (omega (arith, sends_some h.tx n m v t s)) (omega (arith, sends_some h.tx n m v t s)) open_m)
              (omega (arith, is_piece.last.0 ends, end_is, sends_some h.tx n m v t s)))
        ],
      ))
    ]
      where
        held_one : (p : ℕ) → s.a ≤ p → p < s.e → is_done (got h.rx m) ≡ false → held_at (got h.rx m) p ≢ None
        held_one p le lt open_m = elim (held_lacks (got h.rx m) p (held_all p le lt)) [
          | inl done ↦ absurd (true≢false (sym (ap is_done done) ∙ open_m))
          | inr held ↦ held
        ]

    -- its bytes were pending
    abbrev IsAgain : Type 0
    IsAgain = (length s.flags ≡ length s.kept.flags) × (get_or s.kept.flags s.a false ≡ true)

    again : IsAgain
    again = go s.next
      where
        go : IsNext h.tx m s.kept s.a s.b → IsAgain
        go (pending first is run_ab) = (omega (arith, s.clears.long, s.end, run_within s.kept.flags s.a s.b run_ab), run_ab.run s.a (omega arith) run_ab.some)
        go (unsent none first is at_a at_b) = elim (held_lacks (got h.rx m) s.a (held_all s.a (omega arith) (sends_some h.tx n m v t s))) [
          | inl done ↦ absurd (omega (arith, (reaches_sent h run).done m done s.kept was, at_a, sends_some h.tx n m v t s, e_within))
          | inr held ↦ absurd (omega (arith, (reaches_sent h run).held m s.a held s.kept was, at_a))
        ]

    out_of : (p : ℕ) → lacks (got h.rx m) p ≡ true → (p < s.a) ⊎ (s.e ≤ p)
    out_of p lacked = elim (cases_lt p s.a) [
      | inl lt ↦ inl lt
      | inr le ↦ elim (cases_lt p s.e) [
        | inl lt ↦ absurd (false≢true (sym (held_all p le lt) ∙ lacked))
        | inr past ↦ inr past
      ]
    ]

    -- a place that is lacked stays as before
    waits_same : (j p : ℕ) → lacks (got h.rx j) p ≡ true → waits_at (kept_at t j) p ≡ waits_at (kept_at h.tx j) p
    waits_same j p lacked = elim (cases_eq j m) [
      | inl e ↦
          let out = out_of p (ap (λ (j : ℕ). lacks (got h.rx j) p) (sym e) ∙ lacked) in
          ap (λ (o : Option Kept). waits_at o p) (ap (kept_at t) e ∙ s.this)
          ∙ ap (λ (b : Bool). b || not (nat_lt p (length s.flags))) (s.clears.rest p out)
          ∙ ap (λ (l : ℕ). get_or s.kept.flags p false || not (nat_lt p l)) again.0
          ∙ sym (ap (λ (o : Option Kept). waits_at o p) (ap (kept_at h.tx) e ∙ was))
      | inr ne ↦ ap (λ (o : Option Kept). waits_at o p) (s.others j ne)
    ]

    pends_before : (j p : ℕ) → is_pending (kept_at t j) p ≡ true → is_pending (kept_at h.tx j) p ≡ true
    pends_before j p is = elim (cases_eq j m) [
      | inl e ↦
          let now : get_or s.flags p false ≡ true = sym (ap (λ (o : Option Kept). is_pending o p) (ap (kept_at t) e ∙ s.this)) ∙ is in
          ap (λ (o : Option Kept). is_pending o p) (ap (kept_at h.tx) e ∙ was) ∙ elim (cases_lt p s.a) [
            | inl lt ↦ sym (s.clears.rest p (inl lt)) ∙ now
            | inr le ↦ elim (cases_lt p s.e) [
              | inl below ↦ absurd (false≢true (sym (s.clears.sent p le below) ∙ now))
              | inr past ↦ sym (s.clears.rest p (inr past)) ∙ now
            ]
          ]
      | inr ne ↦ sym (ap (λ (o : Option Kept). is_pending o p) (s.others j ne)) ∙ is
    ]

    abbrev r1 : Rx
    r1 = record h.rx { status_triggered = h.rx.status_triggered || v.poll }

    missing_le : missing t r1 ≤ missing h.tx h.rx
    missing_le = total_le (λ o g p. lacks g p) (λ o g p. lacks g p) h.tx h.rx t r1 s.long (λ j lt. inr (size_same j, λ p lp e. e))

    forgotten_le : forgotten t r1 ≤ forgotten h.tx h.rx
    forgotten_le = total_le (λ o g p. lacks g p && not (waits_at o p)) (λ o g p. lacks g p && not (waits_at o p)) h.tx h.rx t r1 s.long (λ j lt. inr (
      size_same j,
      λ p lp e.
          let parts = and_parts (lacks (got h.rx j) p) (not (waits_at (kept_at t j) p)) e in
          ap (λ (b : Bool). lacks (got h.rx j) p && not b) (sym (waits_same j p parts.0)) ∙ e,
    ))

    pendings_lt : pendings t r1 < pendings h.tx h.rx
    pendings_lt =
        let size_m : sdu_len (kept_at h.tx m) ≡ length s.kept.sdu = ap sdu_len was in
        total_lt (λ o g p. is_pending o p) (λ o g p. is_pending o p) h.tx h.rx t r1 s.long m m_below (λ j lt. inr (size_same j, λ p lp e. pends_before j p e))
        (omega (
          arith,
          ap (λ (k : ℕ). count_below (is_pending (kept_at t m)) k) (size_same m),
          count_lt (is_pending (kept_at t m)) (is_pending (kept_at h.tx m)) (sdu_len (kept_at h.tx m)) s.a (λ p lp e. pends_before m p e) (omega (arith, size_m, e_within, sends_some h.tx n m v t s))
              (ap (λ (o : Option Kept). is_pending o s.a) s.this ∙ s.clears.sent s.a (omega arith) (sends_some h.tx n m v t s))
              (ap (λ (o : Option Kept). is_pending o s.a) was ∙ again.1),
        ))

    useful_on : 0 < useful h.tx h.rx → 0 < useful t r1
    useful_on some =
        let u = some_total (λ o g p. lacks g p && waits_at o p) h.tx h.rx some in
        let parts = and_parts (lacks (got h.rx u.0) u.1) (waits_at (kept_at h.tx u.0) u.1) u.4 in
        total_some (λ o g p. lacks g p && waits_at o p) t r1 u.0 u.1 (omega (arith, u.2, s.long)) (omega (arith, u.3, size_same u.0))
        (and_from (lacks (got h.rx u.0) u.1) (waits_at (kept_at t u.0) u.1) parts.0 (waits_same u.0 u.1 parts.0 ∙ parts.1))

    -- the stage doesn't rise: a poll that is owed goes with the PDU
    stage_step : (a a' trig poll d o o' : Bool) → (a ≡ true → a' ≡ true) → (o ≡ true → poll ≡ true) → o' ≡ false → cond (a' || ((trig || poll) && d)) 0 (cond o' (cond d 1 3) 2) ≤ cond (a || (trig && d)) 0 (cond o (cond d 1 3) 2)
    stage_step true true trig poll d o o' ha ho e = omega arith
    stage_step true false trig poll d o o' ha ho e = absurd (false≢true (ha refl))
    stage_step false a' trig poll d o true ha ho e = absurd (true≢false e)
    stage_step false true trig poll d o false ha ho e = omega arith
    stage_step false false true poll true o false ha ho e = omega arith
    stage_step false false true poll false true false ha ho e = omega arith
    stage_step false false true poll false false false ha ho e = omega arith
    stage_step false false false true true o false ha ho e = omega arith
    stage_step false false false true false true false ha ho e = omega arith
    stage_step false false false true false false false ha ho e = omega arith
    stage_step false false false false d true false ha ho e = absurd (false≢true (ho refl))
    stage_step false false false false d false false ha ho e = omega arith

    owed_after : t.poll_owed ≡ false
    owed_after = elim (cases_Bool v.poll) [
      | inl polls ↦ (s.counters.begins polls).poll_owed
      | inr quiet ↦ (s.counters.counts quiet).poll_owed ∙ elim (cases_Bool h.tx.poll_owed) [
        | inl owes ↦ absurd (true≢false (sym (s.counters.polled.1 (owed owes)) ∙ quiet))
        | inr free ↦ free
      ]
    ]

    stage_falls : distance t r1 ≤ distance h.tx h.rx
    stage_falls =
        omega (
          arith,
          ap {B = ℕ} (λ (k : ℕ). cond (nat_lt 0 (useful t r1) || ((h.rx.status_triggered || v.poll) && is_done (got h.rx k))) 0 (cond t.poll_owed (cond (is_done (got h.rx k)) 1 3) 2)) ack_same,
          stage_step (nat_lt 0 (useful h.tx h.rx)) (nat_lt 0 (useful t r1)) h.rx.status_triggered v.poll (is_done (got h.rx (tx_next_ack h.tx))) h.tx.poll_owed t.poll_owed
              (λ e. lt-ltb 0 (useful t r1) (useful_on (ltb-true 0 (useful h.tx h.rx) e))) (λ owes. s.counters.polled.1 (owed owes)) owed_after,
        )

    two_le : (b c : Bool) → cond (b || c) 2 0 ≤ cond b 2 0 + 2
    two_le true c = omega arith
    two_le false true = omega arith
    two_le false false = omega arith

    old_falls : rest t r1 < rest h.tx h.rx
    old_falls = minor_falls (major h.tx h.rx) (major t r1) (scale h.tx h.rx) (scale t r1) (minor h.tx h.rx) (minor t r1)
        (omega (arith, missing_le, unconfirmed_le)) (omega (arith, bytes_le r1)) (omega (arith, stage_falls, pendings_lt, forgotten_le, two_le h.rx.status_triggered v.poll))

  -- whatever the answer is
  hears_falls : (answer : Heard) (r : Rx) → Hears h.rx v answer r → rest t r < rest h.tx h.rx
  hears_falls Outside r hears = absurd (hears.0 m (own_number h1 (reaches_inv h1 run1) (record { number = m; view = v }) (contains_here (record { number = m; view = v }) h.pdus) (fresh_sent h run n m v t s)))
  hears_falls Conflict r hears = absurd (no_conflict h.rx h.given hears.0 v (reaches_inv h run).rx (subst (λ (x : ℕ). IsPiece (at h.given x) v) (sym (own_m hears.0 hears.1)) is_piece) hears.3)
  hears_falls Repeat r hears = elim (range_or_one (got h.rx m) s.a s.e) [
    | inl all ↦ subst (λ (r : Rx). rest t r < rest h.tx h.rx) (sym hears.3) (old_falls all)
    | inr one ↦ absurd (no_repeat one.0 one.1 one.2 one.3 (subst (λ (x : ℕ). IsRepeat h.rx x v) (own_m hears.0 hears.1) hears.2))
  ]
    where
      no_repeat : (p : ℕ) → s.a ≤ p → p < s.e → lacks (got h.rx m) p ≡ true → IsRepeat h.rx m v → ⊥
      no_repeat p from to lacked (inl below) = lacks_not_done (got h.rx m) p lacked (below_rx_next h.rx m below)
      no_repeat p from to lacked (inr (inl done)) = lacks_not_done (got h.rx m) p lacked done
      no_repeat p from to lacked (inr (inr full)) = full.0 p (omega (arith, so_is)) (omega (arith, end_is)) (lacks_none (got h.rx m) p lacked)
  hears_falls Stored r hears = elim (range_or_one (got h.rx m) s.a s.e) [
    | inl all ↦ absurd (hears.2 (subst (λ (x : ℕ). IsRepeat h.rx x v) (sym (own_m hears.0 hears.1)) (is_repeat all)))
    | inr one ↦ stores_falls one.0 one.1 one.2 one.3 r (subst (λ (x : ℕ). Stores h.rx x v r) (own_m hears.0 hears.1) hears.4)
  ]
  hears_falls (Complete x sdu) r hears = elim (range_or_one (got h.rx m) s.a s.e) [
    | inl all ↦ absurd (hears.1 (subst (λ (x : ℕ). IsRepeat h.rx x v) (sym (own_m x hears.0)) (is_repeat all)))
    | inr one ↦ completes_falls one.0 one.1 one.2 one.3 r sdu (subst (λ (x : ℕ). Completes h.rx x v sdu r) (own_m x hears.0) hears.3)
  ]

pub data_falls : DataFalls
data_falls h run n m v t answer r s hears = hears_falls h run n m v t s answer r hears
