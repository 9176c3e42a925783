-- What is left falls where a STATUS is made and heard.
use Rattle.std.proofs.Common.{◌≡◌, ◌≢◌, ◌⊎◌, inl, inr, ℕ, ◌+◌, ◌-◌, ◌<◌, ◌≤◌, Bool, true, false, cond, not, nat_lt, ◌&&◌, ◌||◌, List, ◌∷◌, length, get_or, Option, Some, None, refl, sym, ◌∙◌, ap, subst, arith, lt-ltb, le-ltb, true≢false}
use Rattle.std.specs.Option.{is_none, is_some}
use Rattle.std.proofs.lemmas.Bool.{cases_Bool, cases_lt, false≢true, and_parts, and_right, and_from, or_cases, or_from, or_left, or_right, not-true, not_from_false, not_from_true, ltb-true, ltb-false}
use Rattle.std.proofs.lemmas.Option.{none-some, same_Some}
use Rattle.link_base.specs.declared.names.SnSize.{SnSize}
use Rattle.link_base.specs.SequenceNumbers.{modulus, Near}
use Rattle.rlc_status.specs.declared.status.Status.{Status}
use Rattle.rlc_status.specs.Says.{Names, SaysMissing, Some_has, NamesPlace}
use Rattle.rlc_model.specs.Tx.{Tx, Kept, kept_at, tx_next, tx_next_ack, is_pending, is_unsent, PendingWaits, UnsentWaits, unconfirmed}
use Rattle.rlc_model.specs.Retransmission.{RetransmitsLowest, stays, retransmits, UpdatesSdu, confirmed, missing as named_missing, rest as stays_as, Acknowledges, HearsStatus}
use Rattle.rlc_model.specs.declared.transmitter.StatusHeard.{StatusHeard}
use Rattle.rlc_model.specs.declared.transmitter.StatusHeard.TheVariants.{Acked, Old, Beyond}
use Rattle.rlc_model.specs.Rx.{Rx, Got, Done, got, held_at, is_done, rx_next}
use Rattle.rlc_model.specs.Made.{WritesStatus}
use Rattle.rlc_law.specs.Hop.{Hop, StatusMade, GrantStatus, Reaches}
use Rattle.rlc_law.specs.Hop as events
use Rattle.rlc_rest.specs.Rest.{one_if, sum_below, sdu_len, is_sent_at, lacks, waits_at, total, missing, bytes, forgotten, useful, distance, major, scale, minor, rest, StatusFalls}
use Rattle.rlc_law.proofs.Truth.{writes_le, writes_names, writes_missing}
use Rattle.rlc_law.proofs.Receiver.{next_le_status, with}
use Rattle.rlc_law.proofs.Pieces.{flag_within}
use Rattle.rlc_law.proofs.Moving.{next_ack_le_rx_next, made_from, fresh_reported}
use Rattle.rlc_law.proofs.Base.{two_windows, done_of as done_is, at_rx_next, done_below, at_next_ack, kept_below, from_next_ack, near_one}
use Rattle.rlc_rest.proofs.Sums.{sum_le, sum_lt, major_falls, minor_falls}
use Rattle.rlc_rest.proofs.Totals.{unconfirmed_sum, Narrows, total_le, total_some, some_total, same_ack, open_at, open_parts, parts_open, small_minor, stage_le, waits-pending}
use Rattle.rlc_law.proofs.Inductive.{reaches_inv, own_ack}
use Rattle.rlc_law.proofs.Lists.{contains_here}
use Rattle.rlc_law.proofs.Runs.{reaches_more}
use Rattle.rlc_law.proofs.Sending.{none_beyond}
use Rattle.rlc_rest.proofs.Owed.{reaches_waits}
use Rattle.rlc_law.proofs.Acknowledge.{Keeps, updates_keeps, acks_keeps, lowest_keeps}
use Rattle.link_base.specs.declared.rlc_words.Tag.{Tag}
use Rattle.rlc_rest.proofs.Lacking.{lacks_held}

-- the stage doesn't rise where something useful waits still
stage_same : (a a' y y' : Bool) (z : ℕ) → (a ≡ true → a' ≡ true) → y ≡ false → cond (a' || y') 0 z ≤ cond (a || y) 0 z
stage_same true true y y' z h e = omega arith
stage_same true false y y' z h e = absurd (false≢true (h refl))
stage_same false a' true y' z h e = absurd (true≢false e)
stage_same false true false y' z h e = omega arith
stage_same false false false true z h e = omega arith
stage_same false false false false z h e = omega arith

-- an unsent place waits
unsent_waits_at : (k : Kept) (p : ℕ) → length k.flags ≤ p → waits_at (Some k) p ≡ true
unsent_waits_at k p le = or_right (is_pending (Some k) p) (not (is_sent_at (Some k) p)) (not_from_false (nat_lt p (length k.flags)) (le-ltb p (length k.flags) le))

module _ (h : Hop) (run : Reaches h) (n a : ℕ) (s : Status) (made : WritesStatus h.rx n a s (with h.rx h.rx.rx_highest_status h.rx.rx_next_status_trigger false h.rx.delayed_polls true)) (t : Tx) (tags : List Tag) (marks : List ℕ) (x : Acknowledges h.tx s tags marks t) (a_is : x.a ≡ a) where
  -- the receiver once the STATUS is made
  abbrev r1 : Rx
  r1 = with h.rx h.rx.rx_highest_status h.rx.rx_next_status_trigger false h.rx.delayed_polls true

  -- the SDUs are kept
  keeps : Keeps h.tx t
  keeps = acks_keeps h.tx t s tags marks x

  -- and before the last rule
  mid_keeps : Keeps h.tx x.mid
  mid_keeps = updates_keeps h.tx x.a s x.missing_marks x.mid x.updates

  -- a test that narrows on what is kept
  narrow : (f g : Option Kept → Got → ℕ → Bool) → ((n : ℕ) (k k' : Kept) → kept_at h.tx n ≡ Some k → kept_at t n ≡ Some k' → (p : ℕ) → p < length k.sdu → f (Some k') (got h.rx n) p ≡ true → g (Some k) (got h.rx n) p ≡ true) → (n : ℕ) → Narrows f g h.tx h.rx t r1 n
  narrow f g each n = go (kept_at t n) refl
    where
      go : (o : Option Kept) → kept_at t n ≡ o → Narrows f g h.tx h.rx t r1 n
      go None e = inl e
      go (Some k') e =
          let was = (acks_keeps h.tx t s tags marks x).from n k' e in
          inr (
            ap sdu_len e ∙ ap (λ (l : List ℕ). length l) was.2 ∙ sym (ap sdu_len was.1),
            λ p lp is. ap (λ (o : Option Kept). g o (got h.rx n) p) was.1 ∙ each n was.0 k' was.1 e p (omega (arith, lp, ap sdu_len was.1)) (ap (λ (o : Option Kept). f o (got h.rx n) p) (sym e) ∙ is),
          )

  -- as many numbers are given
  long : tx_next t ≡ tx_next h.tx
  long = (acks_keeps h.tx t s tags marks x).long

  -- no more is missing
  missing_le : missing t r1 ≤ missing h.tx h.rx
  missing_le = total_le (λ o g p. lacks g p) (λ o g p. lacks g p) h.tx h.rx t r1 long (λ n lt. narrow (λ o g p. lacks g p) (λ o g p. lacks g p) (λ n k k' was is p lp e. e) n)

  -- no more bytes are kept
  bytes_le : bytes t r1 ≤ bytes h.tx h.rx
  bytes_le = total_le (λ o g p. true) (λ o g p. true) h.tx h.rx t r1 long (λ n lt. narrow (λ o g p. true) (λ o g p. true) (λ n k k' was is p lp e. e) n)

  -- a number that is unconfirmed was so before
  kept_bit : (n : ℕ) → one_if (is_some (kept_at t n)) ≤ one_if (is_some (kept_at h.tx n))
  kept_bit n = go (kept_at t n) refl
    where
      go : (o : Option Kept) → kept_at t n ≡ o → one_if (is_some (kept_at t n)) ≤ one_if (is_some (kept_at h.tx n))
      go None e = omega (arith, ap (λ (o : Option Kept). one_if (is_some o)) e)
      go (Some k') e = let was = (acks_keeps h.tx t s tags marks x).from n k' e in omega (arith, ap (λ (o : Option Kept). one_if (is_some o)) e, ap (λ (o : Option Kept). one_if (is_some o)) was.1)

  unconfirmed_old : unconfirmed t ≡ sum_below (λ n. one_if (is_some (kept_at t n))) (tx_next h.tx)
  unconfirmed_old = unconfirmed_sum t ∙ ap (λ (k : ℕ). sum_below (λ n. one_if (is_some (kept_at t n))) k) long

  -- no more are unconfirmed
  unconfirmed_le : unconfirmed t ≤ unconfirmed h.tx
  unconfirmed_le = omega (arith, unconfirmed_old, unconfirmed_sum h.tx, sum_le (λ n. one_if (is_some (kept_at t n))) (λ n. one_if (is_some (kept_at h.tx n))) (tx_next h.tx) (λ n lt. kept_bit n))

  module _ (none_confirmed : unconfirmed h.tx ≤ unconfirmed t) where
    still : (n : ℕ) (k : Kept) → kept_at h.tx n ≡ Some k → kept_at t n ≡ None → ⊥
    still n k was is = absurd (omega (
      arith,
      none_confirmed,
      unconfirmed_old,
      unconfirmed_sum h.tx,
      sum_lt (λ n. one_if (is_some (kept_at t n))) (λ n. one_if (is_some (kept_at h.tx n))) (tx_next h.tx) n (λ n lt. kept_bit n) (kept_below h.tx n k was)
          (omega (arith, ap (λ (o : Option Kept). one_if (is_some o)) is, ap (λ (o : Option Kept). one_if (is_some o)) was)),
    ))

    none_same : (n : ℕ) → is_none (kept_at t n) ≡ is_none (kept_at h.tx n)
    none_same n = go (kept_at t n) refl (kept_at h.tx n) refl
      where
        go : (o : Option Kept) → kept_at t n ≡ o → (q : Option Kept) → kept_at h.tx n ≡ q → is_none (kept_at t n) ≡ is_none (kept_at h.tx n)
        go None e None f = ap is_none e ∙ sym (ap is_none f)
        go None e (Some k) f = absurd (still n k f e)
        go (Some k') e q f = let was = (acks_keeps h.tx t s tags marks x).from n k' e in ap is_none e ∙ sym (ap is_none was.1)

    ack_same : tx_next_ack t ≡ tx_next_ack h.tx
    ack_same = same_ack h.tx t long (λ n lt. none_same n)

    from_next : rx_next h.rx ≤ a
    from_next = (writes_le h.rx (reaches_inv h run).sound.parts (n - 3) (rx_next h.rx) s.nacks a (next_le_status h.rx (reaches_inv h run).sound) made.writes).0

    wide : h.rx.rx_highest_status ≤ rx_next h.rx + modulus h.rx.size
    wide = omega (arith, (reaches_inv h run).sound.limit, (reaches_inv h run).sound.within, two_windows h.rx.size)

    -- no named number is complete
    named_open : (m : ℕ) → Names h.tx.size x.a s m → got h.rx m ≢ Done
    named_open m names = writes_names h.rx (reaches_inv h run).sound.parts (rx_next h.rx) wide (n - 3) (rx_next h.rx) s.nacks a (omega arith) (next_le_status h.rx (reaches_inv h run).sound) made.writes m
        (subst (λ (b : ℕ). Names h.rx.size b s m) a_is (subst (λ (z : SnSize). Names z x.a s m) (sym (reaches_inv h run).size) names))

    said_lacks : (m p : ℕ) → SaysMissing h.tx.size x.a s m p → held_at (got h.rx m) p ≡ None
    said_lacks m p says = writes_missing h.rx (reaches_inv h run).sound.parts (rx_next h.rx) wide (n - 3) (rx_next h.rx) s.nacks a (omega arith) (next_le_status h.rx (reaches_inv h run).sound) made.writes m p
        (subst (λ (b : ℕ). Some_has (λ e. NamesPlace h.rx.size b e m p) s.nacks) a_is (subst (λ (z : SnSize). Some_has (λ e. NamesPlace z x.a e m p) s.nacks) (sym (reaches_inv h run).size) says.1))

    mid_none : (m : ℕ) → kept_at x.mid m ≡ None → kept_at t m ≡ None
    mid_none m e = go (kept_at t m) refl
      where
        last : Keeps x.mid t
        last = elim (cases_Bool (x.mid).poll_owed) [
          | inl owes ↦ lowest_keeps x.mid x.lowest_marks t (x.lowest.0 owes)
          | inr free ↦ subst (Keeps x.mid) (sym (x.lowest.1 free).1) (record { size = refl; long = refl; from = λ n k is. (k, is, refl, refl) })
        ]

        go : (o : Option Kept) → kept_at t m ≡ o → o ≡ None
        go None f = refl
        go (Some k) f = absurd (none-some (last.from m k f).0 (sym e ∙ (last.from m k f).1))

    -- the lowest unconfirmed number isn't complete, else it would have been confirmed
    ack_open : tx_next_ack h.tx < tx_next h.tx → got h.rx (tx_next_ack h.tx) ≡ Done → ⊥
    ack_open below done =
        let k = at_next_ack h.tx below in
        let past : tx_next_ack h.tx < a = elim (cases_lt (tx_next_ack h.tx) (rx_next h.rx)) [
          | inl lt ↦ omega (arith, from_next)
          | inr le ↦ absurd (at_rx_next h.rx (subst (λ (m : ℕ). got h.rx m ≡ Done) (omega (arith, next_ack_le_rx_next h (reaches_inv h run))) done))
        ] in
        go k.0 k.1 past (x.updates.each (tx_next_ack h.tx))
      where
        go : (k : Kept) → kept_at h.tx (tx_next_ack h.tx) ≡ Some k → tx_next_ack h.tx < a → UpdatesSdu h.tx x.a s (tx_next_ack h.tx) x.missing_marks (kept_at x.mid (tx_next_ack h.tx)) → ⊥
        go k is past (confirmed j was says e) = still (tx_next_ack h.tx) k is (mid_none (tx_next_ack h.tx) e)
        go k is past (named_missing j j' was lt names e pends) = named_open (tx_next_ack h.tx) names done
        go k is past (stays_as (inl le) e) = omega (arith, a_is)
        go k is past (stays_as (inr gone) e) = none-some k (sym gone ∙ is)

    -- what waited stays
    mid_unsent : UnsentWaits h.tx → UnsentWaits x.mid
    mid_unsent w = go (x.updates.each w.0)
      where
        unsent_kept : (o : Option Kept) → is_unsent o ≡ true → (k : Kept) × (o ≡ Some k)
        unsent_kept None e = absurd (false≢true e)
        unsent_kept (Some k) e = (k, refl)

        go : UpdatesSdu h.tx x.a s w.0 x.missing_marks (kept_at x.mid w.0) → UnsentWaits x.mid
        go (confirmed j was says e) = absurd (still w.0 j was (mid_none w.0 e))
        go (named_missing j j' was lt names e pends) = (w.0, ap is_unsent e ∙ ap (λ (l : ℕ). nat_lt l (length j'.sdu)) pends.long ∙ ap (λ (d : List ℕ). nat_lt (length j.flags) (length d)) pends.sdu ∙ sym (ap is_unsent was) ∙ w.1)
        go (stays_as why e) = (w.0, ap is_unsent e ∙ w.1)

    mid_pending : PendingWaits h.tx → PendingWaits x.mid
    mid_pending w = go (x.updates.each w.0)
      where
        go : UpdatesSdu h.tx x.a s w.0 x.missing_marks (kept_at x.mid w.0) → PendingWaits x.mid
        go (confirmed j was says e) = absurd (still w.0 j was (mid_none w.0 e))
        go (named_missing j j' was lt names e pends) =
            let flag : get_or j.flags w.1 false ≡ true = sym (ap (λ (o : Option Kept). is_pending o w.1) was) ∙ w.2 in
            (w.0, w.1, ap (λ (o : Option Kept). is_pending o w.1) e ∙ (pends.pends w.1 (flag_within j.flags w.1 flag)).1 (inl flag))
        go (stays_as why e) = (w.0, w.1, ap (λ (o : Option Kept). is_pending o w.1) e ∙ w.2)

    -- so the last rule does nothing
    is_mid : t ≡ x.mid
    is_mid = elim (cases_Bool (x.mid).poll_owed) [
      | inr free ↦ (x.lowest.1 free).1
      | inl owes ↦ go owes (x.lowest.0 owes)
    ]
      where
        go : (x.mid).poll_owed ≡ true → RetransmitsLowest x.mid x.lowest_marks t → t ≡ x.mid
        go owes (stays why no_marks same) = same
        go owes (retransmits low) = elim (reaches_waits h run (sym x.updates.poll_owed ∙ owes)) [
          | inl w ↦ absurd (low.none_pending (mid_pending w))
          | inr (inl w) ↦ absurd (low.none_unsent (mid_unsent w))
          | inr (inr e) ↦
              let before = (updates_keeps h.tx x.a s x.missing_marks x.mid x.updates).from (tx_next_ack x.mid) low.before low.was in
              absurd (omega (arith, e, from_next_ack h.tx (tx_next_ack x.mid) before.0 before.1, kept_below h.tx (tx_next_ack x.mid) before.0 before.1))
        ]

    abbrev Flags : ℕ → Kept → Kept → Type 0
    Flags m k k' = (length k'.flags ≡ length k.flags) × ((p : ℕ) → get_or k.flags p false ≡ true → get_or k'.flags p false ≡ true) × ((p : ℕ) → get_or k'.flags p false ≡ true → (get_or k.flags p false ≡ true) ⊎ ((p < length k.flags) × (got h.rx m ≢ Done) × (held_at (got h.rx m) p ≡ None)))

    flags_of : (m : ℕ) (k k' : Kept) → kept_at h.tx m ≡ Some k → kept_at t m ≡ Some k' → Flags m k k'
    flags_of m k k' was is = go (x.updates.each m)
      where
        mid_is : kept_at x.mid m ≡ Some k'
        mid_is = sym (ap (λ (t : Tx). kept_at t m) is_mid) ∙ is

        go : UpdatesSdu h.tx x.a s m x.missing_marks (kept_at x.mid m) → Flags m k k'
        go (confirmed j was_j says e) = absurd (none-some k' (sym e ∙ mid_is))
        go (stays_as why e) =
            let same : k' ≡ k = same_Some k' k (sym mid_is ∙ e ∙ was) in
            (ap (λ (k : Kept). length k.flags) same, λ p f. ap (λ (k : Kept). get_or k.flags p false) same ∙ f, λ p f. inl (sym (ap (λ (k : Kept). get_or k.flags p false) same) ∙ f))
        go (named_missing j j' was_j lt names e pends) =
            let same : j ≡ k = same_Some j k (sym was_j ∙ was) in
            let same' : j' ≡ k' = same_Some j' k' (sym e ∙ mid_is) in
            let long' : length k'.flags ≡ length k.flags = sym (ap (λ (k : Kept). length k.flags) same') ∙ pends.long ∙ ap (λ (k : Kept). length k.flags) same in (
              long',
              λ p f. let f_j : get_or j.flags p false ≡ true = ap (λ (k : Kept). get_or k.flags p false) same ∙ f in
                  sym (ap (λ (k : Kept). get_or k.flags p false) same') ∙ (pends.pends p (flag_within j.flags p f_j)).1 (inl f_j),
              λ p f.
                  let f_j : get_or j'.flags p false ≡ true = ap (λ (k : Kept). get_or k.flags p false) same' ∙ f in
                  let below : p < length j.flags = omega (arith, flag_within j'.flags p f_j, pends.long) in
                  elim ((pends.pends p below).0 f_j) [
                    | inl old ↦ inl (sym (ap (λ (k : Kept). get_or k.flags p false) same) ∙ old)
                    | inr says ↦ inr (omega (arith, below, ap (λ (k : Kept). length k.flags) same), named_open m names, said_lacks m p says)
                  ],
            )

    -- a place that waited stays
    waits_on : (m : ℕ) (k k' : Kept) → kept_at h.tx m ≡ Some k → kept_at t m ≡ Some k' → (p : ℕ) → waits_at (Some k) p ≡ true → waits_at (Some k') p ≡ true
    waits_on m k k' was is p w = elim (or_cases (is_pending (Some k) p) (not (is_sent_at (Some k) p)) w) [
      | inl pends ↦ waits-pending (Some k') p ((flags_of m k k' was is).1 p pends)
      | inr later ↦ unsent_waits_at k' p (omega (arith, (flags_of m k k' was is).0, ltb-false p (length k.flags) (not-true (nat_lt p (length k.flags)) later)))
    ]

    forgotten_le : forgotten t r1 ≤ forgotten h.tx h.rx
    forgotten_le = total_le (λ o g p. lacks g p && not (waits_at o p)) (λ o g p. lacks g p && not (waits_at o p)) h.tx h.rx t r1 long (λ m lt. narrow (λ o g p. lacks g p && not (waits_at o p)) (λ o g p. lacks g p && not (waits_at o p)) narrower m)
      where
        narrower : (m : ℕ) (k k' : Kept) → kept_at h.tx m ≡ Some k → kept_at t m ≡ Some k' → (p : ℕ) → p < length k.sdu → (lacks (got h.rx m) p && not (waits_at (Some k') p)) ≡ true → (lacks (got h.rx m) p && not (waits_at (Some k) p)) ≡ true
        narrower m k k' was is p lp e =
            let parts = and_parts (lacks (got h.rx m) p) (not (waits_at (Some k') p)) e in
            and_from (lacks (got h.rx m) p) (not (waits_at (Some k) p)) parts.0 (elim (cases_Bool (waits_at (Some k) p)) [
              | inl w ↦ absurd (true≢false (sym (waits_on m k k' was is p w) ∙ not-true (waits_at (Some k') p) parts.1))
              | inr free ↦ not_from_false (waits_at (Some k) p) free
            ])

    open_le : total open_at t r1 ≤ total open_at h.tx h.rx
    open_le = total_le open_at open_at h.tx h.rx t r1 long (λ m lt. narrow open_at open_at narrower m)
      where
        forgot : (m : ℕ) (k k' : Kept) → kept_at h.tx m ≡ Some k → kept_at t m ≡ Some k' → (p : ℕ) → (lacks (got h.rx m) p && not (waits_at (Some k') p)) ≡ true → (waits_at (Some k) p ≡ true) → ⊥
        forgot m k k' was is p e w = true≢false (sym (waits_on m k k' was is p w) ∙ not-true (waits_at (Some k') p) (and_parts (lacks (got h.rx m) p) (not (waits_at (Some k') p)) e).1)

        narrower : (m : ℕ) (k k' : Kept) → kept_at h.tx m ≡ Some k → kept_at t m ≡ Some k' → (p : ℕ) → p < length k.sdu → open_at (Some k') (got h.rx m) p ≡ true → open_at (Some k) (got h.rx m) p ≡ true
        narrower m k k' was is p lp e = elim (cases_Bool (is_pending (Some k) p)) [
          | inl pends ↦ or_left (is_pending (Some k) p) (lacks (got h.rx m) p && not (waits_at (Some k) p)) pends
          | inr quiet ↦ or_right (is_pending (Some k) p) (lacks (got h.rx m) p && not (waits_at (Some k) p)) (elim (or_cases (is_pending (Some k') p) (lacks (got h.rx m) p && not (waits_at (Some k') p)) e) [
            | inl now ↦ elim ((flags_of m k k' was is).2 p now) [
              | inl old ↦ absurd (true≢false (sym old ∙ quiet))
              | inr new ↦ and_from (lacks (got h.rx m) p) (not (waits_at (Some k) p)) (lacks_held (got h.rx m) p new.1 new.2)
                  (not_from_false (waits_at (Some k) p) (or_from (is_pending (Some k) p) (not (is_sent_at (Some k) p)) quiet (not_from_true (is_sent_at (Some k) p) (lt-ltb p (length k.flags) new.0))))
            ]
            | inr forgets ↦ and_from (lacks (got h.rx m) p) (not (waits_at (Some k) p)) (and_parts (lacks (got h.rx m) p) (not (waits_at (Some k') p)) forgets).0
                (elim (cases_Bool (waits_at (Some k) p)) [
                  | inl w ↦ absurd (forgot m k k' was is p forgets w)
                  | inr free ↦ not_from_false (waits_at (Some k) p) free
                ])
          ])
        ]

    useful_on : 0 < useful h.tx h.rx → 0 < useful t r1
    useful_on some =
        let u = some_total (λ o g p. lacks g p && waits_at o p) h.tx h.rx some in
        go u.0 u.1 u.2 u.3 u.4 (kept_at h.tx u.0) refl (kept_at t u.0) refl
      where
        go : (m p : ℕ) → m < tx_next h.tx → p < sdu_len (kept_at h.tx m) → (lacks (got h.rx m) p && waits_at (kept_at h.tx m) p) ≡ true → (o : Option Kept) → kept_at h.tx m ≡ o → (q : Option Kept) → kept_at t m ≡ q → 0 < useful t r1
        go m p lm lp e None was q is = absurd (omega (arith, lp, ap sdu_len was))
        go m p lm lp e (Some k) was None is = absurd (still m k was is)
        go m p lm lp e (Some k) was (Some k') is =
            let parts = and_parts (lacks (got h.rx m) p) (waits_at (kept_at h.tx m) p) e in
            let from = (acks_keeps h.tx t s tags marks x).from m k' is in
            let sdu : length k'.sdu ≡ length k.sdu = ap (λ (l : List ℕ). length l) from.2 ∙ ap (λ (k : Kept). length k.sdu) (same_Some from.0 k (sym from.1 ∙ was)) in
            total_some (λ o g p. lacks g p && waits_at o p) t r1 m p (omega (arith, long, lm)) (omega (arith, lp, ap sdu_len was, ap sdu_len is, sdu))
            (and_from (lacks (got h.rx m) p) (waits_at (kept_at t m) p) parts.0 (ap (λ (o : Option Kept). waits_at o p) is ∙ waits_on m k k' was is p (sym (ap (λ (o : Option Kept). waits_at o p) was) ∙ parts.1)))

    ack_not_done : is_done (got h.rx (tx_next_ack h.tx)) ≡ false
    ack_not_done = elim (cases_Bool (is_done (got h.rx (tx_next_ack h.tx)))) [
      | inr open_m ↦ open_m
      | inl done ↦
          let is : got h.rx (tx_next_ack h.tx) ≡ Done = done_is (got h.rx (tx_next_ack h.tx)) done in
          absurd (ack_open (omega (arith, done_below h.rx (tx_next_ack h.tx) is, (reaches_inv h run).rx.long, (reaches_inv h run).tx.long)) is)
    ]

    stage_falls : distance t r1 ≤ distance h.tx h.rx
    stage_falls =
        let same_z : cond t.poll_owed (cond (is_done (got h.rx (tx_next_ack t))) 1 3) 2 ≡ (let z : ℕ = cond h.tx.poll_owed (cond (is_done (got h.rx (tx_next_ack h.tx))) 1 3) 2 in z) =
        ap (λ (m : ℕ). cond t.poll_owed (cond (is_done (got h.rx m)) 1 3) 2) ack_same ∙ ap (λ (o : Bool). cond o (cond (is_done (got h.rx (tx_next_ack h.tx))) 1 3) 2) (ap (λ (t : Tx). t.poll_owed) is_mid ∙ x.updates.poll_owed) in
        omega (
          arith,
          ap (λ (z : ℕ). cond (nat_lt 0 (useful t r1) || (false && is_done (got h.rx (tx_next_ack t)))) 0 z) same_z,
          stage_same (nat_lt 0 (useful h.tx h.rx)) (nat_lt 0 (useful t r1)) (h.rx.status_triggered && is_done (got h.rx (tx_next_ack h.tx))) (false && is_done (got h.rx (tx_next_ack t)))
              (cond h.tx.poll_owed (cond (is_done (got h.rx (tx_next_ack h.tx))) 1 3) 2)
              (λ e. lt-ltb 0 (useful t r1) (useful_on (ltb-true 0 (useful h.tx h.rx) e)))
              (and_right h.rx.status_triggered (is_done (got h.rx (tx_next_ack h.tx))) ack_not_done),
        )

    minor_less : minor t r1 < minor h.tx h.rx
    minor_less = let due = and_parts h.rx.status_triggered (not h.rx.status_prohibit_runs) made.due in omega (arith, stage_falls, forgotten_le, open_le, open_parts h.tx h.rx, parts_open t r1, ap {B = ℕ} (λ (b : Bool). cond b 2 0) due.0, ap {B = ℕ} (λ (b : Bool). cond b 1 0) (not-true h.rx.status_prohibit_runs due.1))

  -- so less is left
  status_less : rest t r1 < rest h.tx h.rx
  status_less = elim (cases_lt (unconfirmed t) (unconfirmed h.tx)) [
    | inl fewer ↦ major_falls (major h.tx h.rx) (major t r1) (scale h.tx h.rx) (scale t r1) (minor h.tx h.rx) (minor t r1) (omega (arith, missing_le)) (omega (arith, bytes_le)) (small_minor t r1 (stage_le t r1))
    | inr same ↦ minor_falls (major h.tx h.rx) (major t r1) (scale h.tx h.rx) (scale t r1) (minor h.tx h.rx) (minor t r1) (omega (arith, missing_le, unconfirmed_le)) (omega (arith, bytes_le)) (minor_less same)
  ]

module _ (h : Hop) (run : Reaches h) (n a : ℕ) (s : Status) (made : WritesStatus h.rx n a s (with h.rx h.rx.rx_highest_status h.rx.rx_next_status_trigger false h.rx.delayed_polls true)) (t : Tx) where
  -- the STATUS made
  abbrev this : StatusMade
  this = record { ack = a; status = s }

  -- the hop once it is made
  abbrev h1 : Hop
  h1 = record h { rx = with h.rx h.rx.rx_highest_status h.rx.rx_next_status_trigger false h.rx.delayed_polls true; statuses = record { ack = a; status = s } ∷ h.statuses }

  -- it can be reached
  run1 : Reaches h1
  run1 = reaches_more h (GrantStatus n) h1 run (events.makes_status a s (with h.rx h.rx.rx_highest_status h.rx.rx_next_status_trigger false h.rx.delayed_polls true) made)

  -- its ACK isn't stale, so it is read as its own
  own_a : (b : ℕ) → Near h.tx.size s.ack (tx_next_ack h.tx + 1) b → b ≡ a
  own_a b near = near_one h.tx.size s.ack (tx_next_ack h.tx + 1) b a near (own_ack h1 (reaches_inv h1 run1) this (contains_here this h.statuses) (fresh_reported h run n a s _ made))

  -- whatever the answer is
  heard_falls : (answer : StatusHeard) → HearsStatus h.tx s answer t → rest t (with h.rx h.rx.rx_highest_status h.rx.rx_next_status_trigger false h.rx.delayed_polls true) < rest h.tx h.rx
  heard_falls (Beyond sn sent) hears = absurd (none_beyond h1 run1 this (contains_here this h.statuses) (fresh_reported h run n a s _ made) hears.0)
  heard_falls (Old b next) hears = absurd (omega (arith, own_a b hears.1, hears.2, hears.3, made_from h run n a s _ made))
  heard_falls (Acked tags marks) hears = status_less h run n a s made t tags marks hears (own_a hears.a hears.ack)

pub status_falls : StatusFalls
status_falls h run n a s r answer t made hears = subst (λ (r : Rx). rest t r < rest h.tx h.rx) (sym made.after)
    (heard_falls h run n a s (subst (WritesStatus h.rx n a s) made.after made) t answer hears)
