-- What is left falls where a timer runs out.
use Rattle.std.proofs.Common.{◌≡◌, ◌≢◌, inl, inr, ℕ, ◌+◌, ◌<◌, ◌≤◌, true, false, cond, not, nat_lt, ◌&&◌, ◌||◌, List, length, get_or, Option, Some, sym, ◌∙◌, ap, subst, arith, lt-ltb}
use Rattle.std.specs.Option.{is_none, is_some}
use Rattle.std.proofs.lemmas.Bool.{cases_Bool, cases_eq, false≢true, and_from, ltb-true}
use Rattle.rlc_model.specs.Tx.{Tx, Kept, kept_at, tx_next, tx_next_ack, is_pending, PendingWaits, UnsentWaits, unconfirmed}
use Rattle.rlc_model.specs.Retransmission.{RetransmitsLowest, stays, retransmits}
use Rattle.rlc_model.specs.Rx.{Rx, got, is_done}
use Rattle.rlc_law.specs.Hop.{Hop, Reaches}
use Rattle.rlc_rest.specs.Rest.{one_if, sum_below, sdu_len, lacks, waits_at, missing, bytes, pendings, forgotten, useful, distance, major, scale, minor, rest, PollFalls, ProhibitFalls}
use Rattle.rlc_rest.proofs.Sums.{count_all, sum_le, minor_falls}
use Rattle.rlc_rest.proofs.Totals.{unconfirmed_sum, total_le, total_one, total_some, same_ack, not_forgotten, waits-pending}
use Rattle.rlc_law.proofs.Invariant.{Invariant}
use Rattle.rlc_law.proofs.Inductive.{reaches_inv}
use Rattle.rlc_rest.proofs.Waits.{all_sent}
use Rattle.rlc_rest.proofs.Owed.{reaches_waits}
use Rattle.rlc_rest.proofs.Lacking.{not_done, lacks_one, no_useful, stage_two, stage_one, stage_zero}

-- without the prohibit timer less is left
prohibit_less : (t : Tx) (r : Rx) → r.status_prohibit_runs ≡ true → rest t (record r { status_prohibit_runs = false }) < rest t r
prohibit_less t r is =
    let one : one_if r.status_prohibit_runs ≡ 1 = ap one_if is in
    minor_falls (major t r) (major t r) (scale t r) (scale t r) (minor t r) (minor t (record r { status_prohibit_runs = false })) (omega arith) (omega arith) (omega (arith, one))

pub prohibit_falls : ProhibitFalls
prohibit_falls t old new x = subst (λ (r : Rx). rest t r < rest t old) (sym x.is) (prohibit_less t old x.runs)

module _ (h : Hop) (run : Reaches h) (none_pending : PendingWaits h.tx → ⊥) (none_unsent : UnsentWaits h.tx → ⊥) (quiet : h.rx.status_triggered ≡ false) (below : tx_next_ack h.tx < tx_next h.tx) (t : Tx) where
  -- the invariant holds
  inv : Invariant h
  inv = reaches_inv h run

  -- no poll is owed, since none waits
  not_owed : h.tx.poll_owed ≡ false
  not_owed = elim (cases_Bool h.tx.poll_owed) [
    | inr no_poll ↦ no_poll
    | inl owes ↦ elim (reaches_waits h run owes) [
      | inl w ↦ absurd (none_pending w)
      | inr (inl w) ↦ absurd (none_unsent w)
      | inr (inr e) ↦ absurd (omega arith)
    ]
  ]

  -- so the stage is 2
  stage_before : distance h.tx h.rx ≡ 2
  stage_before = stage_two (nat_lt 0 (useful h.tx h.rx)) h.rx.status_triggered (is_done (got h.rx (tx_next_ack h.tx))) (is_done (got h.rx (tx_next_ack h.tx))) h.tx.poll_owed
      (elim (cases_Bool (nat_lt 0 (useful h.tx h.rx))) [
        | inl some ↦ absurd (no_useful h.tx h.rx none_pending none_unsent (ltb-true 0 (useful h.tx h.rx) some))
        | inr none ↦ none
      ]) quiet not_owed

  module _ (j j' : Kept) (was : kept_at h.tx (tx_next_ack h.tx) ≡ Some j) (is_j : kept_at t (tx_next_ack h.tx) ≡ Some j') (sdu : j'.sdu ≡ j.sdu) (all_pending : (p : ℕ) → p < length j.sdu → get_or j'.flags p false ≡ true)
      (others : (n : ℕ) → n ≢ tx_next_ack h.tx → kept_at t n ≡ kept_at h.tx n) (long : tx_next t ≡ tx_next h.tx) (owes : t.poll_owed ≡ true) where
    m : ℕ
    m = tx_next_ack h.tx

    size_same : (n : ℕ) → sdu_len (kept_at t n) ≡ sdu_len (kept_at h.tx n)
    size_same n = elim (cases_eq n (tx_next_ack h.tx)) [
      | inl e ↦ ap sdu_len (ap (kept_at t) e ∙ is_j) ∙ ap (λ (l : List ℕ). length l) sdu ∙ sym (ap sdu_len (ap (kept_at h.tx) e ∙ was))
      | inr ne ↦ ap sdu_len (others n ne)
    ]

    some_same : (n : ℕ) → is_some (kept_at t n) ≡ is_some (kept_at h.tx n)
    some_same n = elim (cases_eq n (tx_next_ack h.tx)) [
      | inl e ↦ ap is_some (ap (kept_at t) e ∙ is_j) ∙ sym (ap is_some (ap (kept_at h.tx) e ∙ was))
      | inr ne ↦ ap is_some (others n ne)
    ]

    none_same : (n : ℕ) → is_none (kept_at t n) ≡ is_none (kept_at h.tx n)
    none_same n = elim (cases_eq n (tx_next_ack h.tx)) [
      | inl e ↦ ap is_none (ap (kept_at t) e ∙ is_j) ∙ sym (ap is_none (ap (kept_at h.tx) e ∙ was))
      | inr ne ↦ ap is_none (others n ne)
    ]

    ack_same : tx_next_ack t ≡ tx_next_ack h.tx
    ack_same = same_ack h.tx t long (λ n lt. none_same n)

    pending_m : (p : ℕ) → p < length j.sdu → is_pending (kept_at t (tx_next_ack h.tx)) p ≡ true
    pending_m p lt = ap (λ (o : Option Kept). is_pending o p) is_j ∙ all_pending p lt

    unconfirmed_le : unconfirmed t ≤ unconfirmed h.tx
    unconfirmed_le = omega (arith, unconfirmed_sum t, unconfirmed_sum h.tx, ap (λ (k : ℕ). sum_below (λ n. one_if (is_some (kept_at t n))) k) long, sum_le (λ n. one_if (is_some (kept_at t n))) (λ n. one_if (is_some (kept_at h.tx n))) (tx_next h.tx) (λ n lt. omega (arith, ap one_if (some_same n))))

    missing_le : missing t h.rx ≤ missing h.tx h.rx
    missing_le = total_le (λ o g p. lacks g p) (λ o g p. lacks g p) h.tx h.rx t h.rx long (λ n lt. inr (size_same n, λ p lp e. e))

    bytes_le : bytes t h.rx ≤ bytes h.tx h.rx
    bytes_le = total_le (λ o g p. true) (λ o g p. true) h.tx h.rx t h.rx long (λ n lt. inr (size_same n, λ p lp e. e))

    pendings_le : pendings t h.rx ≤ pendings h.tx h.rx + 9005
    pendings_le = total_one (λ o g p. is_pending o p) (λ o g p. is_pending o p) h.tx h.rx t h.rx long (tx_next_ack h.tx) 9005
        (λ n lt ne. inr (size_same n, λ p lp e. sym (ap (λ (o : Option Kept). is_pending o p) (others n ne)) ∙ e))
        (omega (
          arith,
          count_all (is_pending (kept_at t (tx_next_ack h.tx))) (sdu_len (kept_at t (tx_next_ack h.tx))),
          size_same (tx_next_ack h.tx),
          ap sdu_len was,
          ap (λ (l : List ℕ). length l) ((reaches_inv h run).tx.sdu (tx_next_ack h.tx) j was),
          ((reaches_inv h run).sdus (tx_next_ack h.tx) (omega (arith, (reaches_inv h run).tx.long))).1,
        ))

    forgotten_le : forgotten t h.rx ≤ forgotten h.tx h.rx
    forgotten_le = total_le (λ o g p. lacks g p && not (waits_at o p)) (λ o g p. lacks g p && not (waits_at o p)) h.tx h.rx t h.rx long (λ n lt. inr (size_same n, narrower n))
      where
        narrower : (n p : ℕ) → p < sdu_len (kept_at h.tx n) → (lacks (got h.rx n) p && not (waits_at (kept_at t n) p)) ≡ true → (lacks (got h.rx n) p && not (waits_at (kept_at h.tx n) p)) ≡ true
        narrower n p lp e = elim (cases_eq n (tx_next_ack h.tx)) [
          | inl here ↦
              let long_j : p < length j.sdu = omega (arith, lp, ap sdu_len (ap (kept_at h.tx) here ∙ was)) in
              absurd (false≢true (sym (not_forgotten (kept_at t n) (got h.rx n) p (ap (λ (n : ℕ). is_pending (kept_at t n) p) here ∙ pending_m p long_j)) ∙ e))
          | inr ne ↦ ap (λ (o : Option Kept). lacks (got h.rx n) p && not (waits_at o p)) (sym (others n ne)) ∙ e
        ]

    stage_after : distance t h.rx ≤ 1
    stage_after = elim (cases_Bool (is_done (got h.rx (tx_next_ack h.tx)))) [
      | inl done ↦ stage_one (nat_lt 0 (useful t h.rx) || (h.rx.status_triggered && is_done (got h.rx (tx_next_ack t)))) t.poll_owed (is_done (got h.rx (tx_next_ack t))) owes (ap (λ (n : ℕ). is_done (got h.rx n)) ack_same ∙ done)
      | inr open_m ↦
          let one = lacks_one h (reaches_inv h run) (tx_next_ack h.tx) j was (not_done (got h.rx (tx_next_ack h.tx)) open_m) in
          let some : 0 < useful t h.rx = total_some (λ o g p. lacks g p && waits_at o p) t h.rx (tx_next_ack h.tx) one.0 (omega (arith, long)) (omega (arith, one.1, size_same (tx_next_ack h.tx), ap sdu_len was))
          (and_from (lacks (got h.rx (tx_next_ack h.tx)) one.0) (waits_at (kept_at t (tx_next_ack h.tx)) one.0) one.2 (waits-pending (kept_at t (tx_next_ack h.tx)) one.0 (pending_m one.0 one.1))) in
          omega (arith, stage_zero (nat_lt 0 (useful t h.rx)) (h.rx.status_triggered && is_done (got h.rx (tx_next_ack t))) (cond t.poll_owed (cond (is_done (got h.rx (tx_next_ack t))) 1 3) 2) (lt-ltb 0 (useful t h.rx) some))
    ]

    falls : rest t h.rx < rest h.tx h.rx
    falls = minor_falls (major h.tx h.rx) (major t h.rx) (scale h.tx h.rx) (scale t h.rx) (minor h.tx h.rx) (minor t h.rx)
        (omega (arith, unconfirmed_le, missing_le)) (omega (arith, bytes_le)) (omega (arith, stage_before, stage_after, pendings_le, forgotten_le))

pub poll_falls : PollFalls
poll_falls h run none_pending none_unsent quiet below marks t x = go (subst (λ (mid : Tx). RetransmitsLowest mid marks t) x.stopped x.lowest)
  where
    go : RetransmitsLowest (record h.tx { poll_retransmit_runs = false; poll_owed = true }) marks t → rest t h.rx < rest h.tx h.rx
    go (stays (inl w) no_marks same) = absurd (none_pending w)
    go (stays (inr (inl w)) no_marks same) = absurd (none_unsent w)
    go (stays (inr (inr e)) no_marks same) = absurd (omega (arith, e))
    go (retransmits low) =
        falls h run none_pending none_unsent quiet below t low.before low.behind low.was low.is low.becomes.sdu
        (λ p lt. (low.becomes.pends p (omega (arith, all_sent h.tx (tx_next_ack h.tx) low.before low.was none_unsent))).1 (inr tt)) low.others low.long (ap (λ (t : Tx). t.poll_owed) low.same)
