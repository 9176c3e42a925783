-- On a hop that has carried one SDU, the first of two more is lost, asked for by a STATUS, and sent again.
use Rattle.std.proofs.Common.{◌≡◌, ◌≢◌, inl, inr, ℕ, zero, suc, ◌+◌, ◌<◌, ◌≤◌, true, false, List, [], ◌∷◌, get_or, replicate, Option, Some, None, refl, sym, ◌∙◌, ap, subst, arith}
use Rattle.std.specs.List.{Contains}
use Rattle.std.proofs.lemmas.Bool.{false≢true}
use Rattle.std.proofs.lemmas.Option.{none-some}
use Rattle.link_base.specs.declared.names.SnSize.TheVariants.{S12}
use Rattle.link_base.specs.declared.rlc_words.Tag.{Tag}
use Rattle.rlc_status.specs.declared.status.Status.{Status}
use Rattle.rlc_status.specs.Says.{NamesNumber, Names}
use Rattle.rlc_model.specs.declared.hop.HopGrant.TheVariants as grant
use Rattle.rlc_model.specs.declared.receiver.Heard.TheVariants.{Complete}
use Rattle.rlc_model.specs.Pdu.{piece}
use Rattle.rlc_model.specs.Hop.{GrantsHop}
use Rattle.rlc_model.specs.Made.{run, IsMissing, EndsRun, all, group, WritesStatus}
use Rattle.rlc_model.specs.Retransmission.{first, UpdatesSdu, confirmed, missing as asked_for, rest, Acknowledges}
use Rattle.rlc_model.specs.Rx.{Rx, Done, got, held_at, starts, IsDue, ExpiresReassembly, Hears, Polls, status_due}
use Rattle.rlc_model.specs.Tx.{Tx, Kept, kept_at, is_unsent, HasPending, pending, unsent, at, is_sent}
use Rattle.rlc_model.proofs.Checks.{any_unsent, none_pending, part_not_done, only_one, contains_none, contains_one}
use Rattle.chain_model.proofs.Sending.{kept, tx_of, all_sent, begun, sends_last, sends_one, acknowledges}
use Rattle.chain_model.proofs.Receiving.{whole, octets, missing, polls_now, still_rests, hears_whole, confirms, told}
use Rattle.chain_model.proofs.WorkedChain.{sent}

-- flags that are all true
all_true : (n p : ℕ) → p < n → get_or (replicate n true) p false ≡ true
all_true zero p lt = absurd (omega (arith, lt))
all_true (suc n) zero lt = refl
all_true (suc n) (suc p) lt = all_true n p (omega (arith, lt))

-- the first STATUS confirms the first SDU
pub acknowledges_first : (tag : Tag) (sdu : List ℕ) → any_unsent (sent tag sdu).kept ≡ false → is_sent (at (sent tag sdu).kept 0) ≡ true
    → Acknowledges (sent tag sdu) confirms (tag ∷ []) [] (tx_of (None ∷ []) 0 0 (Some 0) false)
acknowledges_first tag sdu none_u is = acknowledges (sent tag sdu).kept 0 confirms (record { same = refl; low = omega arith; high = omega arith }) (omega arith) none_u
    (omega arith, is) tt (None ∷ []) (tag ∷ []) refl refl updates
  where
    updates : (n : ℕ) → UpdatesSdu (sent tag sdu) (0 + 1) confirms n [] (at (None ∷ []) n)
    updates zero = confirmed (kept tag sdu (all_sent sdu) None) refl (omega arith, λ h. h) refl
    updates (suc n) = rest (inl (omega arith)) refl

-- two SDUs of three bytes
abbrev pub lost : List ℕ
lost = 128 ∷ 1 ∷ 97 ∷ []

abbrev pub next : List ℕ
next = 128 ∷ 2 ∷ 98 ∷ []

-- the STATUS that asks for the first
abbrev pub asks : Status
asks = record { ack = 3; nacks = record { sn = 1; part = None; range = None } ∷ [] }

module _ (tag1 tag2 : Tag) where
  -- the transmitter before each PDU, and behind the last one
  abbrev pub t0 : Tx
  t0 = tx_of (None ∷ Some (kept tag1 lost [] None) ∷ Some (kept tag2 next [] None) ∷ []) 0 0 (Some 0) false

  abbrev pub t1 : Tx
  t1 = tx_of (None ∷ Some (kept tag1 lost (all_sent lost) None) ∷ Some (kept tag2 next [] None) ∷ []) 1 3 (Some 0) false

  abbrev pub t2 : Tx
  t2 = tx_of (None ∷ Some (kept tag1 lost (all_sent lost) None) ∷ Some (kept tag2 next (all_sent next) None) ∷ []) 0 0 (Some 2) true

  abbrev pub t3 : Tx
  t3 = tx_of (None ∷ Some (kept tag1 lost (replicate 3 true) (Some 0)) ∷ None ∷ []) 0 0 (Some 2) false

  abbrev pub t4 : Tx
  t4 = tx_of (None ∷ Some (kept tag1 lost (all_sent lost) (Some 0)) ∷ None ∷ []) 0 0 (Some 2) true

  -- the other numbers stay
  others_of_one : (old new : Option Kept) (b c : Option Kept) (n : ℕ) → n ≢ 1 → at (b ∷ new ∷ c ∷ []) n ≡ at (b ∷ old ∷ c ∷ []) n
  others_of_one old new b c zero ne = refl
  others_of_one old new b c (suc zero) ne = absurd (ne refl)
  others_of_one old new b c (suc (suc n)) ne = refl

  others_of_two : (n : ℕ) → n ≢ 2 → kept_at t2 n ≡ kept_at t1 n
  others_of_two zero ne = refl
  others_of_two (suc zero) ne = refl
  others_of_two (suc (suc zero)) ne = absurd (ne refl)
  others_of_two (suc (suc (suc n))) ne = refl

  -- the first is sent without a poll
  pub grants_lost : (rx : Rx) → status_due rx ≡ false → GrantsHop t0 rx 100 (grant.Sent false 1 (octets 1 false lost)) t1 rx
  grants_lost rx due = (
    due,
    (
      piece S12 1 lost 0 3 false,
      refl,
      sends_one t0.kept t1.kept 1 (kept tag1 lost [] None) (omega arith) (omega arith) (omega arith)
          (unsent (none_pending t0 refl) (record { from = omega arith; has = refl; none = none }) refl refl refl) refl
          (others_of_one (kept_at t0 1) (kept_at t1 1) None (kept_at t0 2)) refl 0 0 1 3 (Some 0) false (omega arith) refl refl (2, refl),
    ),
    refl,
  )
    where
      none : (n : ℕ) → 0 ≤ n → n < 1 → is_unsent (kept_at t0 n) ≡ true → ⊥
      none zero low high e = false≢true e
      none (suc n) low high e = omega (arith, high)

  -- the second with one
  pub grants_next : (rx : Rx) → status_due rx ≡ false → GrantsHop t1 rx 100 (grant.Sent false 2 (octets 2 true next)) t2 rx
  grants_next rx due = (
    due,
    (
      piece S12 2 next 0 3 true,
      refl,
      sends_last t1.kept t2.kept 2 (kept tag2 next [] None) (omega arith) (omega arith) (omega arith)
          (unsent (none_pending t1 refl) (record { from = omega arith; has = refl; none = none }) refl refl refl) refl
          others_of_two refl 1 3 2 (Some 0) false refl refl (begun t2.kept 2 refl refl),
    ),
    refl,
  )
    where
      none : (n : ℕ) → 0 ≤ n → n < 2 → is_unsent (kept_at t1 n) ≡ true → ⊥
      none zero low high e = false≢true e
      none (suc zero) low high e = false≢true e
      none (suc (suc n)) low high e = omega (arith, high)

  -- the first is sent again, with a poll
  pub grants_again : (rx : Rx) → status_due rx ≡ false → GrantsHop t3 rx 100 (grant.Sent false 1 (octets 1 true lost)) t4 rx
  grants_again rx due = (
    due,
    (
      piece S12 1 lost 0 3 true,
      refl,
      sends_last t3.kept t4.kept 1 (kept tag1 lost (replicate 3 true) (Some 0)) (omega arith) (omega arith) (omega arith)
          (pending (record { from = omega arith; has = (0, refl); none = none }) refl
          (record { some = omega arith; run = λ p from to. all_true 3 p to; before = λ p lt. absurd (omega (arith, lt)); stops = refl })) refl
          (others_of_one (kept_at t3 1) (kept_at t4 1) None None) refl 0 0 2 (Some 2) false refl refl (begun t4.kept 2 refl refl),
    ),
    refl,
  )
    where
      none : (n : ℕ) → 0 ≤ n → n < 1 → HasPending t3.kept n → ⊥
      none zero low high w = false≢true w.1
      none (suc n) low high w = omega (arith, high)

  -- the STATUS names number 1 and no other
  names_one : NamesNumber S12 3 (record { sn = 1; part = None; range = None }) 1
  names_one = record { first = 1; is = record { below = omega arith; same = refl; last = omega arith }; from = omega arith; to = omega arith }

  names_no_other : (n : ℕ) → n ≢ 1 → Names S12 3 asks n → ⊥
  names_no_other n ne (inl h) = omega (arith, ne, h.is.same, h.is.below, h.from, h.to)
  names_no_other n ne (inr h) = h

  -- it has number 1 sent again, and confirms number 2
  pub acknowledges_next : Acknowledges t2 asks (tag2 ∷ []) [] t3
  acknowledges_next = acknowledges t2.kept 2 asks (record { same = refl; low = omega arith; high = omega arith }) (omega arith) refl (omega arith, refl)
      (refl, (1, record { below = omega arith; same = refl; last = omega arith }, omega arith), tt) t3.kept (tag2 ∷ []) refl refl updates
    where
      updates : (n : ℕ) → UpdatesSdu t2 (2 + 1) asks n [] (kept_at t3 n)
      updates zero = rest (inr refl) refl
      updates (suc zero) = asked_for (kept tag1 lost (all_sent lost) None) (kept tag1 lost (replicate 3 true) (Some 0)) refl (omega arith) (inl names_one) refl (record {
        tag = refl;
        sdu = refl;
        long = refl;
        pends = λ p lt. (λ e. inr (omega arith, inl (record { number = names_one; start = λ e. tt; stop = λ e. tt })), λ why. all_true 3 p lt);
        counts = first refl refl (λ c. absurd (contains_none 1 c), λ e. absurd (omega (arith, e)));
      })
      updates (suc (suc zero)) = confirmed (kept tag2 next (all_sent next) None) refl (omega arith, names_no_other 2 (λ e. absurd (omega (arith, e)))) refl
      updates (suc (suc (suc n))) = rest (inl (omega arith)) refl

-- the receiver: the second is heard, t-StatusProhibit and t-Reassembly run out, the STATUS is made, the first is heard
abbrev pub r1 : Rx
r1 = record told { received = Done ∷ missing ∷ Done ∷ []; rx_next_status_trigger = Some 3; delayed_polls = 2 ∷ [] }

abbrev pub r2 : Rx
r2 = record r1 { status_prohibit_runs = false }

abbrev pub r3 : Rx
r3 = record r2 { rx_highest_status = 3; rx_next_status_trigger = None; status_triggered = true; delayed_polls = [] }

abbrev pub r4 : Rx
r4 = record r3 { status_triggered = false; status_prohibit_runs = true }

abbrev pub r5 : Rx
r5 = record r4 { received = Done ∷ Done ∷ Done ∷ []; status_triggered = true }

-- the second is heard, and its poll is delayed
pub hears_next : Hears told (whole 2 true next) (Complete 2 next) r1
hears_next = hears_whole told 2 true next (omega arith) refl (omega arith) (omega arith) refl r1 (record { this = refl; others = others; long = refl })
    (inr (λ e. absurd (omega (arith, e)), refl)) refl refl
    (starts (λ t is runs. none-some t is) (inl (omega arith)) refl) polls
  where
    others : (n : ℕ) → n ≢ 2 → got r1 n ≡ got told n
    others zero ne = refl
    others (suc zero) ne = refl
    others (suc (suc zero)) ne = absurd (ne refl)
    others (suc (suc (suc n))) ne = refl

    not_due : IsDue r1 2 → ⊥
    not_due (inl lt) = omega (arith, lt)
    not_due (inr le) = omega (arith, le)

    polls : Polls told 2 true r1
    polls = record {
      triggers = (λ e. absurd (false≢true e), λ why. elim why [ inl e ↦ e | inr (inl p) ↦ absurd (not_due p.1) | inr (inr k) ↦ absurd (contains_none k.0 k.1) ]);
      delays = λ k. (
        λ c. (inr (refl, only_one 2 k c), λ due. not_due (subst (IsDue r1) (only_one 2 k c) due)),
        λ h. elim h.0 [ inl c ↦ absurd (contains_none k c) | inr p ↦ subst (Contains (2 ∷ [])) (sym p.1) (contains_one 2) ],
      );
      rises = λ k lt. absurd (omega (arith, lt));
    }

-- t-Reassembly runs out, and a STATUS is triggered
pub runs_out : ExpiresReassembly r2 r3
runs_out = record {
  trigger = 3;
  runs = refl;
  highest_status = record { from = omega arith; has = part_not_done [] None; none = λ n low high. absurd (omega arith) };
  reassembly = inr (λ w. elim w [ inl lt ↦ omega (arith, lt) | inr e ↦ omega (arith, e.0) ], refl);
  is = refl;
  delays = λ k. (λ c. absurd (contains_none k c), λ h. absurd (h.1 (inl (omega (arith, only_one 2 k h.0)))));
  rises = λ k lt. absurd (omega (arith, lt));
}

-- number 1 alone is missing, and the STATUS asks for it
pub makes_asks : WritesStatus r3 100 3 asks r4
makes_asks = record {
  due = refl;
  room = omega arith;
  ack = refl;
  writes = group 1 2 asks.nacks
      (record { from = omega arith; has = (omega arith, part_not_done [] None); none = λ n low high m. omega (arith, only_missing n m, high) })
      (run 2 (λ p. refl) (record { from = omega arith; has = inr (inl refl); none = λ n low high e. none n (let one : n ≡ 1 = omega arith in one) e }) refl refl)
      (omega arith)
      (all (λ n past m. omega (arith, only_missing n m, past)));
  after = refl;
}
  where
    only_missing : (n : ℕ) → IsMissing r3 n → n ≡ 1
    only_missing zero m = absurd (m.1 refl)
    only_missing (suc zero) m = refl
    only_missing (suc (suc zero)) m = absurd (m.1 refl)
    only_missing (suc (suc (suc n))) m = absurd (omega (arith, m.0))

    none : (n : ℕ) → n ≡ 1 → EndsRun r3 n → ⊥
    none n one (inl e) = omega (arith, one, e)
    none n one (inr (inl done)) = part_not_done [] None (sym (ap (got r3) one) ∙ done)
    none n one (inr (inr some)) = some.1 (ap (λ (n : ℕ). held_at (got r3 n) some.0) one)

-- the first is heard, and its poll triggers a STATUS
pub hears_lost : Hears r4 (whole 1 true lost) (Complete 1 lost) r5
hears_lost = hears_whole r4 1 true lost (omega arith) refl (omega arith) (omega arith) refl r5 (record { this = refl; others = others; long = refl })
    (inr (λ e. absurd (omega (arith, e)), refl)) refl refl
    (still_rests r5 refl (omega arith)) (polls_now r4 r5 1 refl refl refl (omega arith))
  where
    others : (n : ℕ) → n ≢ 1 → got r5 n ≡ got r4 n
    others zero ne = refl
    others (suc zero) ne = absurd (ne refl)
    others (suc (suc n)) ne = refl
