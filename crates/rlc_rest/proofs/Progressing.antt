-- Each call of a transmitter leaves one that can go on.
use Rattle.std.proofs.Common.{◌≡◌, ◌⊎◌, inl, inr, ℕ, ◌-◌, ◌<◌, ◌≤◌, true, false, nat_lt, List, [], ◌∷◌, length, get_or, Option, Some, None, refl, sym, ◌∙◌, ap, subst, arith, lt-ltb}
use Rattle.std.proofs.lemmas.Bool.{cases_lt, cases_eq, cases_Bool, false≢true, true≢false, ltb-false}
use Rattle.std.proofs.lemmas.Option.{none-some, same_Some}
use Rattle.std.proofs.lemmas.List.{get_or_push}
use Rattle.link_base.specs.declared.names.SnSize.{SnSize}
use Rattle.rlc_status.specs.Says.{IsGreatest, starts_by, ends_behind, NamesNumber, NamesPlace, Some_has, SaysReceived}
use Rattle.rlc_model.specs.Numbers.{IsFirst}
use Rattle.rlc_pdu.specs.Amd.{Amd}
use Rattle.rlc_status.specs.declared.status.Nack.{Nack}
use Rattle.rlc_status.specs.declared.status.Status.{Status}
use Rattle.rlc_status.specs.Format.{StatusFits, AllFit, NackFits}
use Rattle.rlc_model.specs.Tx.{Tx, Kept, kept_at, tx_next, tx_next_ack, is_pending, is_unsent, is_sent, PendingWaits, UnsentWaits, IsSent, Gives, IsNext, pending, unsent, IsPolled, nothing_waits, owed, Sends}
use Rattle.rlc_model.specs.declared.transmitter.TxGrant.TheVariants.{Sent, Idle, Small}
use Rattle.rlc_model.specs.Retransmission.{RetransmitsLowest, stays, retransmits, beyond_at, begins_past, not_sent, UpdatesSdu, confirmed, missing, rest, Acknowledges, ExpiresPoll}
use Rattle.rlc_model.specs.declared.transmitter.StatusHeard.TheVariants.{Acked, Old, Beyond}
use Rattle.rlc_rest.specs.Progress.{IsAbovePoll, EachBelowPending, Progress, HoldsSdus, EachCallProgresses}
use Rattle.rlc_law.specs.Transmitter.{gives, grants, hears_status, expires_poll}
use Rattle.rlc_law.proofs.Base.{kept_below, from_next_ack}
use Rattle.rlc_law.proofs.Pieces.{run_within, sends_within}
use Rattle.rlc_law.proofs.Grant.{next_was}
use Rattle.rlc_law.proofs.Give.{pushed}
use Rattle.rlc_law.proofs.Truth.{some_weaker}
use Rattle.rlc_law.proofs.Order.{sent_kept}
use Rattle.rlc_law.proofs.Transmitter.{lowest_confirms_none}
use Rattle.rlc_law.proofs.Acknowledge.{Keeps, lowest_keeps, updates_keeps, acks_keeps, expires_keeps}
use Rattle.rlc_rest.proofs.Waits.{cases_unsent, cases_pending, all_sent}
use Rattle.link_base.specs.declared.rlc_words.Tag.{Tag}

-- a change that keeps the SDUs keeps them whole
pub keeps_whole : (old new : Tx) → Keeps old new → HoldsSdus old → HoldsSdus new
keeps_whole old new keeps whole n k' is =
    let was = keeps.from n k' is in
    let w = whole n was.0 was.1 in
    let long : length k'.sdu ≡ length (was.0).sdu = ap (λ (l : List ℕ). length l) was.2 in
    (omega (arith, w.0, long), omega (arith, w.1, long, was.3))

-- an SDU with a byte sent was sent of
sent_some : (k : Kept) → 0 < length k.flags → is_sent (Some k) ≡ true
sent_some k lt = lt-ltb 0 (length k.flags) lt

-- where a poll is owed, the rule leaves a transmitter that can go on
pub lowest_some : (old : Tx) (marks : List ℕ) (new : Tx) → HoldsSdus old → old.poll_owed ≡ true → RetransmitsLowest old marks new → (n : ℕ) (k : Kept) → kept_at new n ≡ Some k → (new.poll_retransmit_runs ≡ true) ⊎ UnsentWaits new ⊎ ((new.poll_owed ≡ true) × PendingWaits new) ⊎ EachBelowPending new
lowest_some old marks new whole owes (stays why no_marks same) n k is = elim why [
  | inl pends ↦ inr (inr (inl (ap (λ (t : Tx). t.poll_owed) same ∙ owes, subst PendingWaits (sym same) pends)))
  | inr (inl unsents) ↦ inr (inl (subst UnsentWaits (sym same) unsents))
  | inr (inr all) ↦
      let was : kept_at old n ≡ Some k = sym (ap (λ (t : Tx). kept_at t n) same) ∙ is in
      absurd (omega (arith, from_next_ack old n k was, kept_below old n k was))
]
lowest_some old marks new whole owes (retransmits low) n k is =
    let some : 0 < length low.before.flags = omega (arith, (whole (tx_next_ack old) low.before low.was).0, all_sent old (tx_next_ack old) low.before low.was low.none_unsent) in
    let flag : get_or low.behind.flags 0 false ≡ true = (low.becomes.pends 0 some).1 (inr tt) in
    inr (inr (inl (ap (λ (t : Tx). t.poll_owed) low.same ∙ owes, (tx_next_ack old, 0, ap (λ o. is_pending o 0) low.is ∙ flag))))

-- what is unsent stays so
lowest_unsent : (old : Tx) (marks : List ℕ) (new : Tx) → RetransmitsLowest old marks new → UnsentWaits old → UnsentWaits new
lowest_unsent old marks new (stays why no_marks same) w = subst UnsentWaits (sym same) w
lowest_unsent old marks new (retransmits low) w = absurd (low.none_unsent w)

-- and POLL_SN stays
lowest_poll_sn : (old : Tx) (marks : List ℕ) (new : Tx) → RetransmitsLowest old marks new → new.poll_sn ≡ old.poll_sn
lowest_poll_sn old marks new (stays why no_marks same) = ap (λ (t : Tx). t.poll_sn) same
lowest_poll_sn old marks new (retransmits low) = ap (λ (t : Tx). t.poll_sn) low.same

-- the expiry of t-PollRetransmit leaves a transmitter that can go on
pub expires_progress : (old : Tx) (marks : List ℕ) (new : Tx) → HoldsSdus old → Progress old → ExpiresPoll old marks new → Progress new
expires_progress old marks new whole progress x =
    let mid_whole : HoldsSdus x.mid = subst HoldsSdus (sym x.stopped) whole in
    record {
      some = lowest_some x.mid marks new mid_whole (ap (λ (t : Tx). t.poll_owed) x.stopped) x.lowest;
      polled = λ n sent above.
          let sent_mid : IsSent x.mid n = sent_kept x.mid new (lowest_keeps x.mid marks new x.lowest) (λ n k was is. absurd (lowest_confirms_none x.mid marks new x.lowest n k was is)) n sent in
          let sent_old : IsSent old n = subst (λ (t : Tx). IsSent t n) x.stopped sent_mid in
          let poll_same : new.poll_sn ≡ old.poll_sn = lowest_poll_sn x.mid marks new x.lowest ∙ ap (λ (t : Tx). t.poll_sn) x.stopped in
          lowest_unsent x.mid marks new x.lowest (subst UnsentWaits (sym x.stopped) (progress.polled n sent_old (λ h e. above h (poll_same ∙ e))));
    }

-- giving keeps SDUs whole
pub gives_whole : (old new : Tx) (tag : Tag) (sdu : List ℕ) (number : ℕ) → 0 < length sdu → HoldsSdus old → Gives old tag sdu number new → HoldsSdus new
gives_whole old new tag sdu number some whole g n k is =
    elim (pushed old.kept (Some (record { tag = tag; sdu = sdu; flags = []; retx_count = None })) n k (sym (ap (λ (t : Tx). kept_at t n) g.is) ∙ is)) [
      | inl e ↦ whole n k e
      | inr e ↦ subst (λ (k : Kept). (0 < length k.sdu) × (length k.flags ≤ length k.sdu)) (same_Some _ k e.1) (some, omega arith)
    ]

-- and leaves a transmitter that can go on
pub gives_progress : (old new : Tx) (tag : Tag) (sdu : List ℕ) (number : ℕ) → 0 < length sdu → Gives old tag sdu number new → Progress new
gives_progress old new tag sdu number some g =
    let fresh : Kept = record { tag = tag; sdu = sdu; flags = []; retx_count = None } in
    let at_end : kept_at new (tx_next old) ≡ Some fresh = ap (λ (t : Tx). kept_at t (tx_next old)) g.is ∙ get_or_push old.kept (Some fresh) None (tx_next old) refl in
    let waiting : UnsentWaits new = (tx_next old, ap is_unsent at_end ∙ lt-ltb 0 (length sdu) some) in
    record { some = λ n k is. inr (inl waiting); polled = λ n sent above. waiting }

module _ (old new : Tx) (n m : ℕ) (v : Amd) (s : Sends old n m v new) where
  -- the SDU before
  was_m : kept_at old m ≡ Some s.kept
  was_m = next_was old m s.kept s.a s.b s.next

  -- sending keeps SDUs whole
  pub sends_whole : HoldsSdus old → HoldsSdus new
  sends_whole whole j k is = elim (cases_eq j m) [
    | inl e ↦
        let w = whole m s.kept was_m in
        subst (λ (k : Kept). (0 < length k.sdu) × (length k.flags ≤ length k.sdu)) (same_Some (record s.kept { flags = s.flags }) k (sym s.this ∙ ap (kept_at new) (sym e) ∙ is))
        (w.0, omega (arith, s.clears.long, w.1, sends_within old n m v new s w.1))
    | inr ne ↦ whole j k (sym (s.others j ne) ∙ is)
  ]

  -- no place becomes pending
  pends_before : (j p : ℕ) → is_pending (kept_at new j) p ≡ true → is_pending (kept_at old j) p ≡ true
  pends_before j p is = elim (cases_eq j m) [
    | inl e ↦
        let now : get_or s.flags p false ≡ true = sym (ap (λ (o : Option Kept). is_pending o p) (ap (kept_at new) e ∙ s.this)) ∙ is in
        ap (λ (o : Option Kept). is_pending o p) (ap (kept_at old) e ∙ was_m) ∙ elim (cases_lt p s.a) [
          | inl lt ↦ sym (s.clears.rest p (inl lt)) ∙ now
          | inr le ↦ elim (cases_lt p s.e) [
            | inl below ↦ absurd (false≢true (sym (s.clears.sent p le below) ∙ now))
            | inr past ↦ sym (s.clears.rest p (inr past)) ∙ now
          ]
        ]
    | inr ne ↦ sym (ap (λ (o : Option Kept). is_pending o p) (s.others j ne)) ∙ is
  ]

  -- a PDU of pending bytes is of the lowest number that has some, and leaves as many bytes sent
  abbrev IsAgain : Type 0
  IsAgain = IsFirst (λ n. (p : ℕ) × (is_pending (kept_at old n) p ≡ true)) 0 m × (length s.flags ≡ length s.kept.flags)

  -- where bytes stay pending, the PDU was a retransmission
  again : PendingWaits new → IsAgain
  again waits_new = go s.next
    where
      go : IsNext old m s.kept s.a s.b → IsAgain
      go (pending first is run) = (first, omega (arith, s.clears.long, s.end, run_within s.kept.flags s.a s.b run))
      go (unsent none first is from to) = absurd (none (waits_new.0, waits_new.1, pends_before waits_new.0 waits_new.1 waits_new.2))

  module _ (same_flags : length s.flags ≡ length s.kept.flags) where
    unsent_same : (j : ℕ) → is_unsent (kept_at new j) ≡ is_unsent (kept_at old j)
    unsent_same j = elim (cases_eq j m) [
      | inl e ↦ ap is_unsent (ap (kept_at new) e ∙ s.this) ∙ ap (λ (l : ℕ). nat_lt l (length s.kept.sdu)) same_flags ∙ sym (ap is_unsent (ap (kept_at old) e ∙ was_m))
      | inr ne ↦ ap is_unsent (s.others j ne)
    ]

    sent_same : (j : ℕ) → is_sent (kept_at new j) ≡ is_sent (kept_at old j)
    sent_same j = elim (cases_eq j m) [
      | inl e ↦ ap is_sent (ap (kept_at new) e ∙ s.this) ∙ ap (λ (l : ℕ). nat_lt 0 l) same_flags ∙ sym (ap is_sent (ap (kept_at old) e ∙ was_m))
      | inr ne ↦ ap is_sent (s.others j ne)
    ]

    unsent_back : UnsentWaits old → UnsentWaits new
    unsent_back w = (w.0, unsent_same w.0 ∙ w.1)

  -- an SDU kept was there before
  kept_before : (j : ℕ) (k : Kept) → kept_at new j ≡ Some k → (k' : Kept) × (kept_at old j ≡ Some k')
  kept_before j k is = elim (cases_eq j m) [
    | inl e ↦ (s.kept, ap (kept_at old) e ∙ was_m)
    | inr ne ↦ (k, sym (s.others j ne) ∙ is)
  ]

  -- so each unconfirmed number is pending or below one that is, as before
  below_pending : PendingWaits new → IsFirst (λ n. (p : ℕ) × (is_pending (kept_at old n) p ≡ true)) 0 m → EachBelowPending old → EachBelowPending new
  below_pending w first each j k is =
      let k' = kept_before j k is in
      let by = each j k'.0 k'.1 in
      elim (cases_eq by.0 m) [
        | inl e ↦ elim (cases_lt w.0 m) [
          | inl below ↦ absurd (first.none w.0 (omega arith) below (w.1, pends_before w.0 w.1 w.2))
          | inr above ↦ (w.0, w.1, omega (arith, by.2), w.2)
        ]
        | inr ne ↦ (by.0, by.1, by.2, ap (λ (o : Option Kept). is_pending o by.1) (s.others by.0 ne) ∙ by.3)
      ]

  -- sending leaves a transmitter that can go on
  pub sends_progress : Progress old → Progress new
  sends_progress progress = elim (cases_Bool v.poll) [
    | inl polls ↦
        let r = s.counters.begins polls in
        record {
          some = λ j k is. inl r.runs;
          polled = λ j sent above. absurd (omega (arith, above r.highest r.poll_sn, r.is_highest.above j sent));
        }
    | inr quiet ↦
        let r = s.counters.counts quiet in
        let not_polled : IsPolled old new (s.e - length s.kept.flags) → ⊥ = λ p. true≢false (sym (s.counters.polled.1 p) ∙ quiet) in
        elim (cases_unsent new) [
          | inl w ↦ record { some = λ j k is. inr (inl w); polled = λ j sent above. w }
          | inr none ↦ elim (cases_pending new) [
            | inr nothing ↦ absurd (not_polled (nothing_waits none nothing))
            | inl w ↦
                let a = again w in
                let back = unsent_back a.1 in
                record {
                  some = λ j k is. let k' = kept_before j k is in elim (progress.some j k'.0 k'.1) [
                    | inl runs ↦ inl (r.runs ∙ runs)
                    | inr (inl u) ↦ inr (inl (back u))
                    | inr (inr (inl o)) ↦ absurd (not_polled (owed o.0))
                    | inr (inr (inr each)) ↦ inr (inr (inr (below_pending w a.0 each)))
                  ];
                  polled = λ j sent above. back (progress.polled j (omega (arith, s.long, sent.0), sym (sent_same a.1 j) ∙ sent.1) (λ h e. above h (r.poll_sn ∙ e)));
                }
          ]
        ]
  ]

-- of a number that an element names, it names a place that there is
module _ (z : SnSize) (a n : ℕ) (len : ℕ) (some : 0 < len) where
  -- a part of the number n begins behind its SDU
  abbrev BeginsPast : Nack → Type 0
  BeginsPast e = (m x y : ℕ) × IsGreatest z a e.sn m × (e.part ≡ Some (x, y)) × (n ≡ m) × (len ≤ x)

  -- an element that names a number names a place of it
  one_place : (e : Nack) → NackFits z e → (BeginsPast e → ⊥) → NamesNumber z a e n → (p : ℕ) × (p < len) × NamesPlace z a e n p
  one_place e fits good names = elim (cases_eq n names.first) [
    | inl here ↦ go e.part refl here
    | inr later ↦ (0, some, record { number = names; start = λ h. absurd (later h); stop = λ h. zero_place e.part })
  ]
    where
      zero_place : (part : Option (ℕ × ℕ)) → ends_behind part 0
      zero_place None = tt
      zero_place (Some part) = inr (omega arith)

      go : (part : Option (ℕ × ℕ)) → e.part ≡ part → n ≡ names.first → (p : ℕ) × (p < len) × NamesPlace z a e n p
      go None is here = (0, some, record { number = names; start = λ h. subst (λ (o : Option (ℕ × ℕ)). starts_by o 0) (sym is) tt; stop = λ h. subst (λ (o : Option (ℕ × ℕ)). ends_behind o 0) (sym is) tt })
      go (Some part) is here = elim (cases_lt part.0 len) [
        | inl lt ↦ (
          part.0,
          lt,
          record {
            number = names;
            start = λ h. subst (λ (o : Option (ℕ × ℕ)). starts_by o part.0) (sym is) (omega arith);
            stop = λ h. subst (λ (o : Option (ℕ × ℕ)). ends_behind o part.0) (sym is) (inr (fits.order part.0 part.1 is (omega arith)));
          },
        )
        | inr past ↦ absurd (good (names.first, part.0, part.1, names.is, is, here, past))
      ]

  -- some element does
  place_of : (es : List Nack) → AllFit z es → (Some_has BeginsPast es → ⊥) → Some_has (λ e. NamesNumber z a e n) es → (p : ℕ) × (p < len) × Some_has (λ e. NamesPlace z a e n p) es
  place_of [] fits good names = absurd names
  place_of (e ∷ es) fits good (inl h) = let r = one_place e fits.0 (λ b. good (inl b)) h in (r.0, r.1, inl r.2)
  place_of (e ∷ es) fits good (inr h) = let r = place_of es fits.1 (λ b. good (inr b)) h in (r.0, r.1, inr r.2)

module _ (old new : Tx) (s : Status) (fits : StatusFits old.size s) (whole : HoldsSdus old) (tags : List Tag) (marks : List ℕ) (x : Acknowledges old s tags marks new) where
  -- before the last rule the SDUs are kept
  mid_keeps : Keeps old x.mid
  mid_keeps = updates_keeps old x.a s x.missing_marks x.mid x.updates

  -- and whole
  mid_whole : HoldsSdus x.mid
  mid_whole = keeps_whole old x.mid mid_keeps whole

  -- what is confirmed was all sent
  confirmed_sent : (n : ℕ) (k : Kept) → kept_at old n ≡ Some k → SaysReceived old.size x.a s n → length k.sdu ≤ length k.flags
  confirmed_sent n k is says = elim (cases_Bool (nat_lt (length k.flags) (length k.sdu))) [
    | inl less ↦ absurd (x.fine (beyond_at x.a x.ack (not_sent n says (ap is_unsent is ∙ less))))
    | inr full ↦ ltb-false (length k.flags) (length k.sdu) full
  ]

  -- and some of it
  confirmed_some : (n : ℕ) (k : Kept) → kept_at old n ≡ Some k → kept_at x.mid n ≡ None → 0 < length k.flags
  confirmed_some n k is none = go (x.updates.each n)
    where
      go : UpdatesSdu old x.a s n x.missing_marks (kept_at x.mid n) → 0 < length k.flags
      go (confirmed j was says e) = omega (arith, confirmed_sent n k is says, whole n k is)
      go (missing j j' was below names e pends) = absurd (none-some j' (sym none ∙ e))
      go (rest why e) = absurd (none-some k (sym none ∙ e ∙ is))

  -- what is unsent stays so
  mid_unsent : UnsentWaits old → UnsentWaits x.mid
  mid_unsent w = go (x.updates.each w.0)
    where
      same_unsent : (k j' : Kept) → kept_at old w.0 ≡ Some k → kept_at x.mid w.0 ≡ Some j' → length j'.flags ≡ length k.flags → j'.sdu ≡ k.sdu → UnsentWaits x.mid
      same_unsent k j' is e long sdu = (w.0, ap is_unsent e ∙ ap (λ (l : ℕ). nat_lt l (length j'.sdu)) long ∙ ap (λ (d : List ℕ). nat_lt (length k.flags) (length d)) sdu ∙ sym (ap is_unsent is) ∙ w.1)

      go : UpdatesSdu old x.a s w.0 x.missing_marks (kept_at x.mid w.0) → UnsentWaits x.mid
      go (confirmed j was says e) = absurd (x.fine (beyond_at x.a x.ack (not_sent w.0 says w.1)))
      go (missing j j' was below names e pends) = same_unsent j j' was e pends.long pends.sdu
      go (rest why e) = (w.0, ap is_unsent e ∙ w.1)

  -- an unconfirmed number below the ACK is pending, once no byte stays unsent
  mid_pending : (UnsentWaits x.mid → ⊥) → (n : ℕ) (k : Kept) → kept_at x.mid n ≡ Some k → n < x.a → (p : ℕ) × (is_pending (kept_at x.mid n) p ≡ true)
  mid_pending none n k is below = go (x.updates.each n)
    where
      go : UpdatesSdu old x.a s n x.missing_marks (kept_at x.mid n) → (p : ℕ) × (is_pending (kept_at x.mid n) p ≡ true)
      go (confirmed j was says e) = absurd (none-some k (sym e ∙ is))
      go (rest (inl past) e) = absurd (omega arith)
      go (rest (inr gone) e) = absurd (none-some k (sym gone ∙ sym e ∙ is))
      go (missing j j' was lt names e pends) =
          let full : length j.sdu ≤ length j.flags = elim (cases_Bool (nat_lt (length j.flags) (length j.sdu))) [
            | inl less ↦ absurd (none (mid_unsent (n, ap is_unsent was ∙ less)))
            | inr full ↦ ltb-false (length j.flags) (length j.sdu) full
          ] in
          let place = place_of old.size x.a n (length j.sdu) (whole n j was).0 s.nacks fits.1
          (λ b. x.fine (beyond_at x.a x.ack (begins_past (some_weaker _ _ (λ e b. record { number = b.0; unconfirmed = j; start = b.1; end = b.2; is = b.3; part = b.4; kept = ap (kept_at old) (sym b.5) ∙ was; past = b.6 }) s.nacks b))))
          names in
          (place.0, ap (λ (o : Option Kept). is_pending o place.0) e ∙ (pends.pends place.0 (omega (arith, place.1, full))).1 (inr (lt, place.2)))

  -- what was pending is pending still, or confirmed
  mid_still : (n p : ℕ) → is_pending (kept_at old n) p ≡ true → (is_pending (kept_at x.mid n) p ≡ true) ⊎ (n < x.a)
  mid_still n p is = go (x.updates.each n)
    where
      go : UpdatesSdu old x.a s n x.missing_marks (kept_at x.mid n) → (is_pending (kept_at x.mid n) p ≡ true) ⊎ (n < x.a)
      go (confirmed j was says e) = inr says.0
      go (missing j j' was below names e pends) = inr below
      go (rest why e) = inl (ap (λ (o : Option Kept). is_pending o p) e ∙ is)

  -- an SDU kept was there before
  mid_before : (n : ℕ) (k : Kept) → kept_at x.mid n ≡ Some k → (k' : Kept) × (kept_at old n ≡ Some k')
  mid_before n k is = let was = mid_keeps.from n k is in (was.0, was.1)

  -- each unconfirmed number is pending or below one that is, as before
  mid_below_pending : (UnsentWaits x.mid → ⊥) → EachBelowPending old → EachBelowPending x.mid
  mid_below_pending none each n k is =
      let k' = mid_before n k is in
      let by = each n k'.0 k'.1 in
      elim (mid_still by.0 by.1 by.3) [
        | inl still ↦ (by.0, by.1, by.2, still)
        | inr below ↦ let p = mid_pending none n k is (omega (arith, by.2, below)) in (n, p.0, omega arith, p.1)
      ]

  -- where the timer stops, each unconfirmed number is pending
  mid_stopped : Progress old → (UnsentWaits x.mid → ⊥) → (h : ℕ) → old.poll_sn ≡ Some h → h < x.a → EachBelowPending x.mid
  mid_stopped progress none h poll below n k is = elim (cases_lt n x.a) [
    | inl lt ↦ let p = mid_pending none n k is lt in (n, p.0, omega arith, p.1)
    | inr past ↦
        let was = mid_keeps.from n k is in
        let flags : 0 < length (was.0).flags = omega (arith, (mid_whole n k is).0, all_sent x.mid n k is none, was.3) in
        absurd (none (mid_unsent (progress.polled n (kept_below old n was.0 was.1, ap is_sent was.1 ∙ sent_some was.0 flags)
        (λ g e. omega (arith, same_Some g h (sym e ∙ poll))))))
  ]

  -- where no poll is owed the transmitter can go on
  mid_some : Progress old → x.mid.poll_owed ≡ false → (n : ℕ) (k : Kept) → kept_at x.mid n ≡ Some k → (x.mid.poll_retransmit_runs ≡ true) ⊎ UnsentWaits x.mid ⊎ ((x.mid.poll_owed ≡ true) × PendingWaits x.mid) ⊎ EachBelowPending x.mid
  mid_some progress free n k is = elim (cases_unsent x.mid) [
    | inl w ↦ inr (inl w)
    | inr none ↦ elim x.updates.timer [
      | inl stopped ↦ inr (inr (inr (mid_stopped progress none stopped.0 stopped.1 stopped.2)))
      | inr goes ↦ let k' = mid_before n k is in elim (progress.some n k'.0 k'.1) [
        | inl runs ↦ inl (goes.1 ∙ runs)
        | inr (inl w) ↦ inr (inl (mid_unsent w))
        | inr (inr (inl o)) ↦ absurd (true≢false (sym o.0 ∙ sym x.updates.poll_owed ∙ free))
        | inr (inr (inr each)) ↦ inr (inr (inr (mid_below_pending none each)))
      ]
    ]
  ]

  -- and where one is
  acks_some : Progress old → (n : ℕ) (k : Kept) → kept_at new n ≡ Some k → (new.poll_retransmit_runs ≡ true) ⊎ UnsentWaits new ⊎ ((new.poll_owed ≡ true) × PendingWaits new) ⊎ EachBelowPending new
  acks_some progress = elim (cases_Bool x.mid.poll_owed) [
    | inl owes ↦ lowest_some x.mid x.lowest_marks new mid_whole owes (x.lowest.0 owes)
    | inr free ↦ subst (λ (t : Tx). (n : ℕ) (k : Kept) → kept_at t n ≡ Some k → (t.poll_retransmit_runs ≡ true) ⊎ UnsentWaits t ⊎ ((t.poll_owed ≡ true) × PendingWaits t) ⊎ EachBelowPending t) (sym (x.lowest.1 free).1) (mid_some progress free)
  ]

  -- what was sent above POLL_SN is followed by unsent bytes
  acks_polled : Progress old → (n : ℕ) → IsSent new n → IsAbovePoll new n → UnsentWaits new
  acks_polled progress n sent above = elim (cases_Bool x.mid.poll_owed) [
    | inl owes ↦
        let w = x.lowest.0 owes in
        let sent_mid : IsSent x.mid n = sent_kept x.mid new (lowest_keeps x.mid x.lowest_marks new w) (λ n k was is. absurd (lowest_confirms_none x.mid x.lowest_marks new w n k was is)) n sent in
        lowest_unsent x.mid x.lowest_marks new w (mid_polled sent_mid (λ h e. above h (lowest_poll_sn x.mid x.lowest_marks new w ∙ e)))
    | inr free ↦ subst UnsentWaits (sym (x.lowest.1 free).1) (mid_polled (subst (λ (t : Tx). IsSent t n) (x.lowest.1 free).1 sent) (λ h e. above h (ap (λ (t : Tx). t.poll_sn) (x.lowest.1 free).1 ∙ e)))
  ]
    where
      mid_polled : IsSent x.mid n → IsAbovePoll x.mid n → UnsentWaits x.mid
      mid_polled sent above = mid_unsent (progress.polled n (sent_kept old x.mid mid_keeps confirmed_some n sent) (λ h e. above h (x.updates.poll_sn ∙ e)))

  -- hearing a STATUS leaves a transmitter that can go on
  pub acks_progress : Progress old → Progress new
  acks_progress progress = record { some = acks_some progress; polled = acks_polled progress }

-- so does a call that changes nothing
same_both : (old new : Tx) → HoldsSdus old → Progress old → new ≡ old → HoldsSdus new × Progress new
same_both old new whole progress is = (subst HoldsSdus (sym is) whole, subst Progress (sym is) progress)

pub each_call : EachCallProgresses
each_call old new whole progress (gives tag sdu number some g) = (gives_whole old new tag sdu number some whole g, gives_progress old new tag sdu number some g)
each_call old new whole progress (grants n (Sent m bytes) s) = (sends_whole old new n m s.0 s.2 whole, sends_progress old new n m s.0 s.2 progress)
each_call old new whole progress (grants n Idle s) = same_both old new whole progress s.2
each_call old new whole progress (grants n (Small need) s) = same_both old new whole progress s.7
each_call old new whole progress (hears_status s (Acked tags marks) fits x) = (keeps_whole old new (acks_keeps old new s tags marks x) whole, acks_progress old new s fits whole tags marks x progress)
each_call old new whole progress (hears_status s (Old a next) fits x) = same_both old new whole progress x.4
each_call old new whole progress (hears_status s (Beyond sn sent) fits x) = same_both old new whole progress x.3
each_call old new whole progress (expires_poll marks x) = (keeps_whole old new (expires_keeps old marks new x) whole, expires_progress old marks new whole progress x)
