-- Hearing a STATUS and the expiry of t-PollRetransmit have at most one outcome.
use Rattle.std.proofs.Common.{◌≡◌, ◌⊎◌, inl, inr, ℕ, ◌+◌, ◌<◌, min, Bool, false, List, [], ◌∷◌, ◌++◌, length, get_or, Option, Some, None, sym, ◌∙◌, ap, subst, arith}
use Rattle.std.specs.List.{Contains}
use Rattle.std.proofs.lemmas.Bool.{cases_Bool, cases_eq, false≢true}
use Rattle.std.proofs.lemmas.List.{ext_get_or}
use Rattle.std.proofs.lemmas.Option.{none-some, same_Some}
use Rattle.link_base.specs.declared.rlc_words.Tag.{Tag}
use Rattle.rlc_status.specs.declared.status.Status.{Status}
use Rattle.rlc_model.specs.declared.transmitter.StatusHeard.TheVariants.{Acked, Old, Beyond}
use Rattle.rlc_status.specs.Says.{Names, SaysMissing}
use Rattle.rlc_model.specs.Tx.{Tx, Kept, kept_at, tx_next, tx_next_ack, PendingWaits, UnsentWaits}
use Rattle.rlc_model.specs.Retransmission.{Counts, first, again, stays as count_stays, BecomesPending, LowestPends, RetransmitsLowest, stays, retransmits, UpdatesSdu, confirmed, missing, rest, Updates, confirmed_tags, Acknowledges}
use Rattle.rlc_law.specs.OneOutcome.{OneStatusHearing, OnePollExpiry}
use Rattle.rlc_law.proofs.Base.{near_one, kept_below}
use Rattle.rlc_law.proofs.Unique.{bool_iff, rising_one}
use Rattle.rlc_law.proofs.OneTransmitter.{same_tx, count_one}

-- SDUs with the same fields are the same
same_kept : (j k : Kept) → j.tag ≡ k.tag → j.sdu ≡ k.sdu → j.flags ≡ k.flags → j.retx_count ≡ k.retx_count → j ≡ k
same_kept j k tag sdu flags count =
    ap (λ (t : Tag). record j { tag = t }) tag
    ∙ ap (λ (l : List ℕ). record j { tag = k.tag; sdu = l }) sdu
    ∙ ap (λ (l : List Bool). record k { flags = l; retx_count = j.retx_count }) flags
    ∙ ap (λ (o : Option ℕ). record k { retx_count = o }) count

-- the bytes named become pending, and the count and the mark follow
module _ (threshold : ℕ) (named : ℕ → Type 0) (k j j' : Kept) (M M' : Type 0) (a : BecomesPending threshold named k j M) (b : BecomesPending threshold named k j' M') where
  -- the flags are the same
  flags_one : j.flags ≡ j'.flags
  flags_one = ext_get_or false j.flags j'.flags (a.long ∙ sym b.long) (λ p lt.
      let below : p < length k.flags = omega (arith, lt, a.long) in
      bool_iff (get_or j.flags p false) (get_or j'.flags p false) (λ is. (b.pends p below).1 ((a.pends p below).0 is)) (λ is. (a.pends p below).1 ((b.pends p below).0 is)))

  -- and so at each place
  flag_one : (p : ℕ) → get_or j.flags p false ≡ get_or j'.flags p false
  flag_one p = ap (λ (l : List Bool). get_or l p false) flags_one

  -- the count is the same, and the mark
  counts_one : Counts threshold k j M → Counts threshold k j' M' → (j.retx_count ≡ j'.retx_count) × (M → M') × (M' → M)
  counts_one (first was is mark) (first was' is' mark') = (is ∙ sym is', λ m. mark'.1 (mark.0 m), λ m. mark.1 (mark'.0 m))
  counts_one (first was is mark) (again c p was' before after is' mark') = absurd (none-some c (sym was ∙ was'))
  counts_one (first was is mark) (count_stays c was' none is' mark') = absurd (none-some c (sym was ∙ was'))
  counts_one (again c p was before after is mark) (first was' is' mark') = absurd (none-some c (sym was' ∙ was))
  counts_one (again c p was before after is mark) (again d q was' before' after' is' mark') =
      let same : c ≡ d = same_Some c d (sym was ∙ was') in
      (is ∙ ap (λ (n : ℕ). Some (min (n + 1) (threshold + 1))) same ∙ sym is', λ m. mark'.1 (mark.0 m ∙ ap (λ (n : ℕ). n + 1) same), λ m. mark.1 (mark'.0 m ∙ ap (λ (n : ℕ). n + 1) (sym same)))
  counts_one (again c p was before after is mark) (count_stays d was' none is' mark') = absurd (false≢true (sym before ∙ none p (sym (flag_one p) ∙ after)))
  counts_one (count_stays c was none is mark) (first was' is' mark') = absurd (none-some c (sym was' ∙ was))
  counts_one (count_stays c was none is mark) (again d q was' before' after' is' mark') = absurd (false≢true (sym before' ∙ none q (flag_one q ∙ after')))
  counts_one (count_stays c was none is mark) (count_stays d was' none' is' mark') = (is ∙ ap (λ (n : ℕ). Some n) (same_Some c d (sym was ∙ was')) ∙ sym is', λ m. absurd (mark m), λ m. absurd (mark' m))

  -- so the SDU is the same
  becomes_one : j ≡ j'
  becomes_one = same_kept j j' (a.tag ∙ sym b.tag) (a.sdu ∙ sym b.sdu) flags_one (counts_one a.counts b.counts).0

  -- a mark of one outcome is one of the other
  mark_too : M → M'
  mark_too = (counts_one a.counts b.counts).1

  -- and the other way
  mark_back : M' → M
  mark_back = (counts_one a.counts b.counts).2

-- the rule on the lowest unconfirmed number does nothing, or makes it pending
needless : (old : Tx) (marks : List ℕ) (new : Tx) → PendingWaits old ⊎ UnsentWaits old ⊎ (tx_next_ack old ≡ tx_next old) → LowestPends old marks new → ⊥
needless old marks new (inl w) low = low.none_pending w
needless old marks new (inr (inl w)) low = low.none_unsent w
needless old marks new (inr (inr e)) low = omega (arith, e, kept_below old (tx_next_ack old) low.before low.was)

module _ (old : Tx) (marks marks' : List ℕ) (r s : Tx) where
  -- the rule on the lowest unconfirmed number has one outcome
  lowest_one : RetransmitsLowest old marks r → RetransmitsLowest old marks' s → (marks ≡ marks') × (r ≡ s)
  lowest_one (stays why none is) (stays why' none' is') = (none ∙ sym none', is ∙ sym is')
  lowest_one (stays why none is) (retransmits low) = absurd (needless old marks' s why low)
  lowest_one (retransmits low) (stays why none is) = absurd (needless old marks r why low)
  lowest_one (retransmits low) (retransmits low') =
      (marks_one low.its_marks low'.its_marks, low.same ∙ ap (λ (l : List (Option Kept)). record old { kept = l }) kept ∙ sym low'.same)
    where
      m : ℕ
      m = tx_next_ack old

      sdu : low'.before ≡ low.before
      sdu = same_Some low'.before low.before (sym low'.was ∙ low.was)

      other : BecomesPending old.max_retx_threshold (λ p. Unit {0}) low.before low'.behind (marks' ≡ tx_next_ack old ∷ [])
      other = subst (λ (k : Kept). BecomesPending old.max_retx_threshold (λ p. Unit {0}) k low'.behind (marks' ≡ tx_next_ack old ∷ [])) sdu low'.becomes

      marks_one : (marks ≡ []) ⊎ (marks ≡ tx_next_ack old ∷ []) → (marks' ≡ []) ⊎ (marks' ≡ tx_next_ack old ∷ []) → marks ≡ marks'
      marks_one (inl e) (inl f) = e ∙ sym f
      marks_one (inl e) (inr f) = mark_back old.max_retx_threshold (λ p. Unit {0}) low.before low.behind low'.behind (marks ≡ tx_next_ack old ∷ []) (marks' ≡ tx_next_ack old ∷ []) low.becomes other f ∙ sym f
      marks_one (inr e) f = e ∙ sym (mark_too old.max_retx_threshold (λ p. Unit {0}) low.before low.behind low'.behind (marks ≡ tx_next_ack old ∷ []) (marks' ≡ tx_next_ack old ∷ []) low.becomes other e)

      kept : r.kept ≡ s.kept
      kept = ext_get_or None r.kept s.kept (low.long ∙ sym low'.long) (λ n lt. elim (cases_eq n (tx_next_ack old)) [
        | inl e ↦ ap (kept_at r) e ∙ low.is ∙ ap (λ (k : Kept). Some k) (becomes_one old.max_retx_threshold (λ p. Unit {0}) low.before low.behind low'.behind (marks ≡ tx_next_ack old ∷ []) (marks' ≡ tx_next_ack old ∷ []) low.becomes other) ∙ sym low'.is ∙ ap (kept_at s) (sym e)
        | inr ne ↦ low.others n ne ∙ sym (low'.others n ne)
      ])

module _ (old : Tx) (a : ℕ) (status : Status) (n : ℕ) (marks marks' : List ℕ) where
  -- a number has one outcome
  sdu_one : (o o' : Option Kept) → UpdatesSdu old a status n marks o → UpdatesSdu old a status n marks' o' → o ≡ o'
  sdu_one o o' (confirmed k was says e) (confirmed k' was' says' e') = e ∙ sym e'
  sdu_one o o' (confirmed k was says e) (missing k' j was' below names e' becomes) = absurd (says.1 names)
  sdu_one o o' (confirmed k was says e) (rest (inl past) e') = absurd (omega (arith, says.0, past))
  sdu_one o o' (confirmed k was says e) (rest (inr gone) e') = absurd (none-some k (sym gone ∙ was))
  sdu_one o o' (missing k j was below names e becomes) (confirmed k' was' says e') = absurd (says.1 names)
  sdu_one o o' (missing k j was below names e becomes) (missing k' j' was' below' names' e' becomes') =
      e ∙ ap (λ (k : Kept). Some k) (becomes_one old.max_retx_threshold (SaysMissing old.size a status n) k j j' (Contains marks n) (Contains marks' n) becomes
      (subst (λ (k : Kept). BecomesPending old.max_retx_threshold (SaysMissing old.size a status n) k j' (Contains marks' n)) (same_Some k' k (sym was' ∙ was)) becomes')) ∙ sym e'
  sdu_one o o' (missing k j was below names e becomes) (rest (inl past) e') = absurd (omega (arith, below, past))
  sdu_one o o' (missing k j was below names e becomes) (rest (inr gone) e') = absurd (none-some k (sym gone ∙ was))
  sdu_one o o' (rest (inl past) e) (confirmed k was says e') = absurd (omega (arith, says.0, past))
  sdu_one o o' (rest (inr gone) e) (confirmed k was says e') = absurd (none-some k (sym gone ∙ was))
  sdu_one o o' (rest (inl past) e) (missing k j was below names e' becomes) = absurd (omega (arith, below, past))
  sdu_one o o' (rest (inr gone) e) (missing k j was below names e' becomes) = absurd (none-some k (sym gone ∙ was))
  sdu_one o o' (rest why e) (rest why' e') = e ∙ sym e'

  -- a mark of a number that is named
  mark_one : (o o' : Option Kept) → UpdatesSdu old a status n marks o → UpdatesSdu old a status n marks' o' → (k : Kept) → kept_at old n ≡ Some k → n < a → Names old.size a status n → Contains marks n → Contains marks' n
  mark_one o o' (confirmed j was says e) v k is below names c = absurd (says.1 names)
  mark_one o o' (rest (inl past) e) v k is below names c = absurd (omega (arith, below, past))
  mark_one o o' (rest (inr gone) e) v k is below names c = absurd (none-some k (sym gone ∙ is))
  mark_one o o' (missing i j was lt names_i e becomes) (confirmed j' was' says e') k is below names c = absurd (says.1 names)
  mark_one o o' (missing i j was lt names_i e becomes) (rest (inl past) e') k is below names c = absurd (omega (arith, below, past))
  mark_one o o' (missing i j was lt names_i e becomes) (rest (inr gone) e') k is below names c = absurd (none-some k (sym gone ∙ is))
  mark_one o o' (missing i j was lt names_i e becomes) (missing i' j' was' lt' names' e' becomes') k is below names c =
      mark_too old.max_retx_threshold (SaysMissing old.size a status n) i j j' (Contains marks n) (Contains marks' n) becomes
      (subst (λ (k : Kept). BecomesPending old.max_retx_threshold (SaysMissing old.size a status n) k j' (Contains marks' n)) (same_Some i' i (sym was' ∙ was)) becomes') c

module _ (old : Tx) (a : ℕ) (status : Status) (marks marks' : List ℕ) (r s : Tx) (u : Updates old a status marks r) (w : Updates old a status marks' s) where
  -- the marks are the same
  marks_one : marks ≡ marks'
  marks_one = rising_one marks marks' u.marks_rise w.marks_rise
      (λ n c. let of = u.marks_only n c in mark_one old a status n marks marks' (kept_at r n) (kept_at s n) (u.each n) (w.each n) of.0 of.1 of.2 of.3 c)
      (λ n c. let of = w.marks_only n c in mark_one old a status n marks' marks (kept_at s n) (kept_at r n) (w.each n) (u.each n) of.0 of.1 of.2 of.3 c)

  -- the timer is
  runs_one : r.poll_retransmit_runs ≡ s.poll_retransmit_runs
  runs_one = elim u.timer [
    | inl f ↦ elim w.timer [
      | inl g ↦ f.3 ∙ sym g.3
      | inr g ↦ absurd (omega (arith, f.2, g.0 f.0 f.1))
    ]
    | inr f ↦ elim w.timer [
      | inl g ↦ absurd (omega (arith, g.2, f.0 g.0 g.1))
      | inr g ↦ f.1 ∙ sym g.1
    ]
  ]

  -- and so the transmitter
  updates_one : r ≡ s
  updates_one = same_tx r s (u.same.size ∙ sym w.same.size) (u.same.poll_pdu ∙ sym w.same.poll_pdu) (u.same.poll_byte ∙ sym w.same.poll_byte) (u.same.max_retx_threshold ∙ sym w.same.max_retx_threshold)
      (ext_get_or None r.kept s.kept (u.long ∙ sym w.long) (λ n lt. sdu_one old a status n marks marks' (kept_at r n) (kept_at s n) (u.each n) (w.each n)))
      (u.pdu_without_poll ∙ sym w.pdu_without_poll) (u.byte_without_poll ∙ sym w.byte_without_poll) (u.poll_sn ∙ sym w.poll_sn) (u.poll_owed ∙ sym w.poll_owed) runs_one

module _ (old : Tx) (status : Status) (tags tags' : List Tag) (marks marks' : List ℕ) (r s : Tx) (f : Acknowledges old status tags marks r) (g : Acknowledges old status tags' marks' s) where
  -- the ACK stands for one number
  same_a : g.a ≡ f.a
  same_a = near_one old.size status.ack (tx_next_ack old + 1) g.a f.a g.ack f.ack

  -- so the other outcome speaks of it too
  other : Updates old f.a status g.missing_marks g.mid
  other = subst (λ (a : ℕ). Updates old a status g.missing_marks g.mid) same_a g.updates

  -- before the last rule both are the same
  mids : f.mid ≡ g.mid
  mids = updates_one old f.a status f.missing_marks g.missing_marks f.mid g.mid f.updates other

  -- and behind it
  last_one : (f.lowest_marks ≡ g.lowest_marks) × (r ≡ s)
  last_one = elim (cases_Bool (f.mid).poll_owed) [
    | inl owes ↦ lowest_one f.mid f.lowest_marks g.lowest_marks r s (f.lowest.0 owes)
        (subst (λ (t : Tx). RetransmitsLowest t g.lowest_marks s) (sym mids) (g.lowest.0 (sym (ap (λ (t : Tx). t.poll_owed) mids) ∙ owes)))
    | inr free ↦
        let e = f.lowest.1 free in
        let e' = g.lowest.1 (sym (ap (λ (t : Tx). t.poll_owed) mids) ∙ free) in
        (e.0 ∙ sym e'.0, e.1 ∙ mids ∙ sym e'.1)
  ]

  -- with the same tags and marks
  acknowledges_one : (tags ≡ tags') × (marks ≡ marks') × (r ≡ s)
  acknowledges_one = (
    f.its_tags ∙ ap (λ (t : Tx). confirmed_tags old.kept t.kept) last_one.1 ∙ sym g.its_tags,
    f.its_marks ∙ ap (λ (l : List ℕ). l ++ f.lowest_marks) (marks_one old f.a status f.missing_marks g.missing_marks f.mid g.mid f.updates other) ∙ ap (λ (l : List ℕ). g.missing_marks ++ l) last_one.0 ∙ sym g.its_marks,
    last_one.1,
  )

pub one_status_hearing : OneStatusHearing
one_status_hearing old status (Acked tags marks) (Acked tags' marks') r s f g =
    let same = acknowledges_one old status tags tags' marks marks' r s f g in
    (ap (λ (l : List Tag). Acked l marks) same.0 ∙ ap (λ (l : List ℕ). Acked tags' l) same.1, same.2)
one_status_hearing old status (Acked tags marks) (Old b next) r s f g =
    absurd (omega (arith, f.current, g.2, g.3, near_one old.size status.ack (tx_next_ack old + 1) b f.a g.1 f.ack))
one_status_hearing old status (Acked tags marks) (Beyond ack sent) r s f g = absurd (f.fine g.0)
one_status_hearing old status (Old a next) (Acked tags marks) r s f g =
    absurd (omega (arith, g.current, f.2, f.3, near_one old.size status.ack (tx_next_ack old + 1) a g.a f.1 g.ack))
one_status_hearing old status (Old a next) (Old b next') r s f g =
    (ap (λ (n : ℕ). Old n next) (near_one old.size status.ack (tx_next_ack old + 1) a b f.1 g.1) ∙ ap (λ (n : ℕ). Old b n) (f.2 ∙ sym g.2), f.4 ∙ sym g.4)
one_status_hearing old status (Old a next) (Beyond ack sent) r s f g = absurd (f.0 g.0)
one_status_hearing old status (Beyond ack sent) (Acked tags marks) r s f g = absurd (g.fine f.0)
one_status_hearing old status (Beyond ack sent) (Old b next) r s f g = absurd (g.0 f.0)
one_status_hearing old status (Beyond ack sent) (Beyond ack' sent') r s f g =
    (ap (λ (n : ℕ). Beyond n sent) (f.1 ∙ sym g.1) ∙ ap (λ (n : ℕ). Beyond ack' n) (count_one old sent sent' f.2 g.2), f.3 ∙ sym g.3)

pub one_poll_expiry : OnePollExpiry
one_poll_expiry old marks marks' r s f g = lowest_one f.mid marks marks' r s f.lowest (subst (λ (t : Tx). RetransmitsLowest t marks' s) (g.stopped ∙ sym f.stopped) g.lowest)
