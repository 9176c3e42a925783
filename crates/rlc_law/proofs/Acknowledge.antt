-- A STATUS is heard, and the poll timer runs out.
use Rattle.std.proofs.Common.{◌≡◌, inl, inr, ℕ, ◌+◌, ◌≤◌, List, length, Option, Some, None, refl, sym, ◌∙◌, ap, subst, arith}
use Rattle.std.proofs.lemmas.Bool.{cases_eq, cases_Bool}
use Rattle.std.proofs.lemmas.Option.{none-some, same_Some}
use Rattle.link_base.specs.declared.names.SnSize.{SnSize}
use Rattle.link_base.specs.SequenceNumbers.{window}
use Rattle.rlc_status.specs.declared.status.Status.{Status}
use Rattle.rlc_status.specs.Says.{SaysReceived}
use Rattle.rlc_model.specs.Tx.{Tx, Kept, kept_at, tx_next, tx_next_ack}
use Rattle.rlc_model.specs.Retransmission.{RetransmitsLowest, stays, retransmits, UpdatesSdu, confirmed, missing, rest, Updates, Acknowledges, ExpiresPoll}
use Rattle.rlc_model.specs.Rx.{Rx, Done, got}
use Rattle.rlc_law.proofs.Invariant.{TxFits, Confirms}
use Rattle.link_base.specs.declared.rlc_words.Tag.{Tag}

-- a change after which each SDU kept is one kept before, with as many bytes sent
pub record Keeps (old new : Tx) : Type 0 where
  pub size : new.size ≡ old.size
  pub long : length new.kept ≡ length old.kept
  pub from : (n : ℕ) (k' : Kept) → kept_at new n ≡ Some k' → (k : Kept) × (kept_at old n ≡ Some k) × (k'.sdu ≡ k.sdu) × (length k'.flags ≡ length k.flags)

-- such a change keeps what is known of the transmitter
pub keeps_tx : (old new : Tx) (given : List (List ℕ)) → Keeps old new → TxFits old given → TxFits new given
keeps_tx old new given keeps fits = record {
  long = fits.long ∙ sym keeps.long;
  sdu = λ n k' is. let was = keeps.from n k' is in was.2 ∙ fits.sdu n was.0 was.1;
  sent = λ n k' is. let was = keeps.from n k' is in omega (arith, fits.sent n was.0 was.1, was.3, ap (λ (l : List ℕ). length l) was.2);
  within = λ n k' is. let was = keeps.from n k' is in subst (λ (z : SnSize). tx_next new ≤ n + window z) (sym keeps.size) (omega (arith, keeps.long, fits.within n was.0 was.1));
}

-- two such changes are one
pub keeps_more : (a b c : Tx) → Keeps a b → Keeps b c → Keeps a c
keeps_more a b c p q = record {
  size = q.size ∙ p.size;
  long = q.long ∙ p.long;
  from = λ n k' is. let x = q.from n k' is in let y = p.from n x.0 x.1 in (y.0, y.1, x.2 ∙ y.2, x.3 ∙ y.3);
}

-- what is confirmed after the change was so before, or is complete
abbrev pub ConfirmsOnly : Tx → Tx → Rx → Type 0
ConfirmsOnly old new r = (n : ℕ) (k : Kept) → kept_at old n ≡ Some k → kept_at new n ≡ None → got r n ≡ Done

-- where only complete numbers are confirmed, what is confirmed stays complete
pub only_confirms : (old new : Tx) (r : Rx) → length new.kept ≡ length old.kept → ConfirmsOnly old new r → Confirms old r → Confirms new r
only_confirms old new r long only confirms n lt is = go (kept_at old n) refl
  where
    go : (o : Option Kept) → kept_at old n ≡ o → got r n ≡ Done
    go None e = confirms n (omega (arith, long)) e
    go (Some k) e = only n k e is

module _ (old : Tx) (marks : List ℕ) (new : Tx) where
  -- the rule on the lowest unconfirmed number keeps the SDUs
  pub lowest_keeps : RetransmitsLowest old marks new → Keeps old new
  lowest_keeps (stays none no_marks same) = subst (Keeps old) (sym same) (record { size = refl; long = refl; from = λ n k is. (k, is, refl, refl) })
  lowest_keeps (retransmits low) = record {
    size = ap (λ (t : Tx). t.size) low.same;
    long = low.long;
    from = λ n j e. elim (cases_eq n (tx_next_ack old)) [
      | inl here ↦ let j_is : low.behind ≡ j = same_Some low.behind j (sym low.is ∙ ap (kept_at new) (sym here) ∙ e) in
          (low.before, ap (kept_at old) here ∙ low.was, ap (λ (k : Kept). k.sdu) (sym j_is) ∙ low.becomes.sdu, ap (λ (k : Kept). length k.flags) (sym j_is) ∙ low.becomes.long)
      | inr ne ↦ (j, sym (low.others n ne) ∙ e, refl, refl)
    ];
  }

  -- and confirms none
  pub lowest_only : (r : Rx) → RetransmitsLowest old marks new → ConfirmsOnly old new r
  lowest_only r (stays none no_marks same) n k was is = absurd (none-some k (sym is ∙ ap (λ (t : Tx). kept_at t n) same ∙ was))
  lowest_only r (retransmits low) n k was is = elim (cases_eq n (tx_next_ack old)) [
    | inl here ↦ absurd (none-some low.behind (sym is ∙ ap (kept_at new) here ∙ low.is))
    | inr ne ↦ absurd (none-some k (sym is ∙ low.others n ne ∙ was))
  ]

module _ (old : Tx) (a : ℕ) (s : Status) (marks : List ℕ) (new : Tx) (updates : Updates old a s marks new) where
  -- what a STATUS does to all numbers keeps the SDUs
  pub updates_keeps : Keeps old new
  updates_keeps = record {
    size = updates.same.size;
    long = updates.long;
    from = λ n k' is. go n k' is (updates.each n);
  }
    where
      go : (n : ℕ) (k' : Kept) → kept_at new n ≡ Some k' → UpdatesSdu old a s n marks (kept_at new n) → (k : Kept) × (kept_at old n ≡ Some k) × (k'.sdu ≡ k.sdu) × (length k'.flags ≡ length k.flags)
      go n k' is (confirmed k was says none) = absurd (none-some k' (sym none ∙ is))
      go n k' is (missing k j was below names e pends) = let same : j ≡ k' = same_Some j k' (sym e ∙ is) in
          (k, was, ap (λ (k : Kept). k.sdu) (sym same) ∙ pends.sdu, ap (λ (k : Kept). length k.flags) (sym same) ∙ pends.long)
      go n k' is (rest why e) = (k', sym e ∙ is, refl, refl)

  -- and confirms only what it says received
  pub updates_only : (r : Rx) → ((n : ℕ) → SaysReceived old.size a s n → got r n ≡ Done) → ConfirmsOnly old new r
  updates_only r received n k was is = go (updates.each n)
    where
      go : UpdatesSdu old a s n marks (kept_at new n) → got r n ≡ Done
      go (confirmed k was says none) = received n says
      go (missing k j was below names e pends) = absurd (none-some j (sym is ∙ e))
      go (rest why e) = absurd (none-some k (sym is ∙ e ∙ was))

module _ (old new : Tx) (s : Status) (tags : List Tag) (marks : List ℕ) (acks : Acknowledges old s tags marks new) where
  -- the last rule of hearing a STATUS keeps the SDUs
  last_keeps : Keeps acks.mid new
  last_keeps = elim (cases_Bool acks.mid.poll_owed) [
    | inl owed ↦ lowest_keeps acks.mid acks.lowest_marks new (acks.lowest.0 owed)
    | inr free ↦ subst (Keeps acks.mid) (sym (acks.lowest.1 free).1) (record { size = refl; long = refl; from = λ n k is. (k, is, refl, refl) })
  ]

  -- hearing a STATUS keeps the SDUs
  pub acks_keeps : Keeps old new
  acks_keeps = keeps_more old acks.mid new (updates_keeps old acks.a s acks.missing_marks acks.mid acks.updates) last_keeps

  -- the last rule of hearing a STATUS confirms none
  last_only : (r : Rx) → ConfirmsOnly acks.mid new r
  last_only r n k was is = elim (cases_Bool acks.mid.poll_owed) [
    | inl owed ↦ lowest_only acks.mid acks.lowest_marks new r (acks.lowest.0 owed) n k was is
    | inr free ↦ absurd (none-some k (sym is ∙ ap (λ (t : Tx). kept_at t n) (acks.lowest.1 free).1 ∙ was))
  ]

  -- hearing a STATUS that speaks truly leaves only complete numbers confirmed
  pub acks_confirms : (r : Rx) → ((n : ℕ) → SaysReceived old.size acks.a s n → got r n ≡ Done) → Confirms old r → Confirms new r
  acks_confirms r received confirms =
      only_confirms acks.mid new r last_keeps.long (last_only r)
      (only_confirms old acks.mid r acks.updates.long (updates_only old acks.a s acks.missing_marks acks.mid acks.updates r received) confirms)

module _ (old : Tx) (marks : List ℕ) (new : Tx) (expires : ExpiresPoll old marks new) where
  -- the expiry of t-PollRetransmit keeps the SDUs
  pub expires_keeps : Keeps old new
  expires_keeps = keeps_more old expires.mid new
      (subst (Keeps old) (sym expires.stopped) (record { size = refl; long = refl; from = λ n k is. (k, is, refl, refl) }))
      (lowest_keeps expires.mid marks new expires.lowest)

  -- and confirms none
  pub expires_confirms : (r : Rx) → Confirms old r → Confirms new r
  expires_confirms r confirms = only_confirms expires.mid new r (lowest_keeps expires.mid marks new expires.lowest).long
      (lowest_only expires.mid marks new r expires.lowest)
      (subst (λ (t : Tx). Confirms t r) (sym expires.stopped) confirms)
