-- An SDU that is considered for retransmission.
use Rattle.std.proofs.Common.{◌≡◌, ◌≢◌, ◌⊎◌, ◌↔◌, inl, inr, ℕ, ◌-◌, ◌<◌, true, false, Bool, List, [], ◌∷◌, length, get_or, set, cond, is_some, Option, Some, None, refl, sym, ◌∙◌, ap, subst, arith}
use Rattle.std.specs.Bool.{then_some}
use Rattle.std.specs.Option.{is_none, option_to_list}
use Rattle.std.specs.List.{prefix_len}
use Rattle.std.proofs.lemmas.Bool.{cases_eq, false≢true}
use Rattle.std.proofs.lemmas.Bool.Decides.{nat_tests}
use Rattle.std.proofs.lemmas.List.{get_or_default, length-set}
use Rattle.std.proofs.lemmas.List.Folds.{prefix_len-set}
use Rattle.std.proofs.lemmas.List.Sums.{sum_by-set}
use Rattle.std.proofs.lemmas.Option.{none-some}
use Rattle.rlc_model.specs.Tx.{Tx, Kept, at, tx_next_ack, is_unsent, is_pending, SomePending, SomeUnsent}
use Rattle.rlc_model.specs.Retransmission.{Counts, first, again, stays, BecomesPending, LowestPends, RetransmitsLowest}
use Rattle.rlc_am_tx.specs.Buffer.{kept_from, NonePending, NoneUnsent, sent_of}
use Rattle.rlc_am_tx.specs.Inside.{IsTidy}
use Rattle.rlc_am_tx.specs.Retransmitting.{RetransmitsKept, RetransmitsLowestOf}
use Rattle.rlc_am_tx.proofs.Marked.{IsSetAt, kept_set, set_each, has_kept, order_same, same_lengths}
use Rattle.rlc_am_tx.proofs.Numbers.{given, kept_front, kept_item, kept_long, same_front}
use Rattle.rlc_am_tx.proofs.Nexts.{no_pending, no_unsent}
use Rattle.rlc_am_tx.proofs.Flagged.{set_within}

-- an SDU of which as many bytes were sent as before
module _ (base : ℕ) (kept_sdus : List (Option Kept)) (count u : ℕ) (Waits : ℕ → Type 0) (n : ℕ) (k k' : Kept) (t : IsTidy base kept_sdus count u Waits) (is : at (kept_from base kept_sdus) n ≡ Some k) (sdu : k'.sdu ≡ k.sdu) (sent : length k'.flags ≡ length k.flags) where
  abbrev kept_sdus' : List (Option Kept)
  kept_sdus' = set kept_sdus (n - base) (Some k')

  pub changed_set : IsSetAt (kept_from base kept_sdus) n (Some k') (kept_from base kept_sdus')
  changed_set = let h = has_kept base kept_sdus n k is in kept_set base kept_sdus n (Some k') h.0 h.1

  pub changed_tidy : ((p : ℕ) → get_or k'.flags p false ≡ true → (n ≡ base) ⊎ Waits n) → ((p : ℕ) → get_or k.flags p false ≡ true → get_or k'.flags p false ≡ true) → IsTidy base kept_sdus' count u Waits
  changed_tidy waits keeps =
      let h = has_kept base kept_sdus n k is in
      let counted = sum_by-set (λ (o : Option Kept). cond (is_some o) 1 0) kept_sdus (n - base) (Some k') None h.1 in
      let unsent_same : is_unsent (Some k') ≡ is_unsent (at (kept_from base kept_sdus) n) = same_lengths k k' sdu sent ∙ sym (ap is_unsent is) in
      record {
        small = omega (arith, t.small, length-set kept_sdus (n - base) (Some k'));
        front = prefix_len-set is_none kept_sdus (n - base) (Some k') None (sym (ap is_none h.2)) ∙ t.front;
        count = omega (arith, t.count, counted, ap {B = ℕ} (λ (o : Option Kept). cond (is_some o) 1 0) h.2);
        acked = t.acked;
        order = order_same (kept_from base kept_sdus) n u k k' (kept_from base kept_sdus') t.order is changed_set
            (record { sdu = sdu; within = omega (arith, sent, (t.order.sdus n k is).sent); order = inl sent })
            (λ e. unsent_same ∙ t.order.from n (omega (arith, e)) (given (kept_from base kept_sdus) n k is));
        waiting = record {
          each = set_each (kept_from base kept_sdus) n (Some k') (kept_from base kept_sdus') (λ m o. (p : ℕ) → is_pending o p ≡ true → (m ≡ base) ⊎ Waits m) changed_set waits (λ m ne. t.waiting.each m);
          only = set_each (kept_from base kept_sdus) n (Some k') (kept_from base kept_sdus') (λ m o. Waits m → (p : ℕ) × (is_pending o p ≡ true)) changed_set
              (λ w. let h = t.waiting.only n w in (h.0, keeps h.0 (ap (λ (o : Option Kept). is_pending o h.0) (sym is) ∙ h.1)))
              (λ m ne w. t.waiting.only m w);
        };
      }

-- nothing changes
pub lowest_stays : (threshold : ℕ) (old new : List (Option Kept)) → SomePending old ⊎ SomeUnsent old ⊎ (prefix_len is_none old ≡ length old) → new ≡ old → RetransmitsLowestOf threshold old None new
lowest_stays threshold old new why same t e s =
    RetransmitsLowest.stays (subst (λ (l : List (Option Kept)). SomePending l ⊎ SomeUnsent l ⊎ (prefix_len is_none l ≡ length l)) (sym e) why) refl (ap (λ (l : List (Option Kept)). record t { kept = l }) (same ∙ sym e))

mark_list : (n : ℕ) (mark : Bool) → (option_to_list (then_some mark n) ≡ n ∷ []) ↔ (mark ≡ true)
mark_list n true = (λ e. refl, λ e. refl)
mark_list n false = (λ e. cc, λ e. absurd (false≢true e))

mark_cases : (n : ℕ) (mark : Bool) → (option_to_list (then_some mark n) ≡ []) ⊎ (option_to_list (then_some mark n) ≡ n ∷ [])
mark_cases n true = inr refl
mark_cases n false = inl refl

change_mark : (threshold : ℕ) (old new : Kept) (P Q : Type 0) → (Q ↔ P) → Counts threshold old new P → Counts threshold old new Q
change_mark threshold old new P Q w (first was is m) = first was is (λ q. m.0 (w.0 q), λ e. w.1 (m.1 e))
change_mark threshold old new P Q w (again c p was off on is m) = again c p was off on is (λ q. m.0 (w.0 q), λ e. w.1 (m.1 e))
change_mark threshold old new P Q w (stays c was all is m) = stays c was all is (λ q. m (w.0 q))

-- all bytes of the lowest SDU become pending
lowest_pends : (t : Tx) (n : ℕ) (mark : Bool) (new : List (Option Kept)) → tx_next_ack t ≡ n → NonePending t.kept → NoneUnsent t.kept → (r : RetransmitsKept t.max_retx_threshold (at t.kept n) mark (at new n)) → ((m : ℕ) → m ≢ n → at new m ≡ at t.kept m) → length new ≡ length t.kept → LowestPends t (option_to_list (then_some mark n)) (record t { kept = new })
lowest_pends t n mark new is pending unsent r others long =
    let marks = option_to_list (then_some mark n) in
    let b = r.becomes in
    let here : BecomesPending t.max_retx_threshold (λ p. Unit {0}) r.before r.behind (marks ≡ n ∷ []) = record { tag = b.tag; sdu = b.sdu; long = b.long; pends = b.pends; counts = change_mark t.max_retx_threshold r.before r.behind (mark ≡ true) (marks ≡ n ∷ []) (mark_list n mark) b.counts } in
    record {
      none_pending = no_pending t.kept pending;
      none_unsent = no_unsent t.kept unsent;
      before = r.before;
      behind = r.behind;
      was = ap (at t.kept) is ∙ r.was;
      is = ap (at new) is ∙ r.is;
      becomes = subst (λ m. BecomesPending t.max_retx_threshold (λ p. Unit {0}) r.before r.behind (marks ≡ m ∷ [])) (sym is) here;
      its_marks = subst (λ m. (marks ≡ []) ⊎ (marks ≡ m ∷ [])) (sym is) (mark_cases n mark);
      others = λ m ne. others m (λ e. ne (e ∙ sym is));
      long = long;
      same = refl;
    }

pub lowest_retransmits : (threshold : ℕ) (old new : List (Option Kept)) (n : ℕ) (mark : Bool) → prefix_len is_none old ≡ n → NonePending old → NoneUnsent old → RetransmitsKept threshold (at old n) mark (at new n) → ((m : ℕ) → m ≢ n → at new m ≡ at old m) → length new ≡ length old → RetransmitsLowestOf threshold old (then_some mark n) new
lowest_retransmits threshold old new n mark is pending unsent r others long t e s =
    RetransmitsLowest.retransmits (lowest_pends t n mark new (ap (λ (l : List (Option Kept)). prefix_len is_none l) e ∙ is) (subst NonePending (sym e) pending) (subst NoneUnsent (sym e) unsent)
    (subst (λ h. RetransmitsKept h (at t.kept n) mark (at new n)) (sym s) (subst (λ (l : List (Option Kept)). RetransmitsKept threshold (at l n) mark (at new n)) (sym e) r))
    (λ m ne. others m ne ∙ ap (λ (l : List (Option Kept)). at l m) (sym e)) (long ∙ ap length (sym e)))

-- the numbers stay
pub lowest_front : (t : Tx) (marks : List ℕ) (new : Tx) → RetransmitsLowest t marks new → (length new.kept ≡ length t.kept) × (prefix_len is_none new.kept ≡ prefix_len is_none t.kept)
lowest_front t marks new (RetransmitsLowest.stays why none same) = (ap (λ (x : Tx). length x.kept) same, ap (λ (x : Tx). prefix_len is_none x.kept) same)
lowest_front t marks new (RetransmitsLowest.retransmits r) = (
  r.long,
  same_front new.kept t.kept r.long (λ n. elim (cases_eq n (tx_next_ack t)) [
    | inl eq ↦ ap (λ m. is_none (at new.kept m)) eq ∙ ap is_none r.is ∙ sym (ap is_none r.was) ∙ sym (ap (λ m. is_none (at t.kept m)) eq)
    | inr ne ↦ ap is_none (r.others n ne)
  ]),
)

-- the first SDU, where nothing waits
module _ (base : ℕ) (kept_sdus : List (Option Kept)) (count u : ℕ) (Waits : ℕ → Type 0) (threshold : ℕ) (mark : Bool) (o new : Option Kept) (t : IsTidy base kept_sdus count u Waits) (some : 0 < length kept_sdus) (is : o ≡ get_or kept_sdus 0 o) (r : RetransmitsKept threshold o mark new) where
  here : at kept_sdus 0 ≡ Some r.before
  here = get_or_default kept_sdus 0 None o some ∙ sym is ∙ r.was

  kept : at (kept_from base kept_sdus) base ≡ Some r.before
  kept = kept_item base kept_sdus base (omega arith) ∙ ap (at kept_sdus) (omega arith) ∙ here

  zero_is : set kept_sdus (base - base) (Some r.behind) ≡ set kept_sdus 0 new
  zero_is = ap (λ m. set kept_sdus m (Some r.behind)) (omega arith) ∙ ap (set kept_sdus 0) (sym r.is)

  first_set : IsSetAt (kept_from base kept_sdus) base (Some r.behind) (kept_from base (set kept_sdus 0 new))
  first_set = subst (λ (l : List (Option Kept)). IsSetAt (kept_from base kept_sdus) base (Some r.behind) (kept_from base l)) zero_is (changed_set base kept_sdus count u Waits base r.before r.behind t kept r.becomes.sdu r.becomes.long)

  pub first_tidy : IsTidy base (set kept_sdus 0 new) count u Waits
  first_tidy = subst (λ (l : List (Option Kept)). IsTidy base l count u Waits) zero_is (changed_tidy base kept_sdus count u Waits base r.before r.behind t kept r.becomes.sdu r.becomes.long (λ p e. inl refl) (λ p e. (r.becomes.pends p (set_within r.before.flags p e)).1 (inl e)))

  pub first_retransmits : NonePending (kept_from base kept_sdus) → NoneUnsent (kept_from base kept_sdus) → RetransmitsLowestOf threshold (kept_from base kept_sdus) (then_some mark base) (kept_from base (set kept_sdus 0 new))
  first_retransmits pending unsent =
      let at_base : RetransmitsKept threshold (at (kept_from base kept_sdus) base) mark (at (kept_from base (set kept_sdus 0 new)) base) = record { before = r.before; behind = r.behind; was = kept; is = first_set.this; becomes = r.becomes } in
      lowest_retransmits threshold (kept_from base kept_sdus) (kept_from base (set kept_sdus 0 new)) base mark (kept_front base kept_sdus t.front) pending unsent at_base first_set.others first_set.long

-- the SDU of the first SDU
pub first_kept : (base : ℕ) (kept_sdus : List (Option Kept)) → prefix_len is_none kept_sdus ≡ 0 → 0 < length kept_sdus → at kept_sdus 0 ≢ None
first_kept base [] front some none = omega (arith, some)
first_kept base (None ∷ kept_sdus) front some none = omega (arith, front)
first_kept base (Some k ∷ kept_sdus) front some none = none-some k (sym none)

-- there is none
pub none_kept : (base : ℕ) (kept_sdus : List (Option Kept)) → prefix_len is_none kept_sdus ≡ 0 → length kept_sdus ≡ 0 → prefix_len is_none (kept_from base kept_sdus) ≡ length (kept_from base kept_sdus)
none_kept base kept_sdus front none = kept_front base kept_sdus front ∙ omega (arith, kept_long base kept_sdus, none)

-- all bytes of the first SDU were sent, and there are some
pub first_sent : (base : ℕ) (kept_sdus : List (Option Kept)) (count u : ℕ) (Waits : ℕ → Type 0) (o : Option Kept) → IsTidy base kept_sdus count u Waits → NoneUnsent (kept_from base kept_sdus) → 0 < length kept_sdus → o ≡ get_or kept_sdus 0 o → 0 < sent_of o
first_sent base kept_sdus count u Waits o t none some is = go (at kept_sdus 0) refl
  where
    go : (x : Option Kept) → at kept_sdus 0 ≡ x → 0 < sent_of o
    go None e = absurd (first_kept base kept_sdus t.front some e)
    go (Some k) e =
        let kept : at (kept_from base kept_sdus) base ≡ Some k = kept_item base kept_sdus base (omega arith) ∙ ap (at kept_sdus) (omega arith) ∙ e in
        let sdu = t.order.sdus base k kept in
        let all : is_unsent (Some k) ≡ false = sym (ap is_unsent kept) ∙ none base in
        let here : o ≡ Some k = is ∙ sym (get_or_default kept_sdus 0 None o some) ∙ e in
        let sent : 0 < length k.flags = let s = sdu.some in grind (arith, nat_tests) in
        omega (arith, sent, ap sent_of here)
