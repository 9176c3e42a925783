-- An SDU is given to a direct port, and one is heard there.
use Rattle.std.proofs.Common.{◌≡◌, ◌≢◌, ◌⊎◌, inl, inr, ℕ, ◌+◌, ◌<◌, ◌≤◌, List, [], ◌∷◌, ◌++◌, length, get_or, Option, Some, None, sym, ◌∙◌, ap, subst, arith}
use Rattle.std.proofs.lemmas.Bool.{cases_eq, cases_lt}
use Rattle.std.proofs.lemmas.Option.{none-some, same_Some}
use Rattle.std.proofs.lemmas.List.{get_or_append_left, get_or_past, get_or-append-add, length-append}
use Rattle.link_base.specs.declared.names.Key.{Key}
use Rattle.rlc_model.specs.Rx.{Rx, Done, got}
use Rattle.rlc_model.specs.Tx.{Tx, Kept, kept_at as rlc_kept_at, tx_next}
use Rattle.pdcp_model.specs.Sender.{Sender}
use Rattle.pdcp_model.specs.Receiver.{Receiver}
use Rattle.chain_law.specs.Calls.{CompletesOne}
use Rattle.book_law.specs.Honest.{HasCount}
use Rattle.direct_run_law.proofs.Carried.{Carries, data_pdu_of, report, Fits, SenderKeeps, Grows, carries_still, keeps_itself, grows_itself}

-- what a list has that has one more item at its end
more_at : {X : Type 0} (xs : List (Option X)) (x y : X) (n : ℕ) → get_or (xs ++ Some x ∷ []) n None ≡ Some y → (get_or xs n None ≡ Some y) ⊎ ((n ≡ length xs) × (x ≡ y))
more_at xs x y n e = elim (cases_lt n (length xs)) [
  | inl low ↦ inl (sym (get_or_append_left xs (Some x ∷ []) None n low) ∙ e)
  | inr high ↦ elim (cases_eq n (length xs)) [
    | inl same ↦
        let at : n ≡ length xs + 0 = omega (arith, same) in
        inr (same, same_Some x y (sym (ap (λ m. get_or (xs ++ Some x ∷ []) m None) at ∙ get_or-append-add xs (Some x ∷ []) 0 None) ∙ e))
    | inr other ↦
        let past : length (xs ++ Some x ∷ []) ≤ n = omega (arith, high, other, length-append xs (Some x ∷ [])) in
        absurd (none-some y (sym (get_or_past (xs ++ Some x ∷ []) n None past) ∙ e))
  ]
]

-- a number that is kept was given
pub given_below : (tx : Tx) (n : ℕ) (k : Kept) → rlc_kept_at tx n ≡ Some k → n < tx_next tx
given_below tx n k is = elim (cases_lt n (length tx.kept)) [
  | inl low ↦ low
  | inr high ↦ absurd (none-some k (sym (get_or_past tx.kept n None high) ∙ is))
]

-- a receiving side that has one COUNT more
pub record GrowsBy (s : Sender) (r : Receiver) (count : ℕ) (new : Receiver) : Type 0 where
  pub grows : Grows r new
  pub own : HasCount new count
  pub only : (m : ℕ) → HasCount new (s.first + m) → HasCount r (s.first + m) ⊎ (s.first + m ≡ count)

module _ (key : Key) (tx : Tx) (rx : Rx) (s : Sender) (r far : Receiver) (f : Fits key tx rx s r far) where
  -- a COUNT that is carried is that of a number that had its turn
  count_below : (n : ℕ) (k : Kept) (count : ℕ) → rlc_kept_at tx n ≡ Some k → k.tag.count ≡ Some count → (m : ℕ) × (m < s.place) × (count ≡ s.first + m)
  count_below n k count is its = by (f.carries n k is)
    where
      by : Carries key (got rx n ≡ Done) s r far k.tag k.sdu → (m : ℕ) × (m < s.place) × (count ≡ s.first + m)
      by (data_pdu_of m d) = (m, d.below, same_Some count (s.first + m) (sym its ∙ d.its_count))
      by (report x) = absurd (none-some count (sym x.no_count ∙ its))

  -- one more is given, whose COUNT, if it has one, hasn't had its turn
  pub fits_gives : (t : Sender) → SenderKeeps r s t → (new : Kept) (u : Tx) → u.kept ≡ tx.kept ++ Some new ∷ []
      → ((done : Type 0) → (done → ⊥) → Carries key done t r far new.tag new.sdu)
      → ((count m : ℕ) → new.tag.count ≡ Some count → m < s.place → count ≡ s.first + m → ⊥) → Fits key u rx t r far
  fits_gives t keeps new u is carries fresh = record {
    size = f.size ∙ sym keeps.size;
    first = f.first ∙ sym keeps.first;
    goes = keeps.waits ∙ f.goes;
    carries = λ n k at. elim (more n k at) [
      | inl old ↦ carries_still key r s t far far keeps (grows_itself far) (got rx n ≡ Done) (got rx n ≡ Done) (λ e. e) (λ e. e) k.tag k.sdu (f.carries n k old)
      | inr last ↦ subst (λ (x : Kept). Carries key (got rx n ≡ Done) t r far x.tag x.sdu) last.1 (carries (got rx n ≡ Done) (λ done. omega (arith, f.complete n done, last.0)))
    ];
    apart = λ n o k l count a b x y. elim (more n k a) [
      | inl old ↦ elim (more o l b) [
        | inl older ↦ f.apart n o k l count old older x y
        | inr last ↦ absurd (one_new n k l count old last.1 x y)
      ]
      | inr this ↦ elim (more o l b) [
        | inl old ↦ absurd (one_new o l k count old this.1 y x)
        | inr last ↦ omega (arith, this.0, last.0)
      ]
    ];
    complete = λ n done. omega (arith, f.complete n done, ap length is, length-append tx.kept (Some new ∷ []));
    heard = λ m has. omega (arith, f.heard m (subst (λ (x : ℕ). HasCount r (x + m)) keeps.first has), keeps.place);
  }
    where
      more : (n : ℕ) (k : Kept) → rlc_kept_at u n ≡ Some k → (rlc_kept_at tx n ≡ Some k) ⊎ ((n ≡ length tx.kept) × (new ≡ k))
      more n k at = more_at tx.kept new k n (ap (λ (l : List (Option Kept)). get_or l n None) (sym is) ∙ at)

      one_new : (n : ℕ) (k l : Kept) (count : ℕ) → rlc_kept_at tx n ≡ Some k → new ≡ l → k.tag.count ≡ Some count → l.tag.count ≡ Some count → ⊥
      one_new n k l count old last x y =
          let low = count_below n k count old x in
          fresh count low.0 (ap (λ (z : Kept). z.tag.count) last ∙ y) low.1 low.2

  -- a number is completed that carries a data PDU, and its COUNT is heard
  pub fits_hears : (n : ℕ) (k : Kept) (q : Rx) (new : Receiver) → rlc_kept_at tx n ≡ Some k → CompletesOne rx n q → (m : ℕ) → m < s.place → k.tag.count ≡ Some (s.first + m)
      → GrowsBy s r (s.first + m) new → Fits key tx q s new far
  fits_hears n k q new is one m low its by = record {
    size = by.grows.size ∙ f.size;
    first = by.grows.first ∙ f.first;
    goes = f.goes;
    carries = λ o l at. elim (cases_eq o n) [
      | inl this ↦
          let done : got q o ≡ Done = ap (got q) this ∙ one.now in
          let same : l ≡ k = same_Some l k (sym at ∙ ap (rlc_kept_at tx) this ∙ is) in
          here o l done same (f.carries o l at)
      | inr other ↦ there o l at other (f.carries o l at)
    ];
    apart = f.apart;
    complete = λ o done. elim (cases_eq o n) [
      | inl this ↦ omega (arith, this, given_below tx n k is)
      | inr other ↦ f.complete o (sym (one.others o other) ∙ done)
    ];
    heard = λ o has. elim (by.only o has) [
      | inl before ↦ f.heard o before
      | inr same ↦ omega (arith, same, low)
    ];
  }
    where
      here : (o : ℕ) (l : Kept) → got q o ≡ Done → l ≡ k → Carries key (got rx o ≡ Done) s r far l.tag l.sdu → Carries key (got q o ≡ Done) s new far l.tag l.sdu
      here o l done same (report x) = report x
      here o l done same (data_pdu_of p d) = data_pdu_of p (record {
        below = d.below;
        its_key = d.its_key;
        its_count = d.its_count;
        heard = λ e. subst (HasCount new) (same_Some (s.first + m) (s.first + p) (sym its ∙ ap (λ (x : Kept). x.tag.count) (sym same) ∙ d.its_count)) by.own;
        waits = λ yet. absurd (yet done);
      })

      there : (o : ℕ) (l : Kept) → rlc_kept_at tx o ≡ Some l → o ≢ n → Carries key (got rx o ≡ Done) s r far l.tag l.sdu → Carries key (got q o ≡ Done) s new far l.tag l.sdu
      there o l at other (report x) = report x
      there o l at other (data_pdu_of p d) = data_pdu_of p (record {
        below = d.below;
        its_key = d.its_key;
        its_count = d.its_count;
        heard = λ done. by.grows.has (s.first + p) (d.heard (sym (one.others o other) ∙ done));
        waits = λ yet.
            let w = d.waits (λ done. yet (one.others o other ∙ done)) in
            record {
              sdu = w.sdu;
              kept = w.kept;
              spelt = w.spelt;
              unheard = λ has. elim (by.only p has) [
                | inl before ↦ w.unheard before
                | inr same ↦ other (f.apart o n l k (s.first + m) at is (d.its_count ∙ ap (λ (c : ℕ). Some c) same) its)
              ];
            };
      })

  -- a number is completed that carries a report
  pub fits_reports : (n : ℕ) (k : Kept) (q : Rx) → rlc_kept_at tx n ≡ Some k → CompletesOne rx n q → k.tag.count ≡ None → Fits key tx q s r far
  fits_reports n k q is one none = record {
    size = f.size;
    first = f.first;
    goes = f.goes;
    carries = λ o l at. elim (cases_eq o n) [
      | inl this ↦ here o l (same_Some l k (sym at ∙ ap (rlc_kept_at tx) this ∙ is)) (f.carries o l at)
      | inr other ↦ carries_still key r s s far far (keeps_itself r s) (grows_itself far) (got rx o ≡ Done) (got q o ≡ Done) (λ e. one.others o other ∙ e)
          (λ e. sym (one.others o other) ∙ e) l.tag l.sdu (f.carries o l at)
    ];
    apart = f.apart;
    complete = λ o done. elim (cases_eq o n) [
      | inl this ↦ omega (arith, this, given_below tx n k is)
      | inr other ↦ f.complete o (sym (one.others o other) ∙ done)
    ];
    heard = f.heard;
  }
    where
      here : (o : ℕ) (l : Kept) → l ≡ k → Carries key (got rx o ≡ Done) s r far l.tag l.sdu → Carries key (got q o ≡ Done) s r far l.tag l.sdu
      here o l same (report x) = report x
      here o l same (data_pdu_of p d) = absurd (none-some (s.first + p) (sym none ∙ ap (λ (x : Kept). x.tag.count) (sym same) ∙ d.its_count))
