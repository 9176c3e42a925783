-- A list of SDUs with one more behind it.
use Rattle.std.proofs.Common.{◌≡◌, ◌⊎◌, inl, inr, ℕ, ◌+◌, ◌<◌, Bool, true, false, List, [], ◌∷◌, ◌++◌, length, get_or, replicate, count_by, is_some, cond, Option, Some, None, refl, sym, ◌∙◌, ap, subst, arith, append_assoc, ◌^◌}
use Rattle.std.specs.Option.{is_none}
use Rattle.std.specs.List.{prefix_len}
use Rattle.std.proofs.lemmas.Bool.{cases_lt, cases_eq, false≢true}
use Rattle.std.proofs.lemmas.Bool.Decides.{nat_tests}
use Rattle.std.proofs.lemmas.List.{get_or_past, get_or_append_left, length_push}
use Rattle.std.proofs.Math.Seq.{get_or-append_seam}
use Rattle.std.proofs.lemmas.List.Sums.{sum_by-append}
use Rattle.std.proofs.lemmas.Option.{none-some, same_Some}
use Rattle.rlc_model.specs.Tx.{Kept, at, is_unsent, is_pending}
use Rattle.rlc_am_tx.specs.Buffer.{kept_from, IsSdu, IsInOrder}
use Rattle.rlc_am_tx.specs.Inside.{IsTidy}
use Rattle.rlc_am_tx.specs.Pieces.{AreWaiting}

module _ (l : List (Option Kept)) (x : Option Kept) where
  pub pushed_before : (n : ℕ) → n < length l → at (l ++ x ∷ []) n ≡ at l n
  pushed_before n lt = get_or_append_left l (x ∷ []) None n lt

  pub pushed_last : at (l ++ x ∷ []) (length l) ≡ x
  pushed_last = get_or-append_seam l x [] None

  pub pushed_behind : (n : ℕ) → length l < n → at (l ++ x ∷ []) n ≡ None
  pushed_behind n lt = get_or_past (l ++ x ∷ []) n None (omega (arith, length_push l x, lt))

  -- what holds of the numbers before, of the last and behind it, holds of each
  pub pushed_each : (P : ℕ → Option Kept → Type 0) → ((n : ℕ) → n < length l → P n (at l n)) → P (length l) x → ((n : ℕ) → length l < n → P n None) → (n : ℕ) → P n (at (l ++ x ∷ []) n)
  pushed_each P before last behind n =
      elim (cases_lt n (length l)) [
        | inl lt ↦ subst (P n) (sym (pushed_before n lt)) (before n lt)
        | inr le ↦ elim (cases_eq n (length l)) [
          | inl eq ↦ subst (λ m. P m (at (l ++ x ∷ []) m)) (sym eq) (subst (P (length l)) (sym pushed_last) last)
          | inr ne ↦ let lt : length l < n = omega (arith, le, ne) in subst (P n) (sym (pushed_behind n lt)) (behind n lt)
        ]
      ]

pub pushed_front : (kept_sdus : List (Option Kept)) (k : Kept) → prefix_len is_none kept_sdus ≡ 0 → prefix_len is_none (kept_sdus ++ Some k ∷ []) ≡ 0
pushed_front [] k front = refl
pushed_front (None ∷ kept_sdus) k front = absurd (omega (arith, front))
pushed_front (Some s ∷ kept_sdus) k front = refl

pub pushed_count : (kept_sdus : List (Option Kept)) (k : Kept) → count_by is_some (kept_sdus ++ Some k ∷ []) ≡ count_by is_some kept_sdus + 1
pushed_count kept_sdus k = sum_by-append (λ (o : Option Kept). cond (is_some o) 1 0) kept_sdus (Some k ∷ [])

-- an SDU of which no byte was sent leaves the order
pub pushed_order : (l : List (Option Kept)) (unsent : ℕ) (k : Kept) → IsInOrder l unsent → IsSdu k → length k.flags ≡ 0 → IsInOrder (l ++ Some k ∷ []) unsent
pushed_order l unsent k i sdu fresh = record {
  sdus = pushed_each l (Some k) (λ n o. (s : Kept) → o ≡ Some s → IsSdu s) (λ n lt s is. i.sdus n s is) (λ s is. subst IsSdu (same_Some k s is) sdu) (λ n lt s is. absurd (none-some s is));
  limit = omega (arith, length_push l (Some k), i.limit);
  below = λ n lt. ap is_unsent (pushed_before l (Some k) n (omega (arith, lt, i.limit))) ∙ i.below n lt;
  from = λ n ge lt. elim (cases_lt n (length l)) [
    | inl before ↦ ap is_unsent (pushed_before l (Some k) n before) ∙ i.from n ge before
    | inr behind ↦ let here : n ≡ length l = omega (arith, length_push l (Some k), behind, lt) in ap (λ m. is_unsent (at (l ++ Some k ∷ []) m)) here ∙ ap is_unsent (pushed_last l (Some k)) ∙ grind (arith, nat_tests, sdu.some, fresh)
  ];
  above = pushed_each l (Some k) (λ n o. (s : Kept) → unsent < n → o ≡ Some s → length s.flags ≡ 0) (λ n lt s gt is. i.above n s gt is) (λ s gt is. ap (λ (x : Kept). length x.flags) (sym (same_Some k s is)) ∙ fresh) (λ n lt s gt is. absurd (none-some s is));
}

-- nor is one of its bytes pending
pub pushed_waiting : (l : List (Option Kept)) (k : Kept) (first : ℕ) (Waits : ℕ → Type 0) → k.flags ≡ [] → AreWaiting l first Waits → AreWaiting (l ++ Some k ∷ []) first Waits
pushed_waiting l k first Waits fresh w = record {
  each = λ n p is. pushed_each l (Some k) (λ m o. is_pending o p ≡ true → (m ≡ first) ⊎ Waits m) (λ m lt is. w.each m p is) (λ is. absurd (false≢true (sym (ap (λ (f : List Bool). get_or f p false) fresh) ∙ is))) (λ m lt is. absurd (false≢true is)) n is;
  only = λ n waits.
      let h = w.only n waits in (
        h.0,
        elim (cases_lt n (length l)) [
          | inl lt ↦ ap (λ (o : Option Kept). is_pending o h.0) (pushed_before l (Some k) n lt) ∙ h.1
          | inr ge ↦ absurd (false≢true (sym (ap (λ (o : Option Kept). is_pending o h.0) (get_or_past l n None ge)) ∙ h.1))
        ],
      );
}

-- a buffer that is given one more SDU
pub pushed_tidy : (base : ℕ) (kept_sdus : List (Option Kept)) (count unsent : ℕ) (Waits : ℕ → Type 0) (k : Kept) → IsTidy base kept_sdus count unsent Waits → IsSdu k → k.flags ≡ [] → base + length kept_sdus < 2 ^ 62 → IsTidy base (kept_sdus ++ Some k ∷ []) (count + 1) unsent Waits
pushed_tidy base kept_sdus count unsent Waits k i sdu fresh small =
    let all : kept_from base (kept_sdus ++ Some k ∷ []) ≡ kept_from base kept_sdus ++ Some k ∷ [] = sym (append_assoc (replicate base None) kept_sdus (Some k ∷ [])) in
    record {
      small = omega (arith, length_push kept_sdus (Some k), small);
      front = pushed_front kept_sdus k i.front;
      count = omega (arith, i.count, pushed_count kept_sdus k);
      acked = i.acked;
      order = subst (λ l. IsInOrder l unsent) (sym all) (pushed_order (kept_from base kept_sdus) unsent k i.order sdu (ap length fresh));
      waiting = subst (λ l. AreWaiting l base Waits) (sym all) (pushed_waiting (kept_from base kept_sdus) k base Waits fresh i.waiting);
    }
