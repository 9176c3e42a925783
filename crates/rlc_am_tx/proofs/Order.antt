-- SDUs that are sent in order: what waits, and how many were begun.
use Rattle.std.proofs.Common.{◌≡◌, inl, inr, ℕ, ◌+◌, ◌-◌, ◌<◌, ◌≤◌, true, false, List, length, Option, Some, None, refl, sym, ◌∙◌, ap, subst, arith}
use Rattle.std.proofs.lemmas.Bool.{cases_lt, cases_eq, false≢true}
use Rattle.std.proofs.lemmas.Bool.Decides.{nat_tests}
use Rattle.std.proofs.lemmas.List.{get_or_past}
use Rattle.rlc_model.specs.Tx.{Kept, at, is_unsent, is_sent, SomeUnsent, HasBeenSent, IsBegunCount}
use Rattle.rlc_am_tx.specs.Buffer.{NoneUnsent, IsSdu, IsInOrder, sent_of}

-- what has unsent bytes is an SDU
pub unsent_kept : (o : Option Kept) → is_unsent o ≡ true → (k : Kept) × (o ≡ Some k)
unsent_kept None is = absurd (false≢true is)
unsent_kept (Some k) is = (k, refl)

-- an SDU of which no byte was sent isn't sent
not_begun : (k : Kept) → length k.flags ≡ 0 → is_sent (Some k) ≡ true → ⊥
not_begun k none is = grind (arith, nat_tests)

pub begun : (k : Kept) → 0 < length k.flags → is_sent (Some k) ≡ true
begun k some = grind (arith, nat_tests)

-- all bytes of it were sent, and there are some
all_sent : (o : Option Kept) → ((k : Kept) → o ≡ Some k → IsSdu k) → is_unsent o ≡ false → is_sent o ≡ true
all_sent None sdu is = refl
all_sent (Some k) sdu is = let some = (sdu k refl).some in grind (arith, nat_tests)

module _ (l : List (Option Kept)) (unsent : ℕ) (i : IsInOrder l unsent) where
  pub some_unsent : unsent < length l → SomeUnsent l
  some_unsent lt = (unsent, i.from unsent (omega arith) lt)

  pub none_unsent : length l ≤ unsent → NoneUnsent l
  none_unsent le n = elim (cases_lt n unsent) [
    | inl lt ↦ i.below n lt
    | inr ge ↦ ap is_unsent (get_or_past l n None (omega (arith, le, ge)))
  ]

  -- numbers from `unsent` on are SDUs
  pub from_kept : (n : ℕ) → unsent ≤ n → n < length l → (k : Kept) × (at l n ≡ Some k)
  from_kept n ge lt = unsent_kept (at l n) (i.from n ge lt)

  -- of a number above `unsent` no byte was sent
  pub above_not_sent : (n : ℕ) → unsent < n → n < length l → is_sent (at l n) ≡ true → ⊥
  above_not_sent n gt lt is =
      let k = from_kept n (omega (arith, gt)) lt in
      not_begun k.0 (i.above n k.0 gt k.1) (sym (ap is_sent k.1) ∙ is)

  below_sent : (n : ℕ) → n < unsent → is_sent (at l n) ≡ true
  below_sent n lt = all_sent (at l n) (λ k is. i.sdus n k is) (i.below n lt)

  pub begun_given : 0 < sent_of (at l unsent) → unsent < length l
  begun_given some = elim (cases_lt unsent (length l)) [
    | inl lt ↦ lt
    | inr ge ↦ absurd (omega (arith, some, ap sent_of (get_or_past l unsent None ge)))
  ]

-- one more than the greatest number of which a byte was sent
pub count_more : (l : List (Option Kept)) (unsent : ℕ) → IsInOrder l unsent → 0 < sent_of (at l unsent) → IsBegunCount l (unsent + 1)
count_more l unsent i some =
    let lt : unsent < length l = begun_given l unsent i some in
    let k = from_kept l unsent i unsent (omega arith) lt in
    let here : is_sent (at l unsent) ≡ true = ap is_sent k.1 ∙ begun k.0 (omega (arith, some, ap sent_of k.1)) in
    let back : unsent ≡ unsent + 1 - 1 = omega arith in
    record {
      above = λ n is. elim (cases_lt unsent n) [
        | inl gt ↦ absurd (above_not_sent l unsent i n gt is.0 is.1)
        | inr le ↦ omega (arith, le)
      ];
      last = inr (subst (HasBeenSent l) back (lt, here));
    }

pub count_same : (l : List (Option Kept)) (unsent : ℕ) → IsInOrder l unsent → sent_of (at l unsent) ≡ 0 → IsBegunCount l unsent
count_same l unsent i none =
    record {
      above = λ n is. elim (cases_lt n unsent) [
        | inl lt ↦ lt
        | inr ge ↦ elim (cases_eq n unsent) [
          | inl eq ↦
              let k = from_kept l unsent i n ge is.0 in
              absurd (not_begun k.0 (sym (ap sent_of k.1) ∙ ap (λ m. sent_of (at l m)) eq ∙ none) (sym (ap is_sent k.1) ∙ is.1))
          | inr ne ↦ absurd (above_not_sent l unsent i n (omega (arith, ge, ne)) is.0 is.1)
        ]
      ];
      last = elim (cases_eq unsent 0) [
        | inl eq ↦ inl eq
        | inr ne ↦ inr (omega (arith, ne, i.limit), below_sent l unsent i (unsent - 1) (omega (arith, ne)))
      ];
    }

-- there is one count only
pub count_one : (l : List (Option Kept)) (c d : ℕ) → IsBegunCount l c → IsBegunCount l d → c ≡ d
count_one l c d x y = elim (cases_lt c d) [
  | inl lt ↦ elim y.last [ inl none ↦ absurd (omega (arith, lt, none)) | inr sent ↦ absurd (omega (arith, lt, x.above (d - 1) sent)) ]
  | inr ge ↦ elim (cases_lt d c) [
    | inl lt ↦ elim x.last [ inl none ↦ absurd (omega (arith, lt, none)) | inr sent ↦ absurd (omega (arith, lt, y.above (c - 1) sent)) ]
    | inr le ↦ omega (arith, ge, le)
  ]
]

-- no more was sent than there is
pub count_within : (l : List (Option Kept)) (c : ℕ) → IsBegunCount l c → c ≤ length l
count_within l c count = elim count.last [ inl none ↦ omega (arith, none) | inr sent ↦ omega (arith, sent.0) ]
