-- A list of SDUs in which one was sent further.
use Rattle.std.proofs.Common.{◌≡◌, ◌≢◌, ◌⊎◌, ◌↔◌, inl, inr, ℕ, zero, suc, ◌+◌, ◌-◌, ◌*◌, ◌^◌, ◌<◌, ◌≤◌, true, false, Bool, not, List, [], ◌∷◌, length, get_or, set, is_some, cond, Option, Some, None, refl, sym, ◌∙◌, ap, subst, arith, get_or-set_same, get_or-set_other}
use Rattle.std.specs.Option.{is_none}
use Rattle.std.proofs.lemmas.Bool.{cases_lt, cases_eq, false≢true}
use Rattle.std.proofs.lemmas.Bool.Decides.{nat_tests}
use Rattle.std.proofs.lemmas.List.{get_or_past, length-set}
use Rattle.std.proofs.lemmas.List.Folds.{prefix_len-set}
use Rattle.std.proofs.lemmas.List.Sums.{sum_by-set, sum_by-cons}
use Rattle.std.proofs.lemmas.Option.{none-some, same_Some}
use Rattle.rlc_model.specs.Numbers.{IsFirst}
use Rattle.rlc_model.specs.Tx.{Kept, at, is_unsent, is_pending, IsNextOf, pending, unsent, Clears}
use Rattle.rlc_am_tx.specs.declared.pieces.Piece.{Piece}
use Rattle.rlc_am_tx.specs.Buffer.{kept_from, IsPending, IsSdu, IsInOrder, most_sent, all_sent}
use Rattle.rlc_am_tx.specs.Pieces.{AreWaiting, IsNextPiece, MarksKept, MarksSent, MovesUnsent, moves, stays}
use Rattle.rlc_am_tx.specs.Inside.{IsTidy}
use Rattle.rlc_am_tx.proofs.Flagged.{run_within}
use Rattle.rlc_am_tx.proofs.Numbers.{given, kept_below, kept_item, kept_long}

-- the SDU of one number is replaced
pub record IsSetAt (l : List (Option Kept)) (n : ℕ) (x : Option Kept) (new : List (Option Kept)) : Type 0 where
  pub this : at new n ≡ x
  pub others : (m : ℕ) → m ≢ n → at new m ≡ at l m
  pub long : length new ≡ length l

-- a number that has an SDU has a SDU
pub has_kept : (base : ℕ) (kept_sdus : List (Option Kept)) (n : ℕ) (k : Kept) → at (kept_from base kept_sdus) n ≡ Some k → (base ≤ n) × (n - base < length kept_sdus) × (at kept_sdus (n - base) ≡ Some k)
has_kept base kept_sdus n k is =
    let ge : base ≤ n = elim (cases_lt n base) [ inl lt ↦ absurd (none-some k (sym (kept_below base kept_sdus n lt) ∙ is)) | inr ge ↦ ge ] in
    let here : at kept_sdus (n - base) ≡ Some k = sym (kept_item base kept_sdus n ge) ∙ is in
    (ge, given kept_sdus (n - base) k here, here)

pub kept_set : (base : ℕ) (kept_sdus : List (Option Kept)) (n : ℕ) (x : Option Kept) → base ≤ n → n - base < length kept_sdus → IsSetAt (kept_from base kept_sdus) n x (kept_from base (set kept_sdus (n - base) x))
kept_set base kept_sdus n x ge lt = record {
  this = kept_item base (set kept_sdus (n - base) x) n ge ∙ get_or-set_same kept_sdus (n - base) x None lt;
  others = λ m ne. elim (cases_lt m base) [
    | inl below ↦ kept_below base (set kept_sdus (n - base) x) m below ∙ sym (kept_below base kept_sdus m below)
    | inr from ↦ kept_item base (set kept_sdus (n - base) x) m from ∙ get_or-set_other kept_sdus (n - base) (m - base) x None (λ e. ne (omega (arith, e, ge, from))) ∙ sym (kept_item base kept_sdus m from)
  ];
  long = kept_long base (set kept_sdus (n - base) x) ∙ ap {B = ℕ} (λ m. base + m) (length-set kept_sdus (n - base) x) ∙ sym (kept_long base kept_sdus);
}

-- what holds of the new SDU, and of each other one, holds of each
pub set_each : (l : List (Option Kept)) (n : ℕ) (x : Option Kept) (new : List (Option Kept)) (P : ℕ → Option Kept → Type 0) → IsSetAt l n x new → P n x → ((m : ℕ) → m ≢ n → P m (at l m)) → (m : ℕ) → P m (at new m)
set_each l n x new P s this others m = elim (cases_eq m n) [
  | inl eq ↦ subst (λ j. P j (at new j)) (sym eq) (subst (P n) (sym s.this) this)
  | inr ne ↦ subst (P m) (sym (s.others m ne)) (others m ne)
]

pub same_lengths : (k k' : Kept) → k'.sdu ≡ k.sdu → length k'.flags ≡ length k.flags → is_unsent (Some k') ≡ is_unsent (Some k)
same_lengths k k' sdu sent = let long = ap length sdu in grind (arith, nat_tests)

-- an SDU that was sent further: it is the lowest unsent one, or no byte of it was sent for the first time
pub record IsFurther (k k' : Kept) (n u : ℕ) : Type 0 where
  pub sdu : k'.sdu ≡ k.sdu
  pub within : length k'.flags ≤ length k.sdu
  pub order : (length k'.flags ≡ length k.flags) ⊎ (n ≡ u)

module _ (l : List (Option Kept)) (n u : ℕ) (k k' : Kept) (new : List (Option Kept)) (i : IsInOrder l u) (is : at l n ≡ Some k) (s : IsSetAt l n (Some k') new) (f : IsFurther k k' n u) where
  sdus : (m : ℕ) (x : Kept) → at new m ≡ Some x → IsSdu x
  sdus m x = set_each l n (Some k') new (λ j o. o ≡ Some x → IsSdu x) s
      (λ e. subst IsSdu (same_Some k' x e) (let was = i.sdus n k is in record { some = rw f.sdu was.some; long = rw f.sdu was.long; sent = rw f.sdu f.within }))
      (λ j ne e. i.sdus j x e) m

  apart : n ≢ u → is_unsent (Some k') ≡ is_unsent (at l n)
  apart ne = elim f.order [ inl sent ↦ same_lengths k k' f.sdu sent ∙ sym (ap is_unsent is) | inr eq ↦ absurd (ne eq) ]

  above : (m : ℕ) (x : Kept) → u < m → at new m ≡ Some x → length x.flags ≡ 0
  above m x = set_each l n (Some k') new (λ j o. u < j → o ≡ Some x → length x.flags ≡ 0) s
      (λ gt e. elim f.order [
        | inl sent ↦ ap (λ (y : Kept). length y.flags) (sym (same_Some k' x e)) ∙ sent ∙ i.above n k gt is
        | inr eq ↦ absurd (omega (arith, gt, eq))
      ])
      (λ j ne gt e. i.above j x gt e) m

  -- not all bytes of the lowest unsent one were
  pub order_same : (n ≡ u → is_unsent (Some k') ≡ true) → IsInOrder new u
  order_same open_ = record {
    sdus = sdus;
    limit = omega (arith, s.long, i.limit);
    below = set_each l n (Some k') new (λ j o. j < u → is_unsent o ≡ false) s (λ lt. apart (λ e. omega (arith, lt, e)) ∙ i.below n lt) (λ j ne lt. i.below j lt);
    from = set_each l n (Some k') new (λ j o. u ≤ j → j < length new → is_unsent o ≡ true) s
        (λ ge lt. elim (cases_eq n u) [ inl eq ↦ open_ eq | inr ne ↦ apart ne ∙ i.from n ge (omega (arith, lt, s.long)) ])
        (λ j ne ge lt. i.from j ge (omega (arith, lt, s.long)));
    above = above;
  }

  -- they were
  pub order_next : n ≡ u → is_unsent (Some k') ≡ false → IsInOrder new (u + 1)
  order_next eq whole = record {
    sdus = sdus;
    limit = omega (arith, s.long, given l n k is, eq);
    below = set_each l n (Some k') new (λ j o. j < u + 1 → is_unsent o ≡ false) s (λ lt. whole) (λ j ne lt. i.below j (omega (arith, lt, ne, eq)));
    from = set_each l n (Some k') new (λ j o. u + 1 ≤ j → j < length new → is_unsent o ≡ true) s (λ ge lt. absurd (omega (arith, ge, eq))) (λ j ne ge lt. i.from j (omega (arith, ge)) (omega (arith, lt, s.long)));
    above = λ m x gt e. above m x (omega (arith, gt)) e;
  }

-- bytes that were sent are no more pending
cleared : (old : List Bool) (a e : ℕ) (new : List Bool) → Clears old a e new → (p : ℕ) → get_or new p false ≡ true → get_or old p false ≡ true
cleared old a e new c p is = elim (cases_lt p a) [
  | inl lt ↦ sym (c.rest p (inl lt)) ∙ is
  | inr ge ↦ elim (cases_lt p e) [
    | inl lt ↦ absurd (false≢true (sym (c.sent p ge lt) ∙ is))
    | inr past ↦ sym (c.rest p (inr past)) ∙ is
  ]
]

waiting_marked : (l : List (Option Kept)) (n first : ℕ) (k k' : Kept) (new : List (Option Kept)) (Waits Waits' : ℕ → Type 0) (a e : ℕ) → at l n ≡ Some k → IsSetAt l n (Some k') new → Clears k.flags a e k'.flags → ((m : ℕ) → Waits' m ↔ Waits m × (m ≡ n → IsPending (Some k'))) → AreWaiting l first Waits → AreWaiting new first Waits'
waiting_marked l n first k k' new Waits Waits' a e is s c change w = record {
  each = λ m p set_. elim (cases_eq m n) [
    | inl eq ↦
        let on : is_pending (Some k') p ≡ true = ap (λ (o : Option Kept). is_pending o p) (sym (ap (at new) eq ∙ s.this)) ∙ set_ in
        let was : is_pending (at l m) p ≡ true = ap (λ j. is_pending (at l j) p) eq ∙ ap (λ (o : Option Kept). is_pending o p) is ∙ cleared k.flags a e k'.flags c p on in
        elim (w.each m p was) [ inl at_first ↦ inl at_first | inr waits ↦ inr ((change m).1 (waits, λ j. (p, on))) ]
    | inr ne ↦ elim (w.each m p (ap (λ (o : Option Kept). is_pending o p) (sym (s.others m ne)) ∙ set_)) [ inl at_first ↦ inl at_first | inr waits ↦ inr ((change m).1 (waits, λ j. absurd (ne j))) ]
  ];
  only = λ m waits.
      let v = (change m).0 waits in
      elim (cases_eq m n) [
        | inl eq ↦ let h = v.1 eq in (h.0, ap (λ (o : Option Kept). is_pending o h.0) (ap (at new) eq ∙ s.this) ∙ h.1)
        | inr ne ↦ let h = w.only m v.0 in (h.0, ap (λ (o : Option Kept). is_pending o h.0) (s.others m ne) ∙ h.1)
      ];
}

not_true : (b : Bool) → not b ≡ true → b ≡ false
not_true true is = absurd (false≢true is)
not_true false is = refl

not_false : (b : Bool) → not b ≡ false → b ≡ true
not_false true is = refl
not_false false is = absurd (false≢true (sym is))

-- the piece that is next, its SDU and what sending it does
pub record IsMarked (base : ℕ) (kept_sdus : List (Option Kept)) (unsent : ℕ) (piece : Piece) (end : ℕ) (new : Option Kept) : Type 0 where
  pub kept : Kept
  pub sent : Kept
  pub is : at (kept_from base kept_sdus) piece.number ≡ Some kept
  pub becomes : new ≡ Some sent
  pub clears : Clears kept.flags piece.from end sent.flags
  pub further : IsFurther kept sent piece.number unsent

-- the lowest number with unsent bytes
unsent_is : (l : List (Option Kept)) (u n : ℕ) → IsInOrder l u → IsFirst (λ m. is_unsent (at l m) ≡ true) 0 n → n ≡ u
unsent_is l u n i f =
    elim (cases_lt n u) [
      | inl lt ↦ absurd (false≢true (sym (i.below n lt) ∙ f.has))
      | inr ge ↦ elim (cases_eq n u) [
        | inl eq ↦ eq
        | inr ne ↦
            let lt : n < length l = elim (cases_lt n (length l)) [ inl lt ↦ lt | inr past ↦ absurd (false≢true (sym (ap is_unsent (get_or_past l n None past)) ∙ f.has)) ] in
            absurd (f.none u (omega arith) (omega (arith, ge, ne)) (i.from u (omega arith) (omega (arith, ge, lt))))
      ]
    ]

pub item_kept : (o : Option Kept) (k : Kept) → o ≡ Some k → o ≢ None
item_kept o k is e = none-some k (sym e ∙ is)

-- a piece that is next has an SDU
pub next_kept : (l : List (Option Kept)) (piece : Piece) → IsNextPiece l piece → (k : Kept) × (at l piece.number ≡ Some k)
next_kept l piece (k, pending first is run) = (k, is)
next_kept l piece (k, unsent none first is from to) = (k, is)

pub next_is : (l : List (Option Kept)) (piece : Piece) (k : Kept) → IsNextOf l piece.number k piece.from piece.to → at l piece.number ≡ Some k
next_is l piece k (pending first is run) = is
next_is l piece k (unsent none first is from to) = is

pub next_slot : (base : ℕ) (kept_sdus : List (Option Kept)) (piece : Piece) → IsNextPiece (kept_from base kept_sdus) piece → at kept_sdus (piece.number - base) ≡ at (kept_from base kept_sdus) piece.number
next_slot base kept_sdus piece n =
    let k = next_kept (kept_from base kept_sdus) piece n in
    let h = has_kept base kept_sdus piece.number k.0 k.1 in
    h.2 ∙ sym k.1

pub next_item : (base : ℕ) (kept_sdus : List (Option Kept)) (piece : Piece) → IsNextPiece (kept_from base kept_sdus) piece → (piece.number - base < length kept_sdus) × (at kept_sdus (piece.number - base) ≢ None)
next_item base kept_sdus piece n =
    let k = next_kept (kept_from base kept_sdus) piece n in
    let h = has_kept base kept_sdus piece.number k.0 k.1 in
    (h.1, item_kept _ k.0 h.2)

is_marked : (base : ℕ) (kept_sdus : List (Option Kept)) (u : ℕ) (piece : Piece) (end : ℕ) (new : Option Kept) → IsInOrder (kept_from base kept_sdus) u → IsNextPiece (kept_from base kept_sdus) piece → piece.from < end → end ≤ piece.to → MarksKept (at kept_sdus (piece.number - base)) piece.from end new → IsMarked base kept_sdus u piece end new
is_marked base kept_sdus u piece end new i (k, next) some within m = go next
  where
    same : at (kept_from base kept_sdus) piece.number ≡ Some k → k ≡ m.kept
    same is = let h = has_kept base kept_sdus piece.number k is in same_Some k m.kept (sym h.2 ∙ m.was)

    clears : at (kept_from base kept_sdus) piece.number ≡ Some k → Clears k.flags piece.from end m.flags
    clears is = subst (λ (x : Kept). Clears x.flags piece.from end m.flags) (sym (same is)) m.clears

    go : IsNextOf (kept_from base kept_sdus) piece.number k piece.from piece.to → IsMarked base kept_sdus u piece end new
    go (pending first is run) =
        let long : length m.flags ≡ length k.flags = omega (arith, (clears is).long, run_within k.flags piece.from piece.to run, within) in
        record {
          kept = k;
          sent = record k { flags = m.flags };
          is = is;
          becomes = m.is ∙ ap (λ (x : Kept). Some (record x { flags = m.flags })) (sym (same is));
          clears = clears is;
          further = record { sdu = refl; within = omega (arith, long, (i.sdus piece.number k is).sent); order = inl long };
        }
    go (unsent none first is from to) = record {
      kept = k;
      sent = record k { flags = m.flags };
      is = is;
      becomes = m.is ∙ ap (λ (x : Kept). Some (record x { flags = m.flags })) (sym (same is));
      clears = clears is;
      further = record { sdu = refl; within = omega (arith, (clears is).long, to, within, (i.sdus piece.number k is).sent); order = inr (unsent_is (kept_from base kept_sdus) u piece.number i first) };
    }

module _ (base : ℕ) (kept_sdus : List (Option Kept)) (count u : ℕ) (Waits : ℕ → Type 0) (piece : Piece) (end : ℕ) (new : Option Kept) (Waits' : ℕ → Type 0) (t : IsTidy base kept_sdus count u Waits) (next : IsNextPiece (kept_from base kept_sdus) piece) (some : piece.from < end) (within : end ≤ piece.to) (m : MarksKept (at kept_sdus (piece.number - base)) piece.from end new) (change : (j : ℕ) → Waits' j ↔ Waits j × (j ≡ piece.number → IsPending new)) where
  marked : IsMarked base kept_sdus u piece end new
  marked = is_marked base kept_sdus u piece end new t.order next some within m

  abbrev kept_sdus' : List (Option Kept)
  kept_sdus' = set kept_sdus (piece.number - base) new

  pub marked_set : IsSetAt (kept_from base kept_sdus) piece.number new (kept_from base kept_sdus')
  marked_set = let h = has_kept base kept_sdus piece.number marked.kept marked.is in kept_set base kept_sdus piece.number new h.0 h.1

  set_some : IsSetAt (kept_from base kept_sdus) piece.number (Some marked.sent) (kept_from base kept_sdus')
  set_some = subst (λ (o : Option Kept). IsSetAt (kept_from base kept_sdus) piece.number o (kept_from base kept_sdus')) marked.becomes marked_set

  rest : (u' : ℕ) → u ≤ u' → IsInOrder (kept_from base kept_sdus') u' → IsTidy base kept_sdus' count u' Waits'
  rest u' le order =
      let h = has_kept base kept_sdus piece.number marked.kept marked.is in
      let i = piece.number - base in
      let counted = sum_by-set (λ (o : Option Kept). cond (is_some o) 1 0) kept_sdus i new None h.1 in
      record {
        small = omega (arith, t.small, length-set kept_sdus i new);
        front = prefix_len-set is_none kept_sdus i new None (ap is_none marked.becomes ∙ sym (ap is_none h.2)) ∙ t.front;
        count = omega (arith, t.count, counted, ap {B = ℕ} (λ (o : Option Kept). cond (is_some o) 1 0) marked.becomes, ap {B = ℕ} (λ (o : Option Kept). cond (is_some o) 1 0) h.2);
        acked = omega (arith, t.acked, le);
        order = order;
        waiting = waiting_marked (kept_from base kept_sdus) piece.number base marked.kept marked.sent (kept_from base kept_sdus') Waits Waits' piece.from end marked.is set_some marked.clears (λ j. subst (λ (o : Option Kept). Waits' j ↔ Waits j × (j ≡ piece.number → IsPending o)) marked.becomes (change j)) t.waiting;
      }

  -- the lowest number with unsent bytes stays, or it is the next
  pub marked_tidy : (u' : ℕ) → MovesUnsent u piece.number (not (is_unsent new)) u' → IsTidy base kept_sdus' count u' Waits'
  marked_tidy u' (moves eq whole is) =
      let sent : is_unsent (Some marked.sent) ≡ false = sym (ap is_unsent marked.becomes) ∙ not_true (is_unsent new) whole in
      rest u' (omega (arith, is)) (subst (IsInOrder (kept_from base kept_sdus')) (sym is) (order_next (kept_from base kept_sdus) piece.number u marked.kept marked.sent (kept_from base kept_sdus') t.order marked.is set_some marked.further eq sent))
  marked_tidy u' (stays why is) =
      rest u' (omega (arith, is)) (subst (IsInOrder (kept_from base kept_sdus')) (sym is) (order_same (kept_from base kept_sdus) piece.number u marked.kept marked.sent (kept_from base kept_sdus') t.order marked.is set_some marked.further
      (λ eq. elim why [ inl ne ↦ absurd (ne eq) | inr part ↦ sym (ap is_unsent marked.becomes) ∙ not_false (is_unsent new) part ])))

  pub marked_sent : MarksSent (kept_from base kept_sdus) piece.number piece.from end (kept_from base kept_sdus')
  marked_sent =
      let h = has_kept base kept_sdus piece.number marked.kept marked.is in
      let here : at kept_sdus (piece.number - base) ≡ at (kept_from base kept_sdus) piece.number = h.2 ∙ sym marked.is in
      record {
        kept_sdu = subst (λ (o : Option Kept). MarksKept o piece.from end (at (kept_from base kept_sdus') piece.number)) here (subst (MarksKept (at kept_sdus (piece.number - base)) piece.from end) (sym marked_set.this) m);
        others = marked_set.others;
        long = marked_set.long;
      }

-- no more bytes were sent than SDUs have
pub few_sent : (l : List (Option Kept)) → ((n : ℕ) (k : Kept) → at l n ≡ Some k → length k.flags ≤ 9005) → all_sent l ≤ 9005 * length l
few_sent [] few = omega arith
few_sent (None ∷ l) few = omega (arith, few_sent l (λ n k is. few (suc n) k is), sum_by-cons most_sent None l)
few_sent (Some k ∷ l) few = omega (arith, few_sent l (λ n j is. few (suc n) j is), few zero k refl, sum_by-cons most_sent (Some k) l)

pub tidy_few : (base : ℕ) (kept_sdus : List (Option Kept)) (count u : ℕ) (Waits : ℕ → Type 0) → IsTidy base kept_sdus count u Waits → all_sent (kept_from base kept_sdus) ≤ 9005 * 2 ^ 62
tidy_few base kept_sdus count u Waits t =
    omega (arith, few_sent (kept_from base kept_sdus) (λ n k is. let d = t.order.sdus n k is in omega (arith, d.sent, d.long)), kept_long base kept_sdus, t.small)

-- a piece that is next lies within an SDU of at most 9,005 bytes
pub next_sent : (base : ℕ) (kept_sdus : List (Option Kept)) (u : ℕ) (piece : Piece) → IsInOrder (kept_from base kept_sdus) u → IsNextPiece (kept_from base kept_sdus) piece → piece.to ≤ 9005
next_sent base kept_sdus u piece i (k, pending first is run) = let d = i.sdus piece.number k is in omega (arith, run_within k.flags piece.from piece.to run, d.sent, d.long)
next_sent base kept_sdus u piece i (k, unsent none first is from to) = let d = i.sdus piece.number k is in omega (arith, to, d.long)
