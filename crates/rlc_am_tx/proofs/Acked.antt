-- A buffer behind a STATUS that is carried out.
use Rattle.std.proofs.Common.{◌≡◌, ◌≢◌, ◌⊎◌, ◌↔◌, inl, inr, ℕ, zero, suc, ◌+◌, ◌-◌, ◌<◌, ◌≤◌, ◌^◌, true, false, Bool, List, [], ◌∷◌, ◌++◌, length, replicate, count_by, is_some, Option, Some, None, refl, sym, ◌∙◌, ap, subst, arith, append_assoc}
use Rattle.std.specs.List.{prefix_len}
use Rattle.std.specs.Option.{is_none}
use Rattle.std.proofs.lemmas.Bool.{cases_lt, false≢true}
use Rattle.std.proofs.lemmas.List.{replicate-append-replicate}
use Rattle.std.proofs.lemmas.Option.{none-some, same_Some}
use Rattle.link_base.specs.declared.names.SnSize.{SnSize}
use Rattle.link_base.specs.declared.rlc_words.Tag.{Tag}
use Rattle.rlc_status.specs.declared.status.Status.{Status}
use Rattle.rlc_status.specs.Says.{Some_has, NamesNumber}
use Rattle.rlc_model.specs.Tx.{Kept, at, is_unsent, is_pending, HasPending, SomePending, SomeUnsent}
use Rattle.rlc_model.specs.Retransmission.{UpdatesKept, confirmed_tags}
use Rattle.rlc_am_tx.specs.declared.naming.Naming.{Naming}
use Rattle.rlc_am_tx.specs.Acknowledging.{settled, EntersWaiting, EntersOf, MayWait, WaitsOn, Plans, UpdatesAll}
use Rattle.rlc_am_tx.specs.Buffer.{kept_from, IsPending, IsIdle, NonePending, NoneUnsent, IsSdu, IsInOrder, IsIdleList, most_sent, all_sent}
use Rattle.rlc_am_tx.specs.Flags.{is_set, flags_with, counted}
use Rattle.rlc_am_tx.specs.Inside.{IsTidy}
use Rattle.rlc_am_tx.specs.Naming.{named_at, AreNamingsOf}
use Rattle.rlc_am_tx.specs.Pieces.{AreWaiting}
use Rattle.rlc_am_tx.proofs.Flagged.{set_within}
use Rattle.rlc_am_tx.proofs.Marked.{same_lengths}
use Rattle.rlc_am_tx.proofs.Numbers.{kept_below, kept_item, kept_long, more_sent}
use Rattle.rlc_am_tx.proofs.Planned.{item_of}
use Rattle.rlc_am_tx.proofs.Settled.{Settles, absent, received, lacking, settles, its_tags, updates}
use Rattle.rlc_am_tx.proofs.Told.{tags_count}

-- what is behind a STATUS of an SDU: it is confirmed, all its bytes having been sent, or as many were sent as before
pub data Keeps (old new : Option Kept) : Type 0 where
  gone : new ≡ None → is_unsent old ≡ false → Keeps old new
  stays : (k k' : Kept) → old ≡ Some k → new ≡ Some k' → k'.sdu ≡ k.sdu → length k'.flags ≡ length k.flags → Keeps old new

keeps_same : (o new : Option Kept) → new ≡ o → Keeps o new
keeps_same None new is = gone is refl
keeps_same (Some k) new is = stays k k refl is refl refl

pub updates_keeps : (size : SnSize) (threshold ack : ℕ) (s : Status) (n : ℕ) (marks : List ℕ) (old new : Option Kept) → (n < ack → (Some_has (λ e. NamesNumber size ack e n) s.nacks → ⊥) → is_unsent old ≡ false) → UpdatesKept size threshold ack s n marks old new → Keeps old new
updates_keeps size threshold ack s n marks old new sent (UpdatesKept.confirmed k was says is) = gone is (sent says.0 says.1)
updates_keeps size threshold ack s n marks old new sent (UpdatesKept.missing k k' was lt names is b) = stays k k' was is b.sdu b.long
updates_keeps size threshold ack s n marks old new sent (UpdatesKept.rest why is) = keeps_same old new is

keeps_unsent : (old new : Option Kept) → Keeps old new → is_unsent new ≡ is_unsent old
keeps_unsent old new (gone is sent) = ap is_unsent is ∙ sym sent
keeps_unsent old new (stays k k' was is sdu sent) = ap is_unsent is ∙ same_lengths k k' sdu sent ∙ sym (ap is_unsent was)

pub keeps_order : (l l' : List (Option Kept)) (u : ℕ) → IsInOrder l u → length l' ≡ length l → ((n : ℕ) → Keeps (at l n) (at l' n)) → IsInOrder l' u
keeps_order l l' u i long keeps = record {
  sdus = λ n k is. elim (keeps n) [
    | gone none sent ↦ absurd (none-some k (sym none ∙ is))
    | stays j j' was new sdu sent ↦
        let same : j' ≡ k = same_Some j' k (sym new ∙ is) in
        let was_sdu = i.sdus n j was in
        subst IsSdu same (record { some = rw sdu was_sdu.some; long = rw sdu was_sdu.long; sent = rw (sdu, sent) was_sdu.sent })
  ];
  limit = omega (arith, long, i.limit);
  below = λ n lt. keeps_unsent (at l n) (at l' n) (keeps n) ∙ i.below n lt;
  from = λ n ge lt. keeps_unsent (at l n) (at l' n) (keeps n) ∙ i.from n ge (omega (arith, lt, long));
  above = λ n k gt is. elim (keeps n) [
    | gone none sent ↦ absurd (none-some k (sym none ∙ is))
    | stays j j' was new sdu sent ↦ ap (λ (x : Kept). length x.flags) (sym (same_Some j' k (sym new ∙ is))) ∙ sent ∙ i.above n j gt was
  ];
}

kept_count : (base : ℕ) (xs : List (Option Kept)) → count_by is_some (kept_from base xs) ≡ count_by is_some xs
kept_count zero xs = refl
kept_count (suc base) xs = kept_count base xs

-- the first SDUs that are confirmed are taken away
module _ (base r : ℕ) (kept_sdus rest : List (Option Kept)) (kept : replicate r None ++ rest ≡ kept_sdus) where
  pub pop_list : kept_from (base + r) rest ≡ kept_from base kept_sdus
  pop_list = ap (λ (l : List (Option Kept)). l ++ rest) (sym (replicate-append-replicate base r None)) ∙ append_assoc (replicate base None) (replicate r None) rest ∙ ap (λ (l : List (Option Kept)). replicate base None ++ l) kept

  pub pop_tidy : (count u : ℕ) (Waits : ℕ → Type 0) → prefix_len is_none rest ≡ 0 → base + length kept_sdus ≤ 2 ^ 62 → count ≡ count_by is_some kept_sdus → IsInOrder (kept_from base kept_sdus) u → base ≤ u → AreWaiting (kept_from base kept_sdus) base Waits → IsTidy (base + r) rest count u Waits
  pop_tidy count u Waits front small counts order acked waiting =
      let none : (n : ℕ) → n < base + r → at (kept_from base kept_sdus) n ≡ None = λ n lt. ap (λ (l : List (Option Kept)). at l n) (sym pop_list) ∙ kept_below (base + r) rest n lt in
      let long : base + r + length rest ≡ base + length kept_sdus = sym (kept_long (base + r) rest) ∙ ap length pop_list ∙ kept_long base kept_sdus in
      record {
        small = omega (arith, long, small);
        front = front;
        count = counts ∙ sym (kept_count base kept_sdus) ∙ sym (ap (count_by is_some) pop_list) ∙ kept_count (base + r) rest;
        acked = elim (cases_lt u (base + r)) [
          | inl lt ↦ absurd (false≢true (sym (ap is_unsent (none u lt)) ∙ order.from u (omega arith) (omega (arith, lt, long, kept_long base kept_sdus))))
          | inr ge ↦ ge
        ];
        order = subst (λ (l : List (Option Kept)). IsInOrder l u) (sym pop_list) order;
        waiting = subst (λ (l : List (Option Kept)). AreWaiting l (base + r) Waits) (sym pop_list) (record {
          each = λ n p is. elim (waiting.each n p is) [
            | inr waits ↦ inr waits
            | inl eq ↦ elim (cases_lt n (base + r)) [
              | inl lt ↦ absurd (false≢true (sym (ap (λ (o : Option Kept). is_pending o p) (none n lt)) ∙ is))
              | inr ge ↦ inl (omega (arith, ge, eq))
            ]
          ];
          only = waiting.only;
        });
      }

-- an SDU has a pending byte, or none
some_set : (l : List Bool) → ((p : ℕ) × (is_set l p ≡ true)) ⊎ ((p : ℕ) → is_set l p ≡ false)
some_set [] = inr (λ p. refl)
some_set (true ∷ l) = inl (zero, refl)
some_set (false ∷ l) = elim (some_set l) [ inl h ↦ inl (suc h.0, h.1) | inr none ↦ inr (λ p. later l none p) ]
  where
    later : (l : List Bool) → ((p : ℕ) → is_set l p ≡ false) → (p : ℕ) → is_set (false ∷ l) p ≡ false
    later l none zero = refl
    later l none (suc p) = none p

pub pending_or_idle : (o : Option Kept) → IsPending o ⊎ IsIdle o
pending_or_idle None = inr (λ p. refl)
pending_or_idle (Some k) = some_set k.flags

-- the numbers that wait, once those have left that have no pending byte
pub waiting_left : (base count : ℕ) (kept_sdus : List (Option Kept)) (Waits Waits' : ℕ → Type 0) → ((n p : ℕ) → is_pending (at (kept_from base kept_sdus) n) p ≡ true → (n ≡ base) ⊎ Waits n) → ((n : ℕ) → Waits n → (base ≤ n) × (count ≤ n - base → HasPending (kept_from base kept_sdus) n)) → ((n : ℕ) → Waits' n ↔ Waits n × WaitsOn kept_sdus count base n) → AreWaiting (kept_from base kept_sdus) base Waits'
waiting_left base count kept_sdus Waits Waits' each only change = record {
  each = λ n p is. elim (each n p is) [
    | inl eq ↦ inl eq
    | inr waits ↦ inr ((change n).1 (waits, λ i lt n_is. (p, ap (λ (o : Option Kept). is_pending o p) (sym (ap (at (kept_from base kept_sdus)) n_is ∙ item_of base kept_sdus i)) ∙ is)))
  ];
  only = λ n waits.
      let w = (change n).0 waits in
      let o = only n w.0 in
      elim (cases_lt (n - base) count) [
        | inl lt ↦ let back : n ≡ base + (n - base) = omega (arith, o.0) in let h = w.1 (n - base) lt back in (h.0, ap (λ (x : Option Kept). is_pending x h.0) (ap (at (kept_from base kept_sdus)) back ∙ item_of base kept_sdus (n - base)) ∙ h.1)
        | inr ge ↦ o.1 ge
      ];
}

pub pending_from : (base : ℕ) (kept_sdus : List (Option Kept)) (n : ℕ) → HasPending (kept_from base kept_sdus) n → base ≤ n
pending_from base kept_sdus n h = elim (cases_lt n base) [ inl lt ↦ absurd (false≢true (sym (ap (λ (o : Option Kept). is_pending o h.0) (kept_below base kept_sdus n lt)) ∙ h.1)) | inr ge ↦ ge ]

-- a number waits once a STATUS is planned only where a byte of its SDU is pending, or is to become so
pub may_wait : (base count : ℕ) (kept_sdus : List (Option Kept)) (names : List Naming) (Old Mid : ℕ → Type 0) → AreWaiting (kept_from base kept_sdus) base Old → ((n : ℕ) → Mid n → Old n ⊎ EntersOf kept_sdus names count base n) → (i : ℕ) → Mid (base + i) → MayWait (at kept_sdus i) (named_at names i)
may_wait base count kept_sdus names Old Mid w only i waits = elim (only (base + i) waits) [
  | inl old ↦ let h = w.only (base + i) old in inl (h.0, ap (λ (o : Option Kept). is_pending o h.0) (sym (item_of base kept_sdus i)) ∙ h.1)
  | inr e ↦ let same : e.0 ≡ i = omega (arith, e.2) in inr (subst (λ j. EntersWaiting (at kept_sdus j) (named_at names j)) same e.3)
]

-- SDUs that are settled, or stay
module _ (base count : ℕ) (kept_sdus new : List (Option Kept)) (names : List Naming) (Old Mid : ℕ → Type 0) (w : AreWaiting (kept_from base kept_sdus) base Old)
    (kept : (n : ℕ) → Old n → Mid n) (only : (n : ℕ) → Mid n → Old n ⊎ EntersOf kept_sdus names count base n) (rest : (i : ℕ) → count ≤ i → at new i ≡ at kept_sdus i) where
  mid_only : (n : ℕ) → Mid n → (base ≤ n) × (count ≤ n - base → HasPending (kept_from base new) n)
  mid_only n waits = elim (only n waits) [
    | inl old ↦
        let h = w.only n old in
        let ge = pending_from base kept_sdus n h in
        (ge, λ past. (h.0, ap (λ (o : Option Kept). is_pending o h.0) (kept_item base new n ge ∙ rest (n - base) past ∙ sym (kept_item base kept_sdus n ge)) ∙ h.1))
    | inr e ↦ (omega (arith, e.2), λ past. absurd (omega (arith, past, e.1, e.2)))
  ]

  -- where nothing was settled
  pub left_same : (Waits' : ℕ → Type 0) → ((n : ℕ) → Waits' n ↔ Mid n × WaitsOn kept_sdus count base n) → ((i : ℕ) → at new i ≡ at kept_sdus i) → AreWaiting (kept_from base kept_sdus) base Waits'
  left_same Waits' change same = waiting_left base count kept_sdus Mid Waits' (λ n p is. elim (w.each n p is) [ inl eq ↦ inl eq | inr old ↦ inr (kept n old) ])
      (λ n waits. let o = mid_only n waits in (o.0, λ past. let h = o.1 past in (h.0, ap (λ (x : Option Kept). is_pending x h.0) (kept_item base kept_sdus n o.0 ∙ sym (same (n - base)) ∙ sym (kept_item base new n o.0)) ∙ h.1))) change

-- SDUs that are settled
module _ (threshold base count : ℕ) (kept_sdus new : List (Option Kept)) (names : List Naming) (fits : AreNamingsOf kept_sdus names) (Old Mid : ℕ → Type 0) (w : AreWaiting (kept_from base kept_sdus) base Old)
    (enters : (n : ℕ) → EntersOf kept_sdus names count base n → Mid n) (kept : (n : ℕ) → Old n → Mid n) (only : (n : ℕ) → Mid n → Old n ⊎ EntersOf kept_sdus names count base n) (rest : (i : ℕ) → count ≤ i → at new i ≡ at kept_sdus i) where
  -- a byte of it is to become pending where none is
  set_is : (i p : ℕ) (k : Kept) → at kept_sdus i ≡ Some k → at new i ≡ Some (record k { flags = flags_with k (named_at names i).pending; retx_count = counted threshold k.retx_count (is_some (named_at names i).pending) }) → is_pending (at new i) p ≡ true → IsIdle (at kept_sdus i) → (o : Option (List Bool)) → (named_at names i).pending ≡ o → is_some (named_at names i).pending ≡ true
  set_is i p k old some on idle (Some set) e = ap is_some e
  set_is i p k old some on idle None e =
      let flags : is_set (flags_with k (named_at names i).pending) p ≡ true = ap (λ (o : Option Kept). is_pending o p) (sym some) ∙ on in
      let now : is_pending (Some k) p ≡ true = ap (λ (o : Option (List Bool)). is_set (flags_with k o) p) (sym e) ∙ flags in
      absurd (false≢true (sym (idle p) ∙ ap (λ (o : Option Kept). is_pending o p) old ∙ now))

  -- a SDU that was settled, a byte of which is pending
  kept_waits : (i p : ℕ) → i < count → Settles threshold (named_at names i) (at kept_sdus i) (at new i) → is_pending (at new i) p ≡ true → (base + i ≡ base) ⊎ Mid (base + i)
  kept_waits i p lt (absent old none) on = absurd (false≢true (sym (ap (λ (o : Option Kept). is_pending o p) none) ∙ on))
  kept_waits i p lt (received k old named none) on = absurd (false≢true (sym (ap (λ (o : Option Kept). is_pending o p) none) ∙ on))
  kept_waits i p lt (lacking k old named some) on = elim (pending_or_idle (at kept_sdus i)) [
    | inl h ↦ elim (w.each (base + i) h.0 (ap (λ (o : Option Kept). is_pending o h.0) (item_of base kept_sdus i) ∙ h.1)) [ inl eq ↦ inl eq | inr was ↦ inr (kept (base + i) was) ]
    | inr idle ↦ inr (enters (base + i) (i, lt, refl, (named, set_is i p k old some on idle (named_at names i).pending refl, idle)))
  ]

  pub left_settled : (each : (i : ℕ) → i < count → at new i ≡ settled threshold (named_at names i) (at kept_sdus i)) → (Waits' : ℕ → Type 0) → ((n : ℕ) → Waits' n ↔ Mid n × WaitsOn new count base n) → AreWaiting (kept_from base new) base Waits'
  left_settled each Waits' change = waiting_left base count new Mid Waits' (λ n p is.
      let ge = pending_from base new n (p, is) in
      let back : base + (n - base) ≡ n = omega (arith, ge) in
      let on : is_pending (at new (n - base)) p ≡ true = ap (λ (o : Option Kept). is_pending o p) (sym (kept_item base new n ge)) ∙ is in
      elim (cases_lt (n - base) count) [
        | inl lt ↦ elim (kept_waits (n - base) p lt (settles threshold (named_at names (n - base)) (at kept_sdus (n - base)) (at new (n - base)) (each (n - base) lt)) on) [ inl eq ↦ inl (sym back ∙ eq) | inr m ↦ inr (subst Mid back m) ]
        | inr past ↦ elim (w.each n p (ap (λ (o : Option Kept). is_pending o p) (kept_item base kept_sdus n ge ∙ sym (rest (n - base) past)) ∙ on)) [ inl eq ↦ inl eq | inr old ↦ inr (kept n old) ]
      ]) (mid_only base count kept_sdus new names Old Mid w kept only rest) change

-- a buffer whose SDUs are settled
module _ (base : ℕ) (kept_sdus : List (Option Kept)) (size : SnSize) (ack threshold : ℕ) (s : Status) (names : List Naming) (tags : List Tag) (marks : List ℕ) (p : Plans kept_sdus base size ack threshold s names tags marks) (new : List (Option Kept)) (from : base ≤ ack) (enough : ack ≤ base + length names)
    (each : (i : ℕ) → i < ack - base → at new i ≡ settled threshold (named_at names i) (at kept_sdus i)) (rest : (i : ℕ) → ack - base ≤ i → at new i ≡ at kept_sdus i) (long : length new ≡ length kept_sdus)
    (count u : ℕ) (Old Mid New : ℕ → Type 0) (t : IsTidy base kept_sdus count u Old) (enters : (n : ℕ) → EntersOf kept_sdus names (ack - base) base n → Mid n) (kept : (n : ℕ) → Old n → Mid n) (only : (n : ℕ) → Mid n → Old n ⊎ EntersOf kept_sdus names (ack - base) base n) (change : (n : ℕ) → New n ↔ Mid n × WaitsOn new (ack - base) base n) where
  gone_stays : (i : ℕ) → at kept_sdus i ≡ None → at new i ≡ None
  gone_stays i none = elim (cases_lt i (ack - base)) [
    | inl lt ↦ elim (settles threshold (named_at names i) (at kept_sdus i) (at new i) (each i lt)) [
      | absent old is ↦ is
      | received k old named is ↦ is
      | lacking k old named some ↦ absurd (none-some k (sym none ∙ old))
    ]
    | inr ge ↦ rest i ge ∙ none
  ]

  pub counted_tags : count_by is_some new + length tags ≡ count
  counted_tags = ap (λ (l : List Tag). count_by is_some new + length l) (its_tags base kept_sdus size ack threshold s names tags marks p new from enough each rest long) ∙ tags_count kept_sdus new long gone_stays ∙ sym t.count

  pub settled_tidy : ((n : ℕ) → n < ack → (Some_has (λ e. NamesNumber size ack e n) s.nacks → ⊥) → is_unsent (at (kept_from base kept_sdus) n) ≡ false) → (r : ℕ) (left : List (Option Kept)) → replicate r None ++ left ≡ new → prefix_len is_none left ≡ 0 → IsTidy (base + r) left (count - length tags) u New
  settled_tidy sent r left popped front =
      let u_all = updates base kept_sdus size ack threshold s names tags marks p new from enough each rest long in
      pop_tidy base r new left popped (count - length tags) u New front (omega (arith, t.small, long)) (omega (arith, counted_tags))
      (keeps_order (kept_from base kept_sdus) (kept_from base new) u t.order u_all.long (λ n. updates_keeps size threshold ack s n marks (at (kept_from base kept_sdus) n) (at (kept_from base new) n) (sent n) (u_all.each n)))
      t.acked (left_settled threshold base (ack - base) kept_sdus new names p.fits Old Mid t.waiting enters kept only rest each New change)

-- a buffer of which nothing is settled
pub unsettled_tidy : (base count : ℕ) (kept_sdus : List (Option Kept)) (names : List Naming) (unconfirmed u : ℕ) (Old Mid New : ℕ → Type 0) → IsTidy base kept_sdus unconfirmed u Old → ((n : ℕ) → Old n → Mid n) → ((n : ℕ) → Mid n → Old n ⊎ EntersOf kept_sdus names count base n) → ((n : ℕ) → New n ↔ Mid n × WaitsOn kept_sdus count base n) → IsTidy base kept_sdus unconfirmed u New
unsettled_tidy base count kept_sdus names unconfirmed u Old Mid New t kept only change = record {
  small = t.small;
  front = t.front;
  count = t.count;
  acked = t.acked;
  order = t.order;
  waiting = left_same base count kept_sdus kept_sdus names Old Mid t.waiting kept only (λ i ge. refl) New change (λ i. refl);
}

-- what is confirmed stays so, so no fewer are in front
pub prefix_grows : (xs ys : List (Option Kept)) → length ys ≡ length xs → ((n : ℕ) → at xs n ≡ None → at ys n ≡ None) → prefix_len is_none xs ≤ prefix_len is_none ys
prefix_grows [] ys long none = omega arith
prefix_grows (Some k ∷ xs) ys long none = omega arith
prefix_grows (None ∷ xs) [] long none = absurd (omega (arith, long))
prefix_grows (None ∷ xs) (Some j ∷ ys) long none = absurd (none-some j (sym (none zero refl)))
prefix_grows (None ∷ xs) (None ∷ ys) long none = omega (arith, prefix_grows xs ys (omega (arith, long)) (λ n. none (suc n)))

-- where no SDU is confirmed nothing that waited is gone
tags_of : (l l' : List (Option Kept)) (n : ℕ) (k : Kept) → length l' ≡ length l → at l n ≡ Some k → at l' n ≡ None → confirmed_tags l l' ≢ []
tags_of [] l' n k long is none e = none-some k is
tags_of (x ∷ l) [] n k long is none e = omega (arith, long)
tags_of (None ∷ l) (y ∷ l') zero k long is none e = none-some k is
tags_of (Some j ∷ l) (None ∷ l') zero k long is none e = cc
tags_of (Some j ∷ l) (Some y ∷ l') zero k long is none e = none-some y (sym none)
tags_of (None ∷ l) (y ∷ l') (suc n) k long is none e = tags_of l l' n k (omega (arith, long)) is none e
tags_of (Some j ∷ l) (None ∷ l') (suc n) k long is none e = cc
tags_of (Some j ∷ l) (Some y ∷ l') (suc n) k long is none e = tags_of l l' n k (omega (arith, long)) is none e

module _ (size : SnSize) (threshold ack : ℕ) (s : Status) (old : List (Option Kept)) (tags : List Tag) (marks : List ℕ) (new : List (Option Kept)) (u : UpdatesAll size threshold ack s old tags marks new) (none : tags ≡ []) (idle : NonePending new) (all : NoneUnsent new) where
  still_pending : SomePending old → ⊥
  still_pending (n, p, on) = go (u.each n)
    where
      go : UpdatesKept size threshold ack s n marks (at old n) (at new n) → ⊥
      go (UpdatesKept.confirmed k was says is) = tags_of old new n k u.long was is (sym u.its_tags ∙ none)
      go (UpdatesKept.missing k k' was lt names is b) =
          let k_on : is_set k.flags p ≡ true = ap (λ (o : Option Kept). is_pending o p) (sym was) ∙ on in
          false≢true (sym (idle n p) ∙ ap (λ (o : Option Kept). is_pending o p) is ∙ (b.pends p (set_within k.flags p k_on)).1 (inl k_on))
      go (UpdatesKept.rest why is) = false≢true (sym (idle n p) ∙ ap (λ (o : Option Kept). is_pending o p) is ∙ on)

  still_unsent : SomeUnsent old → ⊥
  still_unsent (n, on) = go (u.each n)
    where
      go : UpdatesKept size threshold ack s n marks (at old n) (at new n) → ⊥
      go (UpdatesKept.confirmed k was says is) = tags_of old new n k u.long was is (sym u.its_tags ∙ none)
      go (UpdatesKept.missing k k' was lt names is b) = false≢true (sym (all n) ∙ ap is_unsent is ∙ same_lengths k k' b.sdu b.long ∙ ap is_unsent (sym was) ∙ on)
      go (UpdatesKept.rest why is) = false≢true (sym (all n) ∙ ap is_unsent is ∙ on)

  none_stays : (n : ℕ) → at old n ≡ None → at new n ≡ None
  none_stays n empty = go (u.each n)
    where
      go : UpdatesKept size threshold ack s n marks (at old n) (at new n) → at new n ≡ None
      go (UpdatesKept.confirmed k was says is) = is
      go (UpdatesKept.missing k k' was lt names is b) = absurd (none-some k (sym empty ∙ was))
      go (UpdatesKept.rest why is) = is ∙ empty

  -- so it may become pending that nothing waits
  pub was_idle : prefix_len is_none new < length new → IsIdleList old
  was_idle some = record {
    some = omega (arith, some, u.long, prefix_grows old new u.long none_stays);
    pending = still_pending;
    unsent = still_unsent;
  }

-- there are no tags, or some
pub tags_or : (l : List Tag) → (l ≡ []) ⊎ (l ≢ [])
tags_or [] = inl refl
tags_or (t ∷ l) = inr (λ e. cc)

-- no fewer bytes were sent
pub more_acked : (size : SnSize) (threshold ack : ℕ) (s : Status) (old : List (Option Kept)) (tags : List Tag) (marks : List ℕ) (new : List (Option Kept)) (u : ℕ) → UpdatesAll size threshold ack s old tags marks new → IsInOrder old u → all_sent old ≤ all_sent new
more_acked size threshold ack s old tags marks new u all i = more_sent old new all.long (λ n lt. go n (all.each n))
  where
    go : (n : ℕ) → UpdatesKept size threshold ack s n marks (at old n) (at new n) → most_sent (at old n) ≤ most_sent (at new n)
    go n (UpdatesKept.confirmed k was says is) = let d = i.sdus n k was in omega (arith, ap most_sent was, ap most_sent is, d.sent, d.long)
    go n (UpdatesKept.missing k k' was lt names is b) = omega (arith, ap most_sent was, ap most_sent is, b.long)
    go n (UpdatesKept.rest why is) = omega (arith, ap most_sent is)
