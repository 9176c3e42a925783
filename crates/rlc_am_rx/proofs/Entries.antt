-- What is got of each number, from the entries.
use Rattle.std.proofs.Common.{◌≡◌, ◌≢◌, inl, inr, ℕ, zero, suc, ◌+◌, ◌-◌, ◌<◌, ◌≤◌, max, false, List, [], ◌∷◌, ◌++◌, length, map, take, drop, replicate, get_or, set, Option, None, refl, sym, ◌∙◌, ap, arith}
use Rattle.std.specs.List.{prefix_len}
use Rattle.std.proofs.lemmas.Bool.{cases_lt, cond-false, true≢false}
use Rattle.std.proofs.lemmas.List.{ext_get_or, length-append, length-replicate, length-map, length-take-le}
use Rattle.rlc_model.specs.Rx.{Got, is_done}
use Rattle.rlc_model.specs.Rx.Got.{Done, Part}
use Rattle.rlc_am_rx.specs.declared.reassembly.Entry.{Entry}
use Rattle.rlc_am_rx.specs.Reassembly.{got_of, got_at}
use Rattle.rlc_am_rx.specs.Receiver.{received_of, EntriesFit}

pub part_not_done : {held : List (Option ℕ)} {len : Option ℕ} → Part held len ≡ Done → ⊥
part_not_done is = true≢false (sym (ap is_done is))

-- behind the first
pub got_drop : (xs : List Entry) (i : ℕ) → got_at (drop 1 xs) i ≡ got_at xs (suc i)
got_drop [] i = refl
got_drop (x ∷ xs) i = refl

-- a list whose first is complete has a first
pub drop_long : (xs : List Entry) → got_at xs 0 ≡ Done → length (drop 1 xs) + 1 ≡ length xs
drop_long [] is = absurd (true≢false (sym (ap is_done is)))
drop_long (x ∷ xs) is = omega arith

-- one more complete place, behind as many that are
pub done_more : (xs ys : List Entry) (count : ℕ) → ((i : ℕ) → i < count → got_at xs i ≡ Done)
    → ((i : ℕ) → got_at ys i ≡ got_at xs (count + i)) → got_at ys 0 ≡ Done → (i : ℕ) → i < count + 1 → got_at xs i ≡ Done
done_more xs ys count done rest first i lt = elim
    (cases_lt i count) [ inl below ↦ done i below | inr above ↦ ap (got_at xs) (omega arith) ∙ sym (rest 0) ∙ first ]

pub rest_more : (xs ys : List Entry) (count : ℕ) → ((i : ℕ) → got_at ys i ≡ got_at xs (count + i)) → (i : ℕ)
    → got_at (drop 1 ys) i ≡ got_at xs (count + 1 + i)
rest_more xs ys count rest i = got_drop ys i ∙ rest (suc i) ∙ ap (got_at xs) (omega arith)

not_done : (g : Got) → g ≢ Done → is_done g ≡ false
not_done Done ne = absurd (ne refl)
not_done (Part held len) ne = refl

-- a list whose first isn't complete begins with no complete one
front_zero : (k : ℕ) (xs : List Entry) → got_at xs 0 ≢ Done → prefix_len is_done (take k (map got_of xs)) ≡ 0
front_zero zero xs ne = refl
front_zero (suc k) [] ne = refl
front_zero (suc k) (x ∷ xs) ne = cond-false (is_done (got_of x)) _ _ (not_done (got_of x) ne)

front_replicate : (n : ℕ) (xs : List Got) → prefix_len is_done xs ≡ 0 → prefix_len is_done (replicate n Done ++ xs) ≡ n
front_replicate zero xs h = h
front_replicate (suc n) xs h = omega (arith, front_replicate n xs h)

-- RX_Next
pub next_is : (next highest : ℕ) (xs : List Entry) → got_at xs 0 ≢ Done → prefix_len is_done (received_of next highest xs) ≡ next
next_is next highest xs ne = front_replicate next (take (highest - next) (map got_of xs)) (front_zero (highest - next) xs ne)

-- RX_Next_Highest
pub highest_is : (next highest : ℕ) (xs : List Entry) → next ≤ highest → highest ≤ next + length xs
    → length (received_of next highest xs) ≡ highest
highest_is next highest xs order long =
    let all : length (map got_of xs) ≡ length xs = length-map xs got_of in
    let some : length (take (highest - next) (map got_of xs)) ≡ highest - next = length-take-le (highest - next)
    (map got_of xs) (omega (arith, all, long)) in
    length-append (replicate next Done) (take (highest - next) (map got_of xs))
    ∙ omega (arith, order, some, length-replicate next Done)

-- what is got of each place, after one entry is replaced
pub got_here : (xs : List Entry) (at : ℕ) (e : Entry) → at < length xs → e ≡ get_or xs at e → got_at xs at ≡ got_of e
got_here [] at e lt is = absurd (omega (arith, lt))
got_here (x ∷ xs) zero e lt is = ap got_of (sym is)
got_here (x ∷ xs) (suc at) e lt is = got_here xs at e (omega (arith, lt)) is

pub got_this : (xs : List Entry) (at : ℕ) (e : Entry) → at < length xs → got_at (set xs at e) at ≡ got_of e
got_this [] at e lt = absurd (omega (arith, lt))
got_this (x ∷ xs) zero e lt = refl
got_this (x ∷ xs) (suc at) e lt = got_this xs at e (omega (arith, lt))

pub got_other : (xs : List Entry) (at : ℕ) (e : Entry) (i : ℕ) → i ≢ at → got_at (set xs at e) i ≡ got_at xs i
got_other [] at e i ne = refl
got_other (x ∷ xs) zero e zero ne = absurd (ne refl)
got_other (x ∷ xs) zero e (suc i) ne = refl
got_other (x ∷ xs) (suc at) e zero ne = refl
got_other (x ∷ xs) (suc at) e (suc i) ne = got_other xs at e i (λ same. ne (omega (arith, same)))

-- what is got of a number from RX_Next on
pub got_is : (next highest : ℕ) (xs : List Entry) → ((i : ℕ) → highest ≤ next + i → got_at xs i ≡ Part [] None) → (n : ℕ) → next ≤ n
    → get_or (received_of next highest xs) n (Part [] None) ≡ got_at xs (n - next)
got_is next highest xs spare n le = behind next n (take (highest - next) (map got_of xs)) le
    ∙ cut (highest - next) (map got_of xs) (n - next) (λ ge. spare (n - next) (omega arith))
  where
    behind : (k i : ℕ) (ys : List Got) → k ≤ i → get_or (replicate k Done ++ ys) i (Part [] None) ≡ get_or ys (i - k) (Part [] None)
    behind zero i ys le = ap (λ (k : ℕ). get_or ys k (Part [] None)) (omega arith)
    behind (suc k) zero ys le = absurd (omega (arith, le))
    behind (suc k) (suc i) ys le = behind k i ys (omega (arith, le)) ∙ ap (λ (j : ℕ). get_or ys j (Part [] None)) (omega arith)

    cut : (k : ℕ) (ys : List Got) (i : ℕ) → (k ≤ i → get_or ys i (Part [] None) ≡ Part [] None)
        → get_or (take k ys) i (Part [] None) ≡ get_or ys i (Part [] None)
    cut zero ys i none = sym (none (omega arith))
    cut (suc k) [] i none = refl
    cut (suc k) (y ∷ ys) zero none = refl
    cut (suc k) (y ∷ ys) (suc i) none = cut k ys i (λ ge. none (omega (arith, ge)))

-- behind the list nothing is got
pub got_behind : (xs : List Entry) (at : ℕ) → length xs ≤ at → got_at xs at ≡ Part [] None
got_behind [] at le = refl
got_behind (x ∷ xs) zero le = absurd (omega (arith, le))
got_behind (x ∷ xs) (suc at) le = got_behind xs at (omega (arith, le))

-- a number below the first entry is complete
pub got_low : (next highest : ℕ) (xs : List Entry) (n : ℕ) → n < next → get_or (received_of next highest xs) n (Part [] None) ≡ Done
got_low next highest xs n lt = within next n (take (highest - next) (map got_of xs)) lt
  where
    within : (k i : ℕ) (ys : List Got) → i < k → get_or (replicate k Done ++ ys) i (Part [] None) ≡ Done
    within zero i ys lt = absurd (omega (arith, lt))
    within (suc k) zero ys lt = refl
    within (suc k) (suc i) ys lt = within k i ys (omega (arith, lt))

-- what is read of each number decides the list
pub same_received : (next other highest : ℕ) (xs ys : List Entry) → EntriesFit next highest xs → EntriesFit other highest ys
    → ((n : ℕ) → get_or (received_of other highest ys) n (Part [] None) ≡ get_or (received_of next highest xs) n (Part [] None))
    → received_of other highest ys ≡ received_of next highest xs
same_received next other highest xs ys f g same = ext_get_or (Part [] None) _ _
    (highest_is other highest ys g.order g.long ∙ sym (highest_is next highest xs f.order f.long)) (λ i lt. same i)

-- entries of which the same is got
pub got_same : (next highest : ℕ) (xs ys : List Entry) → EntriesFit next highest xs → EntriesFit next highest ys
    → ((i : ℕ) → got_at ys i ≡ got_at xs i) → received_of next highest ys ≡ received_of next highest xs
got_same next highest xs ys f g same = same_received next next highest xs ys f g (λ n. elim (cases_lt n next) [
  | inl low ↦ got_low next highest ys n low ∙ sym (got_low next highest xs n low)
  | inr from ↦ got_is next highest ys g.spare n from ∙ same (n - next) ∙ sym (got_is next highest xs f.spare n from)
])

pub fits_same : (next highest : ℕ) (xs ys : List Entry) → EntriesFit next highest xs → length xs ≤ length ys
    → ((i : ℕ) → got_at ys i ≡ got_at xs i) → EntriesFit next highest ys
fits_same next highest xs ys f long same = record {
  order = f.order;
  long = omega (arith, long, f.long);
  spare = λ i ge. same i ∙ f.spare i ge;
}

module _ (next highest count : ℕ) (xs ys : List Entry) (f : EntriesFit next highest xs)
    (done : (i : ℕ) → i < count → got_at xs i ≡ Done) where
  -- only numbers below RX_Next_Highest are complete
  pub popped_within : next + count ≤ highest
  popped_within = elim (cases_lt (highest - next) count) [
    | inl lt ↦ absurd (part_not_done (sym (f.spare (highest - next) (omega (arith, f.order))) ∙ done (highest - next) lt))
    | inr ge ↦ omega (arith, ge, f.order)
  ]

  pub popped_fits : length ys + count ≡ length xs → ((i : ℕ) → got_at ys i ≡ got_at xs (count + i)) → EntriesFit (next + count) highest ys
  popped_fits long rest = record {
    order = popped_within;
    long = omega (arith, long, f.long);
    spare = λ i ge. rest i ∙ f.spare (count + i) (omega (arith, ge));
  }

  -- without the complete entries at the front the same is got
  pub popped_same : length ys + count ≡ length xs → ((i : ℕ) → got_at ys i ≡ got_at xs (count + i))
      → received_of (next + count) highest ys ≡ received_of next highest xs
  popped_same long rest = same_received next (next + count) highest xs ys f (popped_fits long rest) (λ n. elim (cases_lt n next) [
    | inl low ↦ got_low (next + count) highest ys n (omega (arith, low)) ∙ sym (got_low next highest xs n low)
    | inr from ↦ elim (cases_lt n (next + count)) [
      | inl popped ↦ got_low (next + count) highest ys n popped
          ∙ sym (got_is next highest xs f.spare n from ∙ done (n - next) (omega (arith, from, popped)))
      | inr kept ↦ got_is (next + count) highest ys (popped_fits long rest).spare n kept ∙ rest (n - (next + count))
          ∙ ap (got_at xs) (omega (arith, kept)) ∙ sym (got_is next highest xs f.spare n from)
    ]
  ])

-- the entry of the number n is replaced
pub record Replaces (next highest top n : ℕ) (xs ys : List Entry) : Type 0 where
  pub fits : EntriesFit next top ys
  pub this : get_or (received_of next top ys) n (Part [] None) ≡ got_at ys (n - next)
  pub others : (m : ℕ) → m ≢ n → get_or (received_of next top ys) m (Part [] None) ≡ get_or (received_of next highest xs) m (Part [] None)

pub replaced : (next highest top n : ℕ) (xs ys : List Entry) → EntriesFit next highest xs → top ≡ max highest (n + 1) → next ≤ n
    → n - next < length xs
    → length ys ≡ length xs → ((i : ℕ) → i ≢ n - next → got_at ys i ≡ got_at xs i) → Replaces next highest top n xs ys
replaced next highest top n xs ys f is_top from within same_long others = record { fits = fits; this = got_is next top ys fits.spare n from; others = rest }
  where
    fits : EntriesFit next top ys
    fits = record {
      order = omega (arith, f.order, is_top);
      long = omega (arith, f.long, within, same_long, is_top);
      spare = λ i ge. others i (λ here. omega (arith, ge, here, from, is_top)) ∙ f.spare i (omega (arith, ge, is_top));
    }

    rest : (m : ℕ) → m ≢ n → get_or (received_of next top ys) m (Part [] None) ≡ get_or (received_of next highest xs) m (Part [] None)
    rest m ne = elim (cases_lt m next) [
      | inl low ↦ got_low next top ys m low ∙ sym (got_low next highest xs m low)
      | inr above ↦
          got_is next top ys fits.spare m above ∙ others (m - next) (λ e. ne (omega (arith, e, above, from)))
          ∙ sym (got_is next highest xs f.spare m above)
    ]
