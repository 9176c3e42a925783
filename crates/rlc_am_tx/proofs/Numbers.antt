-- The SDU of each number, as a buffer keeps it.
use Rattle.std.proofs.Common.{◌≡◌, inl, inr, ℕ, zero, suc, ◌+◌, ◌-◌, ◌<◌, ◌≤◌, List, [], ◌∷◌, length, replicate, Option, Some, None, refl, sym, ◌∙◌, ap, subst, arith, length-append}
use Rattle.std.specs.Option.{is_none}
use Rattle.std.specs.List.{prefix_len}
use Rattle.std.proofs.lemmas.Bool.{cases_lt, false≢true}
use Rattle.std.proofs.lemmas.List.{length-replicate, get_or_past, get_or_append_left, get_or-append_right, get_or-replicate}
use Rattle.std.proofs.lemmas.Option.{none-some}
use Rattle.rlc_model.specs.Tx.{Kept, at}
use Rattle.std.proofs.lemmas.List.Sums.{sum_by-cons}
use Rattle.rlc_am_tx.specs.Buffer.{kept_from, most_sent, all_sent}

-- a number without an SDU
abbrev none : Option Kept
none = None

pub kept_long : (base : ℕ) (kept_sdus : List (Option Kept)) → length (kept_from base kept_sdus) ≡ base + length kept_sdus
kept_long base kept_sdus = simp (length-append, length-replicate)

-- TX_Next_Ack
pub kept_front : (base : ℕ) (kept_sdus : List (Option Kept)) → prefix_len is_none kept_sdus ≡ 0 → prefix_len is_none (kept_from base kept_sdus) ≡ base
kept_front zero kept_sdus front = front
kept_front (suc base) kept_sdus front = omega (arith, kept_front base kept_sdus front)

-- numbers below the first SDU are confirmed
pub kept_below : (base : ℕ) (kept_sdus : List (Option Kept)) (n : ℕ) → n < base → at (kept_from base kept_sdus) n ≡ None
kept_below base kept_sdus n lt = get_or_append_left (replicate base None) kept_sdus None n (subst (λ m. n < m) (sym (length-replicate base none)) lt) ∙ get_or-replicate base n none none lt

-- and each other one has a SDU
pub kept_item : (base : ℕ) (kept_sdus : List (Option Kept)) (n : ℕ) → base ≤ n → at (kept_from base kept_sdus) n ≡ at kept_sdus (n - base)
kept_item base kept_sdus n le = get_or-append_right (replicate base None) kept_sdus base n None (length-replicate base None) le

pub not_none : (l : List (Option Kept)) (n : ℕ) → (at l n ≡ None → ⊥) → (k : Kept) × (at l n ≡ Some k)
not_none l n h = go (at l n) refl
  where
    go : (o : Option Kept) → at l n ≡ o → (k : Kept) × (at l n ≡ Some k)
    go None e = absurd (h e)
    go (Some k) e = (k, e)

pub given : (l : List (Option Kept)) (n : ℕ) (k : Kept) → at l n ≡ Some k → n < length l
given l n k is = elim (cases_lt n (length l)) [
  | inl lt ↦ lt
  | inr le ↦ absurd (none-some k (sym (get_or_past l n None le) ∙ is))
]

-- two lists with SDUs in the same places have as many confirmed numbers in front
pub same_front : (xs ys : List (Option Kept)) → length xs ≡ length ys → ((n : ℕ) → is_none (at xs n) ≡ is_none (at ys n)) → prefix_len is_none xs ≡ prefix_len is_none ys
same_front [] [] long same = refl
same_front [] (y ∷ ys) long same = absurd (omega (arith, long))
same_front (x ∷ xs) [] long same = absurd (omega (arith, long))
same_front (None ∷ xs) (None ∷ ys) long same = ap {B = ℕ} (λ n. 1 + n) (same_front xs ys (omega (arith, long)) (λ n. same (suc n)))
same_front (None ∷ xs) (Some y ∷ ys) long same = absurd (false≢true (sym (same zero)))
same_front (Some x ∷ xs) (None ∷ ys) long same = absurd (false≢true (same zero))
same_front (Some x ∷ xs) (Some y ∷ ys) long same = refl

-- more bytes were sent where of each SDU more were
pub more_sent : (l l' : List (Option Kept)) → length l' ≡ length l → ((n : ℕ) → n < length l → most_sent (at l n) ≤ most_sent (at l' n)) → all_sent l ≤ all_sent l'
more_sent [] [] long each = omega arith
more_sent [] (y ∷ l') long each = omega arith
more_sent (x ∷ l) [] long each = absurd (omega (arith, long))
more_sent (x ∷ l) (y ∷ l') long each = omega (arith, sum_by-cons most_sent x l, sum_by-cons most_sent y l', each zero (omega arith), more_sent l l' (omega (arith, long)) (λ n lt. each (suc n) (omega (arith, lt))))
