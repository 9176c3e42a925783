-- The totals of a hop under a change.
use Rattle.std.proofs.Common.{◌≡◌, ◌⊎◌, inl, inr, ℕ, ◌+◌, ◌<◌, ◌≤◌, Bool, true, false, cond, not, nat_lt, ◌&&◌, ◌||◌, Option, None, refl, sym, ◌∙◌, ap, arith}
use Rattle.std.specs.Option.{is_none, is_some}
use Rattle.std.proofs.lemmas.Bool.{cases_Bool, false≢true, and_parts, or_left, or_right, not-true}
use Rattle.std.proofs.lemmas.List.Sums.{prefix_len_is, prefix_len_passes}
use Rattle.rlc_model.specs.Tx.{Tx, Kept, kept_at, tx_next, tx_next_ack, is_pending, unconfirmed}
use Rattle.rlc_model.specs.Rx.{Rx, Got, got, is_done}
use Rattle.rlc_rest.specs.Rest.{one_if, count_below, sum_below, sdu_len, is_sent_at, lacks, waits_at, total, pendings, forgotten, useful, distance, scale, minor}
use Rattle.rlc_law.proofs.Base.{next_ack_le, at_next_ack}
use Rattle.rlc_rest.proofs.Sums.{count_sum, count_le, count_two, count_some, some_count, sum_le, sum_lt, sum_one, sum_some, some_sum, sum_two, sum_both, count_both}

-- a test of a place of an SDU
abbrev pub Test : Type 0
Test = Option Kept → Got → ℕ → Bool

-- of a number that is kept, what passes after the change passed before it
abbrev pub Narrows : Test → Test → Tx → Rx → Tx → Rx → ℕ → Type 0
Narrows f g t r t' r' n = (kept_at t' n ≡ None) ⊎ ((sdu_len (kept_at t' n) ≡ sdu_len (kept_at t n)) × ((p : ℕ) → p < sdu_len (kept_at t n) → f (kept_at t' n) (got r' n) p ≡ true → g (kept_at t n) (got r n) p ≡ true))

-- how many places of a number pass
abbrev pub counted : Test → Tx → Rx → ℕ → ℕ
counted f t r n = count_below (f (kept_at t n) (got r n)) (sdu_len (kept_at t n))

-- of a confirmed number none does
pub counted_none : (f : Test) (t : Tx) (r : Rx) (n : ℕ) → kept_at t n ≡ None → counted f t r n ≡ 0
counted_none f t r n e = ap (λ (o : Option Kept). count_below (f o (got r n)) (sdu_len o)) e

-- where it narrows no more pass
pub counted_le : (f g : Test) (t : Tx) (r : Rx) (t' : Tx) (r' : Rx) (n : ℕ) → Narrows f g t r t' r' n → counted f t' r' n ≤ counted g t r n
counted_le f g t r t' r' n (inl e) = omega (arith, counted_none f t' r' n e)
counted_le f g t r t' r' n (inr h) =
    omega (arith, ap (λ (k : ℕ). count_below (f (kept_at t' n) (got r' n)) k) h.0, count_le (f (kept_at t' n) (got r' n)) (g (kept_at t n) (got r n)) (sdu_len (kept_at t n)) h.1)

module _ (f g : Test) (t : Tx) (r : Rx) (t' : Tx) (r' : Rx) (long : tx_next t' ≡ tx_next t) where
  -- a total by the numbers given before
  to_old : total f t' r' ≡ sum_below (counted f t' r') (tx_next t)
  to_old = ap (λ (k : ℕ). sum_below (counted f t' r') k) long

  -- a total that narrows at each number is no more
  pub total_le : ((n : ℕ) → n < tx_next t → Narrows f g t r t' r' n) → total f t' r' ≤ total g t r
  total_le each = omega (arith, to_old, sum_le (counted f t' r') (counted g t r) (tx_next t) (λ n lt. counted_le f g t r t' r' n (each n lt)))

  -- and less where one number has fewer
  pub total_lt : (m : ℕ) → m < tx_next t → ((n : ℕ) → n < tx_next t → Narrows f g t r t' r' n) → counted f t' r' m < counted g t r m → total f t' r' < total g t r
  total_lt m lt each less = omega (arith, to_old, sum_lt (counted f t' r') (counted g t r) (tx_next t) m (λ n ln. counted_le f g t r t' r' n (each n ln)) lt less)

  -- at most c more where one number has up to c
  pub total_one : (m c : ℕ) → ((n : ℕ) → n < tx_next t → (n ≡ m → ⊥) → Narrows f g t r t' r' n) → counted f t' r' m ≤ c → total f t' r' ≤ total g t r + c
  total_one m c each one = omega (arith, to_old, sum_one (counted f t' r') (counted g t r) (tx_next t) m c (λ n ln ne. counted_le f g t r t' r' n (each n ln ne)) (omega arith))

-- so is that of a test that implies another
pub total_le_same : (f g : Test) (t : Tx) (r : Rx) → ((o : Option Kept) (x : Got) (p : ℕ) → f o x p ≡ true → g o x p ≡ true) → total f t r ≤ total g t r
total_le_same f g t r h = total_le f g t r t r refl (λ n lt. inr (refl, λ p lp. h (kept_at t n) (got r n) p))

-- a place that passes, and a total that isn't 0
pub total_some : (f : Test) (t : Tx) (r : Rx) (n p : ℕ) → n < tx_next t → p < sdu_len (kept_at t n) → f (kept_at t n) (got r n) p ≡ true → 0 < total f t r
total_some f t r n p ln lp is = sum_some (counted f t r) (tx_next t) n ln (count_some (f (kept_at t n) (got r n)) (sdu_len (kept_at t n)) p lp is)

-- and the other way
pub some_total : (f : Test) (t : Tx) (r : Rx) → 0 < total f t r → (n : ℕ) × (p : ℕ) × (n < tx_next t) × (p < sdu_len (kept_at t n)) × (f (kept_at t n) (got r n) p ≡ true)
some_total f t r some =
    let n = some_sum (counted f t r) (tx_next t) some in
    let p = some_count (f (kept_at t n.0) (got r n.0)) (sdu_len (kept_at t n.0)) n.2 in
    (n.0, p.0, n.1, p.1, p.2)

-- how many SDUs are unconfirmed, by their numbers
pub unconfirmed_sum : (t : Tx) → unconfirmed t ≡ sum_below (λ n. one_if (is_some (kept_at t n))) (tx_next t)
unconfirmed_sum t = count_sum is_some None t.kept

-- the lowest unconfirmed number is the same where the same numbers are confirmed
pub same_ack : (t t' : Tx) → tx_next t' ≡ tx_next t → ((n : ℕ) → n < tx_next t → is_none (kept_at t' n) ≡ is_none (kept_at t n)) → tx_next_ack t' ≡ tx_next_ack t
same_ack t t' long same = prefix_len_is is_none t'.kept (tx_next_ack t) None
    (omega (arith, long, next_ack_le t))
    (λ k lt. same k (omega (arith, next_ack_le t)) ∙ prefix_len_passes is_none t.kept k None lt)
    (λ lt. let k = at_next_ack t (omega (arith, long)) in same (tx_next_ack t) (omega (arith, long)) ∙ ap is_none k.1)

-- pending, or forgotten: never both
pub waits-pending : (o : Option Kept) (p : ℕ) → is_pending o p ≡ true → waits_at o p ≡ true
waits-pending o p e = or_left (is_pending o p) (not (is_sent_at o p)) e

-- what is pending isn't forgotten
pub not_forgotten : (o : Option Kept) (x : Got) (p : ℕ) → is_pending o p ≡ true → (lacks x p && not (waits_at o p)) ≡ false
not_forgotten o x p e = elim (cases_Bool (lacks x p && not (waits_at o p))) [
  | inl both ↦ absurd (false≢true (sym (not-true (waits_at o p) (and_parts (lacks x p) (not (waits_at o p)) both).1) ∙ waits-pending o p e))
  | inr fine ↦ fine
]

-- pendings and forgotten together are at most all bytes
pub small_minor : (t : Tx) (r : Rx) → distance t r ≤ 3 → minor t r < scale t r
small_minor t r low = omega (arith, total_le_same (λ o x p. is_pending o p) (λ o x p. true) t r (λ o x p e. refl), total_le_same (λ o x p. lacks x p && not (waits_at o p)) (λ o x p. true) t r (λ o x p e. refl), bit_le r.status_triggered, bit_le' r.status_prohibit_runs)
  where
    bit_le : (b : Bool) → cond b 2 0 ≤ 2
    bit_le true = omega arith
    bit_le false = omega arith

    bit_le' : (b : Bool) → cond b 1 0 ≤ 1
    bit_le' true = omega arith
    bit_le' false = omega arith

-- the stage is at most 3
pub stage_le : (t : Tx) (r : Rx) → distance t r ≤ 3
stage_le t r = go (nat_lt 0 (useful t r) || (r.status_triggered && is_done (got r (tx_next_ack t)))) t.poll_owed (is_done (got r (tx_next_ack t)))
  where
    go : (a b c : Bool) → cond a 0 (cond b (cond c 1 3) 2) ≤ 3
    go true b c = omega arith
    go false true true = omega arith
    go false true false = omega arith
    go false false c = omega arith

-- pending or forgotten
abbrev pub open_at : Option Kept → Got → ℕ → Bool
open_at o x p = is_pending o p || (lacks x p && not (waits_at o p))

-- as many are pending or forgotten as are pending and as are forgotten
pub open_parts : (t : Tx) (r : Rx) → total open_at t r ≤ pendings t r + forgotten t r
open_parts t r = sum_both (counted (λ o x p. is_pending o p) t r) (counted (λ o x p. lacks x p && not (waits_at o p)) t r) (counted open_at t r) (tx_next t)
    (λ n lt. count_both (is_pending (kept_at t n)) (λ p. lacks (got r n) p && not (waits_at (kept_at t n) p)) (sdu_len (kept_at t n)))

pub parts_open : (t : Tx) (r : Rx) → pendings t r + forgotten t r ≤ total open_at t r
parts_open t r = sum_two (counted (λ o x p. is_pending o p) t r) (counted (λ o x p. lacks x p && not (waits_at o p)) t r) (counted open_at t r) (tx_next t)
    (λ n lt. count_two (is_pending (kept_at t n)) (λ p. lacks (got r n) p && not (waits_at (kept_at t n) p)) (open_at (kept_at t n) (got r n)) (sdu_len (kept_at t n))
    (λ p lp e. or_left (is_pending (kept_at t n) p) (lacks (got r n) p && not (waits_at (kept_at t n) p)) e)
    (λ p lp e. or_right (is_pending (kept_at t n) p) (lacks (got r n) p && not (waits_at (kept_at t n) p)) e)
    (λ p lp e. not_forgotten (kept_at t n) (got r n) p e))
