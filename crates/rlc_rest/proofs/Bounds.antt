-- How much can be left.
use Rattle.std.proofs.Common.{◌≡◌, inl, inr, ℕ, zero, suc, ◌+◌, ◌-◌, ◌*◌, ◌<◌, ◌≤◌, Bool, true, false, List, length, Option, Some, None, refl, ap, arith}
use Rattle.std.specs.Option.{is_some}
use Rattle.std.proofs.lemmas.Bool.{cases_lt}
use Rattle.link_base.specs.declared.names.SnSize.{SnSize}
use Rattle.link_base.specs.declared.names.SnSize.TheVariants.{S12, S18}
use Rattle.link_base.specs.SequenceNumbers.{window}
use Rattle.rlc_model.specs.Tx.{Tx, Kept, kept_at, tx_next, tx_next_ack, unconfirmed}
use Rattle.rlc_law.specs.Hop.{Hop, Reaches}
use Rattle.rlc_law.proofs.Base.{at_next_ack, below_next_ack, kept_below}
use Rattle.rlc_law.proofs.Inductive.{reaches_inv}
use Rattle.rlc_law.proofs.Invariant.{Invariant}
use Rattle.rlc_rest.specs.Rest.{one_if, count_below, sum_below, sdu_len, lacks, missing, bytes, major, scale, minor, RestBounded}
use Rattle.rlc_rest.proofs.Sums.{count_all, some_sum, major_falls}
use Rattle.rlc_rest.proofs.Totals.{counted, total_le_same, unconfirmed_sum, small_minor, stage_le}

-- a sum of numbers up to c, which are 0 below a
sum_within : (f : ℕ → ℕ) (a c b : ℕ) → ((n : ℕ) → n < a → f n ≡ 0) → ((n : ℕ) → n < b → f n ≤ c) → sum_below f b ≤ c * (b - a)
sum_within f a c zero none small = omega arith
sum_within f a c (suc k) none small = elim (cases_lt k a) [
  | inl low ↦
      let same : suc k - a ≡ k - a = omega (arith, low) in
      omega (arith, none k low, sum_within f a c k none (λ n lt. small n (omega (arith, lt))), ap (λ (m : ℕ). c * m) same)
  | inr high ↦
      let more : suc k - a ≡ (k - a) + 1 = omega (arith, high) in
      omega (arith, small k (omega arith), sum_within f a c k none (λ n lt. small n (omega (arith, lt))), ap (λ (m : ℕ). c * m) more)
]

-- an SDU is unconfirmed, where some are
pub some_unconfirmed : (t : Tx) → 0 < unconfirmed t → tx_next_ack t < tx_next t
some_unconfirmed t some =
    let m = some_sum (λ n. one_if (is_some (kept_at t n))) (tx_next t) (omega (arith, some, unconfirmed_sum t)) in
    elim (cases_lt (tx_next_ack t) (tx_next t)) [
      | inl lt ↦ lt
      | inr all ↦ absurd (omega (arith, m.2, ap {B = ℕ} (λ (o : Option Kept). one_if (is_some o)) (below_next_ack t m.0 (omega (arith, m.1, all)))))
    ]

module _ (h : Hop) (run : Reaches h) where
  inv : Invariant h
  inv = reaches_inv h run

  -- the unconfirmed numbers lie in a window
  span : tx_next h.tx - tx_next_ack h.tx ≤ 131072
  span = elim (cases_lt (tx_next_ack h.tx) (tx_next h.tx)) [
    | inl lt ↦ let k = at_next_ack h.tx lt in omega (arith, inv.tx.within (tx_next_ack h.tx) k.0 k.1, wide h.tx.size)
    | inr le ↦ omega (arith, le)
  ]
    where
      wide : (size : SnSize) → window size ≤ 131072
      wide S12 = omega arith
      wide S18 = omega arith

  few : unconfirmed h.tx ≤ 131072
  few = omega (arith, unconfirmed_sum h.tx, sum_within (λ n. one_if (is_some (kept_at h.tx n))) (tx_next_ack h.tx) 1 (tx_next h.tx) (λ n lt. ap (λ (o : Option Kept). one_if (is_some o)) (below_next_ack h.tx n lt)) (λ n lt. one (is_some (kept_at h.tx n))), span)
    where
      one : (b : Bool) → one_if b ≤ 1
      one true = omega arith
      one false = omega arith

  -- an SDU that is kept has at most 9,005 bytes
  short : (n : ℕ) → sdu_len (kept_at h.tx n) ≤ 9005
  short n = go (kept_at h.tx n) refl
    where
      go : (o : Option Kept) → kept_at h.tx n ≡ o → sdu_len o ≤ 9005
      go None is = omega arith
      go (Some k) is = omega (arith, ap (λ (sdu : List ℕ). length sdu) (inv.tx.sdu n k is), (inv.sdus n (omega (arith, inv.tx.long, kept_below h.tx n k is))).1)

  bytes_few : bytes h.tx h.rx ≤ 9005 * 131072
  bytes_few = omega (
    arith,
    sum_within (counted (λ o g p. true) h.tx h.rx) (tx_next_ack h.tx) 9005 (tx_next h.tx)
        (λ n lt. ap (λ (o : Option Kept). count_below (λ p. true) (sdu_len o)) (below_next_ack h.tx n lt))
        (λ n lt. omega (arith, count_all (λ p. true) (sdu_len (kept_at h.tx n)), short n)),
    span,
  )

  missing_few : missing h.tx h.rx ≤ bytes h.tx h.rx
  missing_few = total_le_same (λ o g p. lacks g p) (λ o g p. true) h.tx h.rx (λ o g p e. refl)

pub rest_bounded : RestBounded
rest_bounded h run =
    let most = major_falls 1180434433 (major h.tx h.rx) 14166786052 (scale h.tx h.rx) 0 (minor h.tx h.rx)
    (omega (arith, few h run, bytes_few h run, missing_few h run)) (omega (arith, bytes_few h run)) (small_minor h.tx h.rx (stage_le h.tx h.rx)) in
    omega (arith, most)
