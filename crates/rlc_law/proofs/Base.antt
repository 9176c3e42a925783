-- First numbers and numbers near a base.
use Rattle.std.proofs.Common.{◌≡◌, ◌≢◌, inl, inr, ℕ, ◌+◌, ◌*◌, ◌%◌, ◌<◌, ◌≤◌, true, false, List, [], Option, Some, None, refl, sym, ◌∙◌, ap, arith, true≢false}
use Rattle.std.specs.Option.{is_none}
use Rattle.std.proofs.lemmas.Bool.{cases_lt, false≢true}
use Rattle.std.proofs.lemmas.List.{get_or_past}
use Rattle.std.proofs.lemmas.Option.{none-some}
use Rattle.std.proofs.lemmas.List.Sums.{prefix_len_passes, prefix_len_stops, prefix_len-le-length}
use Rattle.link_base.specs.declared.names.SnSize.{SnSize}
use Rattle.link_base.specs.declared.names.SnSize.TheVariants.{S12, S18}
use Rattle.link_base.specs.SequenceNumbers.{window, modulus, Near}
use Rattle.rlc_model.specs.Tx.{Tx, Kept, kept_at, tx_next, tx_next_ack}
use Rattle.rlc_model.specs.Rx.{Rx, Got, Done, Part, got, is_done, rx_next, rx_next_highest}

-- a number lies near a base from which it is less than a window above or at most a window below
pub near_self : (s : SnSize) (n base : ℕ) → base ≤ n + window s → n < base + window s → Near s (n % modulus s) base n
near_self s n base low high = record { same = refl; low = low; high = high }

-- a window is half of the sequence numbers
pub two_windows : (s : SnSize) → modulus s ≡ 2 * window s
two_windows S12 = refl
two_windows S18 = refl

-- only one number lies near a base
pub near_one : (s : SnSize) (sn base c d : ℕ) → Near s sn base c → Near s sn base d → c ≡ d
near_one S12 sn base c d p q = omega arith
near_one S18 sn base c d p q = omega arith

-- an SDU that isn't confirmed is there
some_kept : (o : Option Kept) → is_none o ≡ false → (k : Kept) × (o ≡ Some k)
some_kept (Some k) e = (k, refl)
some_kept None e = absurd (true≢false e)

-- the same of a number
pub not_none : (t : Tx) (n : ℕ) → (kept_at t n ≡ None → ⊥) → (k : Kept) × (kept_at t n ≡ Some k)
not_none t n h = go (kept_at t n) refl
  where
    go : (o : Option Kept) → kept_at t n ≡ o → (k : Kept) × (kept_at t n ≡ Some k)
    go None e = absurd (h e)
    go (Some k) e = (k, e)

-- unconfirmed numbers are from TX_Next_Ack on
pub from_next_ack : (t : Tx) (n : ℕ) (k : Kept) → kept_at t n ≡ Some k → tx_next_ack t ≤ n
from_next_ack t n k is = elim (cases_lt n (tx_next_ack t)) [
  | inl lt ↦ absurd (false≢true (sym (ap is_none is) ∙ prefix_len_passes is_none t.kept n None lt))
  | inr le ↦ le
]

-- and all below it are confirmed
pub below_next_ack : (t : Tx) (n : ℕ) → n < tx_next_ack t → kept_at t n ≡ None
below_next_ack t n lt = go (kept_at t n) (prefix_len_passes is_none t.kept n None lt)
  where
    go : (o : Option Kept) → is_none o ≡ true → o ≡ None
    go None e = refl
    go (Some k) e = absurd (false≢true e)

-- TX_Next_Ack itself is unconfirmed, where it is below TX_Next
pub at_next_ack : (t : Tx) → tx_next_ack t < tx_next t → (k : Kept) × (kept_at t (tx_next_ack t) ≡ Some k)
at_next_ack t lt = some_kept _ (prefix_len_stops is_none t.kept None lt)

-- it is at most TX_Next
pub next_ack_le : (t : Tx) → tx_next_ack t ≤ tx_next t
next_ack_le t = prefix_len-le-length is_none t.kept

-- what the test calls complete is complete
pub done_of : (g : Got) → is_done g ≡ true → g ≡ Done
done_of Done e = refl
done_of (Part held len) e = absurd (false≢true e)

-- numbers below RX_Next are complete
pub below_rx_next : (r : Rx) (n : ℕ) → n < rx_next r → got r n ≡ Done
below_rx_next r n lt = done_of _ (prefix_len_passes is_done r.received n (Part [] None) lt)

-- of numbers from RX_Next_Highest on nothing is got
pub past_highest : (r : Rx) (n : ℕ) → rx_next_highest r ≤ n → got r n ≡ Part [] None
past_highest r n le = get_or_past r.received n (Part [] None) le

-- a part isn't all
pub part_not_done : (held : List (Option ℕ)) (len : Option ℕ) → Part held len ≢ Done
part_not_done held len e = cc

-- RX_Next isn't complete
pub at_rx_next : (r : Rx) → got r (rx_next r) ≢ Done
at_rx_next r e = elim (cases_lt (rx_next r) (rx_next_highest r)) [
  | inl lt ↦ false≢true (sym (prefix_len_stops is_done r.received (Part [] None) lt) ∙ ap is_done e)
  | inr le ↦ part_not_done [] None (sym (past_highest r (rx_next r) le) ∙ e)
]

-- complete numbers are below RX_Next_Highest
pub done_below : (r : Rx) (n : ℕ) → got r n ≡ Done → n < rx_next_highest r
done_below r n e = elim (cases_lt n (rx_next_highest r)) [
  | inl lt ↦ lt
  | inr le ↦ absurd (part_not_done [] None (sym (past_highest r n le) ∙ e))
]

-- a window isn't empty
pub window_pos : (s : SnSize) → 0 < window s
window_pos S12 = omega arith
window_pos S18 = omega arith

-- unconfirmed numbers are below TX_Next
pub kept_below : (t : Tx) (n : ℕ) (k : Kept) → kept_at t n ≡ Some k → n < tx_next t
kept_below t n k is = elim (cases_lt n (tx_next t)) [
  | inl lt ↦ lt
  | inr le ↦ absurd (none-some k (sym (get_or_past t.kept n None le) ∙ is))
]

-- a sequence number is below the modulus
pub mod_below : (s : SnSize) (n : ℕ) → n % modulus s < modulus s
mod_below S12 n = omega arith
mod_below S18 n = omega arith
