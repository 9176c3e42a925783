-- What the air hands over is read under its own number.
use Rattle.std.proofs.Common.{◌≡◌, inl, inr, ℕ, ◌+◌, ◌%◌, ◌<◌, ◌≤◌, true, false, List, length, sym, subst, arith}
use Rattle.std.proofs.lemmas.Bool.{cases_lt}
use Rattle.link_base.specs.declared.names.SnSize.{SnSize}
use Rattle.link_base.specs.SequenceNumbers.{window, modulus, Near}
use Rattle.rlc_model.specs.Tx.{Tx, tx_next, tx_next_ack}
use Rattle.rlc_model.specs.Rx.{Rx, rx_next}
use Rattle.rlc_model.specs.Air.{IsFresh}
use Rattle.rlc_law.proofs.Fresh.{fresh_data, fresh_status}
use Rattle.rlc_law.proofs.Base.{not_none, at_next_ack, at_rx_next, near_self, window_pos}
use Rattle.rlc_law.proofs.Invariant.{TxFits, Confirms}

-- a number given is below the receiver's window's end
pub below_window : (t : Tx) (r : Rx) (given : List (List ℕ)) → TxFits t given → Confirms t r → (n : ℕ) → n < length given → n < rx_next r + window t.size
below_window t r given fits confirms n lt = elim (cases_lt (rx_next r) (tx_next t)) [
  | inl within ↦
      let k = not_none t (rx_next r) (λ e. at_rx_next r (confirms _ within e)) in
      omega (arith, fits.within (rx_next r) k.0 k.1, fits.long)
  | inr past ↦ omega (arith, fits.long, window_pos t.size)
]

-- a data PDU that isn't stale lies near RX_Next
pub reads_number : (t : Tx) (r : Rx) (given : List (List ℕ)) → TxFits t given → Confirms t r → r.size ≡ t.size → (n : ℕ) → n < length given → IsFresh r.size false n (rx_next r) → Near r.size (n % modulus r.size) (rx_next r) n
reads_number t r given fits confirms same n lt fresh =
    near_self r.size n (rx_next r) (fresh_data r.size n (rx_next r) fresh) (subst (λ (s : SnSize). n < rx_next r + window s) (sym same) (below_window t r given fits confirms n lt))

-- and a number up to that of the last SDU given is not past the transmitter's window
pub ack_window : (t : Tx) (given : List (List ℕ)) → TxFits t given → (a : ℕ) → a ≤ length given → a < tx_next_ack t + 1 + window t.size
ack_window t given fits a le = elim (cases_lt (tx_next_ack t) (tx_next t)) [
  | inl within ↦
      let k = at_next_ack t within in
      omega (arith, fits.within (tx_next_ack t) k.0 k.1, fits.long)
  | inr past ↦ omega (arith, fits.long)
]

-- the ACK of a STATUS that isn't stale lies near TX_Next_Ack + 1
pub reads_ack : (t : Tx) (given : List (List ℕ)) → TxFits t given → (a : ℕ) → a ≤ length given → IsFresh t.size true a (tx_next_ack t) → Near t.size (a % modulus t.size) (tx_next_ack t + 1) a
reads_ack t given fits a le fresh = near_self t.size a (tx_next_ack t + 1) (omega (arith, fresh_status t.size a (tx_next_ack t) fresh)) (ack_window t given fits a le)
