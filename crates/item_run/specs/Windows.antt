-- How PDUs are read whose numbers lie in the windows: each under the number with which it was made, and each SDU under its COUNT.
use Rattle.std.specs.Prelude.{◌≡◌, ℕ, ◌+◌, Bool, true, false, List, Some, None}
use Rattle.link_base.specs.declared.names.Key.{Key}
use Rattle.link_base.specs.SequenceNumbers.{Near}
use Rattle.rlc_pdu.specs.Amd.{Amd, IsAmd}
use Rattle.rlc_status.specs.declared.status.Status.{Status}
use Rattle.rlc_status.specs.Format.{IsStatus}
use Rattle.rlc_model.specs.declared.hop.Pdu.{Pdu}
use Rattle.rlc_model.specs.Hop.{on_air, side_fault}
use Rattle.rlc_model.specs.Rx.{Rx, rx_next}
use Rattle.rlc_model.specs.Sides.{Entity, hearer_of}
use Rattle.rlc_model.specs.Tx.{Tx, tx_next_ack}
use Rattle.pdcp_model.specs.HandUp.{Hearing}
use Rattle.pdcp_model.specs.Receiver.{rx_deliv}
use Rattle.pdcp_model.specs.Sender.{kept_at}
use Rattle.chain_model.specs.Draining.{Moment}
use Rattle.chain_model.specs.State.{Chain, entity_on, sender_at, receiving_at}
use Rattle.book_law.specs.Hearings.{HearsBy}

-- a receiver reads the octets as a data PDU whose SN stands for this number (TS 38.322 clause 7.1)
pub record ReadsData (r : Rx) (bytes : List ℕ) (number : ℕ) : Type 0 where
  pub pdu : Amd
  pub reads : IsAmd r.size pdu bytes
  pub near : Near r.size pdu.sn (rx_next r) number

-- a transmitter reads them as a STATUS PDU whose ACK_SN stands for it
pub record ReadsStatus (t : Tx) (bytes : List ℕ) (number : ℕ) : Type 0 where
  pub status : Status
  pub reads : IsStatus t.size status bytes
  pub near : Near t.size status.ack (tx_next_ack t + 1) number

-- an entity reads a PDU of this kind so
abbrev pub ReadsAs : Bool → Entity → List ℕ → ℕ → Type 0
ReadsAs false entity bytes number = ReadsData entity.rx bytes number
ReadsAs true entity bytes number = ReadsStatus entity.tx bytes number

-- each PDU on the air that an open side may be handed is read there under the number with which it was made
abbrev pub ReadsOwnNumbers : Chain → Type 0
ReadsOwnNumbers c = (ticket : ℕ) (pdu : Pdu) → on_air c.air ticket ≡ Some pdu → (entity : Entity) → entity_on c (hearer_of pdu.way) pdu.port ≡ Some entity
    → side_fault pdu (Some entity.epoch) entity.tx entity.rx ≡ None → ReadsAs pdu.status entity pdu.bytes pdu.number

-- the SN of a PDCP data PDU that a receiving end hears by a line stands for a COUNT under which the sending end still keeps just this SDU (TS 38.323 clause 5.2.2.1)
abbrev pub HearsOwnCount : Moment → Type 0
HearsOwnCount m = (key : Key) (hearing : Hearing) → HearsBy key m hearing → (number : ℕ)
    × Near (receiving_at m.before key).receiver.size hearing.sn (rx_deliv (receiving_at m.before key).receiver) ((receiving_at m.before key).receiver.first + number)
    × (kept_at (sender_at m.before key) number ≡ Some hearing.sdu)

-- a line, and the chain before it, are so
pub record IsInWindows (m : Moment) : Type 0 where
  pub numbers : ReadsOwnNumbers m.before
  pub counts : HearsOwnCount m
