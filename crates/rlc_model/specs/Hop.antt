-- The air between the two sides of a port, and what a side, a transmitter and a receiver together, sends and hears.
use Rattle.std.specs.Prelude.{◌≡◌, ◌≢◌, ◌⊎◌, ℕ, ◌-◌, ◌<◌, ◌==◌, Bool, true, false, not, if◌then◌else◌, List, length, slice_index, slice_index_or, slice_set, Option, Some, None}
use Rattle.link_base.specs.declared.names.PortName.{PortName}
use Rattle.link_base.specs.declared.names.Side.{Side}
use Rattle.link_base.specs.declared.names.SnSize.{SnSize}
use Rattle.link_base.specs.declared.names.Timer.{Timer}
use Rattle.link_base.specs.declared.names.Timer.TheVariants.{Poll, Reasm, Prohibit}
use Rattle.link_base.specs.declared.rlc_words.Expired.{Expired}
use Rattle.rlc_pdu.specs.Amd.{Amd, IsAmd, IsAmdFault}
use Rattle.rlc_status.specs.declared.status.Status.{Status}
use Rattle.rlc_status.specs.declared.fault.StatusFault.TheVariants.{Memory}
use Rattle.rlc_status.specs.Format.{IsStatus, IsStatusFault, status_bytes}
use Rattle.rlc_model.specs.declared.hop.Pdu.{Pdu}
use Rattle.rlc_model.specs.declared.hop.AirFault.{AirFault}
use Rattle.rlc_model.specs.declared.hop.AirFault.TheVariants.{Gone, Stale}
use Rattle.rlc_model.specs.declared.hop.HopGrant.{HopGrant}
use Rattle.rlc_model.specs.declared.hop.HopGrant.TheVariants.{Sent, Idle, Small}
use Rattle.rlc_model.specs.declared.hop.HopHeard.{HopHeard}
use Rattle.rlc_model.specs.declared.hop.HopHeard.TheVariants as heard
use Rattle.rlc_model.specs.declared.receiver.Made.TheVariants as made
use Rattle.rlc_model.specs.declared.transmitter.TxGrant.TheVariants as grant
use Rattle.rlc_model.specs.Air.{is_stale}
use Rattle.rlc_model.specs.Calls.{ExpiresPollAs, ExpiresReassemblyAs, ExpiresProhibitAs}
use Rattle.rlc_model.specs.Sides.{way_from}
use Rattle.rlc_model.specs.Tx.{Tx, tx_next_ack, Grants}
use Rattle.rlc_model.specs.Retransmission.{HearsStatus}
use Rattle.rlc_model.specs.Rx.{Rx, rx_next, status_due, Hears}
use Rattle.rlc_model.specs.Made.{Makes, WritesStatus}

-- the PDU of a ticket, where it is on the air. Tickets are counted from 1
abbrev pub on_air : List (Option Pdu) → ℕ → Option Pdu
on_air air ticket = if ticket == 0 then None else slice_index_or air (ticket - 1) None

-- the air behind the loss or the delivery of a ticket's PDU
abbrev pub off_air : List (Option Pdu) → ℕ → List (Option Pdu)
off_air air ticket = if ticket == 0 then air else slice_set air (ticket - 1) None

-- the lowest ticket on the air
pub record IsLowest (air : List (Option Pdu)) (ticket : ℕ) : Type 0 where
  pub here : on_air air ticket ≢ None
  pub below : (lower : ℕ) → lower < ticket → on_air air lower ≡ None

-- the PDU that a side in this epoch sends over its port
abbrev pub sent_from : PortName → Side → ℕ → Bool → ℕ → List ℕ → Pdu
sent_from port side epoch status number bytes = record { port = port; way = way_from side; epoch = epoch; status = status; number = number; bytes = bytes }

-- why a side in this epoch, or a closed one, doesn't hear a PDU
abbrev pub air_fault : SnSize → Pdu → Option ℕ → ℕ → Option AirFault
air_fault size pdu None next = Some Gone
air_fault size pdu (Some epoch) next =
    if not (epoch == pdu.epoch) then Some Gone
    else if is_stale size pdu.status pdu.number next then Some (Stale pdu.number next)
    else None

-- the same of a side with this transmitter, which would hear a STATUS PDU, and this receiver, which would hear a data PDU
abbrev pub side_fault : Pdu → Option ℕ → Tx → Rx → Option AirFault
side_fault pdu epoch tx rx = if pdu.status then air_fault tx.size pdu epoch (tx_next_ack tx) else air_fault rx.size pdu epoch (rx_next rx)

-- a side sends one PDU of at most n octets: a STATUS PDU where one is due, else a data PDU (TS 38.322 clauses 5.2.3.1 and 5.3.4)
abbrev pub GrantsHop : Tx → Rx → ℕ → HopGrant → Tx → Rx → Type 0
GrantsHop tx rx n (Sent true number bytes) tx' rx' =
    (status : Status) × WritesStatus rx n number status rx' × (bytes ≡ status_bytes rx.size status) × (tx' ≡ tx)
GrantsHop tx rx n (Sent false number bytes) tx' rx' = (status_due rx ≡ false) × Grants tx n (grant.Sent number bytes) tx' × (rx' ≡ rx)
GrantsHop tx rx n Idle tx' rx' = (status_due rx ≡ false) × Grants tx n grant.Idle tx' × (rx' ≡ rx)
GrantsHop tx rx n (Small need) tx' rx' =
    ((status_due rx ≡ true) × Makes rx n (made.Small need) rx' × (tx' ≡ tx))
    ⊎ ((status_due rx ≡ false) × Grants tx n (grant.Small need) tx' × (rx' ≡ rx))

-- the octets are a control PDU: there is one, and bit 7 of the first, D/C, is 0 (clause 6.2.3.6)
pub record IsControl (bytes : List ℕ) : Type 0 where
  pub some : 0 < length bytes
  pub dc : slice_index bytes 0 < 128

-- a side hears octets: a STATUS PDU goes to its transmitter, a data PDU to its receiver, and what is neither changes nothing
abbrev pub HearsHop : Tx → Rx → List ℕ → HopHeard → Tx → Rx → Type 0
HearsHop tx rx bytes (heard.Amd answer) tx' rx' = (IsControl bytes → ⊥) × (pdu : Amd) × IsAmd rx.size pdu bytes × Hears rx pdu answer rx' × (tx' ≡ tx)
HearsHop tx rx bytes (heard.Status answer) tx' rx' = IsControl bytes × (status : Status) × IsStatus tx.size status bytes × HearsStatus tx status answer tx' × (rx' ≡ rx)
HearsHop tx rx bytes (heard.BadAmd fault) tx' rx' = (IsControl bytes → ⊥) × IsAmdFault rx.size bytes fault × (tx' ≡ tx) × (rx' ≡ rx)
HearsHop tx rx bytes (heard.BadStatus fault) tx' rx' = IsControl bytes × (fault ≢ Memory) × IsStatusFault tx.size bytes fault × (tx' ≡ tx) × (rx' ≡ rx)

-- a timer of a side is to run out: t-PollRetransmit is its transmitter's, the other two are its receiver's (clause 7.3)
abbrev pub ExpiresHop : Tx → Rx → Timer → Expired → Tx → Rx → Type 0
ExpiresHop tx rx Poll expired tx' rx' = ExpiresPollAs tx expired tx' × (rx' ≡ rx)
ExpiresHop tx rx Reasm expired tx' rx' = ExpiresReassemblyAs rx expired rx' × (tx' ≡ tx)
ExpiresHop tx rx Prohibit expired tx' rx' = ExpiresProhibitAs rx expired rx' × (tx' ≡ tx)
