-- What the parts of a side, its transmitter and its receiver, do when it sends or hears.
use Rattle.std.specs.Prelude.{◌≡◌, ◌≢◌, ◌⊎◌, ℕ, ◌≤◌, List, true, false}
use Rattle.rlc_pdu.specs.Amd.{Amd, IsAmd, IsAmdFault}
use Rattle.rlc_status.specs.declared.status.Status.{Status}
use Rattle.rlc_status.specs.declared.fault.StatusFault.TheVariants.{Memory}
use Rattle.rlc_status.specs.Format.{IsStatus, IsStatusFault, HasElement, status_bytes}
use Rattle.rlc_model.specs.declared.hop.HopGrant.{HopGrant}
use Rattle.rlc_model.specs.declared.hop.HopGrant.TheVariants.{Sent, Idle, Small}
use Rattle.rlc_model.specs.declared.hop.HopHeard.{HopHeard}
use Rattle.rlc_model.specs.declared.hop.HopHeard.TheVariants as heard
use Rattle.rlc_model.specs.declared.receiver.Made.TheVariants as made
use Rattle.rlc_model.specs.Tx.{Tx}
use Rattle.rlc_model.specs.Retransmission.{HearsStatus}
use Rattle.rlc_model.specs.Rx.{Rx, Hears, IsToBePlaced, status_due}
use Rattle.rlc_model.specs.Calls.{GrantTakesMemory, StatusTakesMemory}
use Rattle.rlc_model.specs.Hop.{IsControl}
use Rattle.rlc_am_rx.specs.Hearing.{HasSduLength}
use Rattle.rlc_am_rx.specs.StatusMaking.{IsTrueStatusOf}
use Rattle.rlc_model.specs.Made.{Makes, WritesStatus}

-- a receiver sends a STATUS PDU of at most n octets; or not even one without elements has so few (TS 38.322 clause 5.3.4)
abbrev pub SendsStatus : Rx → ℕ → HopGrant → Rx → Type 0
SendsStatus rx n (Sent true number bytes) rx' = (status : Status) × WritesStatus rx n number status rx' × (bytes ≡ status_bytes rx.size status)
SendsStatus rx n (Sent false number bytes) rx' = ⊥
SendsStatus rx n Idle rx' = ⊥
SendsStatus rx n (Small need) rx' = Makes rx n (made.Small need) rx'

-- a STATUS PDU that is sent spells a STATUS that is true of the receiver, fits its format, and has at most n octets
abbrev pub SendsTruly : Rx → ℕ → HopGrant → Type 0
SendsTruly rx n (Sent true number bytes) = (status : Status) × (bytes ≡ status_bytes rx.size status) × IsTrueStatusOf rx n (made.Full status number)
SendsTruly rx n (Sent false number bytes) = Unit {0}
SendsTruly rx n Idle = Unit {0}
SendsTruly rx n (Small need) = Unit {0}

-- a side is to send a PDU, and n octets are enough: a STATUS PDU where one is due, else what the transmitter sends next
abbrev pub IsToSend : Tx → Rx → ℕ → Type 0
IsToSend tx rx n = ((status_due rx ≡ true) × (3 ≤ n)) ⊎ ((status_due rx ≡ false) × GrantTakesMemory tx n)

-- a control PDU makes something grow: it has an element, or its STATUS makes the transmitter grow
abbrev pub ControlTakesMemory : Tx → List ℕ → Type 0
ControlTakesMemory tx bytes = HasElement tx.size bytes ⊎ ((status : Status) × IsStatus tx.size status bytes × StatusTakesMemory tx status)

-- a data PDU makes something grow: the receiver is to place it
abbrev pub DataTakesMemory : Rx → List ℕ → Type 0
DataTakesMemory rx bytes = (pdu : Amd) × IsAmd rx.size pdu bytes × IsToBePlaced rx pdu

-- octets make something grow, as a control PDU or as a data PDU
abbrev pub HearsNews : Tx → Rx → List ℕ → Type 0
HearsNews tx rx bytes = (IsControl bytes × ControlTakesMemory tx bytes) ⊎ ((IsControl bytes → ⊥) × DataTakesMemory rx bytes)

-- a receiver hears octets that are no control PDU
abbrev pub HearsData : Rx → List ℕ → HopHeard → Rx → Type 0
HearsData rx bytes (heard.Amd answer) rx' = (pdu : Amd) × IsAmd rx.size pdu bytes × Hears rx pdu answer rx'
HearsData rx bytes (heard.Status answer) rx' = ⊥
HearsData rx bytes (heard.BadAmd fault) rx' = IsAmdFault rx.size bytes fault × (rx' ≡ rx)
HearsData rx bytes (heard.BadStatus fault) rx' = ⊥

-- a transmitter hears octets that are a control PDU
abbrev pub HearsControl : Tx → List ℕ → HopHeard → Tx → Type 0
HearsControl tx bytes (heard.Amd answer) tx' = ⊥
HearsControl tx bytes (heard.Status answer) tx' = (status : Status) × IsStatus tx.size status bytes × HearsStatus tx status answer tx'
HearsControl tx bytes (heard.BadAmd fault) tx' = ⊥
HearsControl tx bytes (heard.BadStatus fault) tx' = (fault ≢ Memory) × IsStatusFault tx.size bytes fault × (tx' ≡ tx)

-- an SDU that octets made complete has a byte, and isn't longer than the longest SDU
abbrev pub CompletesSdu : HopHeard → Type 0
CompletesSdu (heard.Amd answer) = HasSduLength answer
CompletesSdu (heard.Status answer) = Unit {0}
CompletesSdu (heard.BadAmd fault) = Unit {0}
CompletesSdu (heard.BadStatus fault) = Unit {0}
