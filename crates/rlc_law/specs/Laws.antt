-- The laws of a hop, over every run.
use Rattle.std.specs.Prelude.{◌≡◌, ◌≢◌, ◌↔◌, ℕ, ◌+◌, ◌%◌, ◌<◌, ◌≤◌, true, false, List, ◌∷◌, ◌++◌, length, Contains, AllPairs, Option, Some, None}
use Rattle.link_base.specs.declared.names.SnSize.{SnSize}
use Rattle.link_base.specs.SequenceNumbers.{modulus, window, Near}
use Rattle.link_base.specs.declared.limits.TheConstants.{LONGEST_RLC_SDU}
use Rattle.rlc_pdu.specs.Amd.{AmdFits}
use Rattle.rlc_status.specs.declared.status.Status.{Status}
use Rattle.rlc_status.specs.Format.{StatusFits}
use Rattle.rlc_status.specs.Says.{SaysReceived}
use Rattle.rlc_model.specs.declared.receiver.Heard.TheVariants.{Outside, Conflict}
use Rattle.rlc_model.specs.Pdu.{IsPiece}
use Rattle.rlc_model.specs.Heard.{Data, HasByte, HasEnd, HeardAs}
use Rattle.rlc_model.specs.Tx.{Kept, kept_at, tx_next, tx_next_ack}
use Rattle.rlc_model.specs.Retransmission.{IsBeyond}
use Rattle.rlc_model.specs.Rx.{Rx, Done, got, held_at, len_of, rx_next, Hears}
use Rattle.rlc_model.specs.Made.{WritesStatus, IsTrueOf}
use Rattle.rlc_model.specs.declared.hop.Pdu.{Pdu}
use Rattle.rlc_model.specs.Air.{IsFresh}
use Rattle.rlc_model.specs.Hop.{air_fault}
use Rattle.rlc_law.specs.Hop.{Hop, StatusMade, Completion, Event, Happens, Reaches, given_at}

-- what can happen to a hop that can be reached leaves one that can be reached
abbrev pub ReachesMore : Type 0
ReachesMore = (h : Hop) (e : Event) (new : Hop) → Reaches h → Happens h e new → Reaches new

-- each PDU is a piece of the SDU given under its number, has its SN, and fits its format
abbrev pub SendsPieces : Type 0
SendsPieces = (h : Hop) → Reaches h → (d : Data) → Contains h.pdus d
    → (d.number < length h.given) × (d.view.sn ≡ d.number % modulus h.tx.size) × IsPiece (given_at h d.number) d.view × AmdFits h.tx.size d.view

-- SDUs are given with the numbers up to TX_Next, and each has from 1 to 9,005 bytes
abbrev pub GivesInOrder : Type 0
GivesInOrder = (h : Hop) → Reaches h → (length h.given ≡ tx_next h.tx) × ((n : ℕ) → n < length h.given → (0 < length (given_at h n)) × (length (given_at h n) ≤ LONGEST_RLC_SDU))

-- an SDU that is not confirmed is kept as it was given
abbrev pub KeepsGiven : Type 0
KeepsGiven = (h : Hop) → Reaches h → (n : ℕ) (k : Kept) → kept_at h.tx n ≡ Some k → k.sdu ≡ given_at h n

-- what is heard was sent
abbrev pub HearsSent : Type 0
HearsSent = (h : Hop) → Reaches h → (d : Data) → Contains h.heard d → Contains h.pdus d

-- before a place of number n + 1 is sent, a place of n was sent
abbrev pub SendsInOrder : Type 0
SendsInOrder = (h : Hop) → Reaches h → (later earlier : List Data) (d : Data) → h.pdus ≡ later ++ d ∷ earlier → (n : ℕ) → d.number ≡ n + 1 → (e : Data) × Contains earlier e × (e.number ≡ n)

-- each SDU handed up is the one given under its number
abbrev pub CompletesAsGiven : Type 0
CompletesAsGiven = (h : Hop) → Reaches h → (u : Completion) → Contains h.completed u → (u.number < length h.given) × (u.sdu ≡ given_at h u.number)

-- no number is handed up twice
abbrev pub CompletesOnce : Type 0
CompletesOnce = (h : Hop) → Reaches h → AllPairs (λ u w. u.number ≢ w.number) h.completed

-- a number that is confirmed was handed up
abbrev pub ConfirmsComplete : Type 0
ConfirmsComplete = (h : Hop) → Reaches h → (n : ℕ) → n < length h.given → kept_at h.tx n ≡ None → (got h.rx n ≡ Done) × Contains h.completed (record { number = n; sdu = given_at h n })

-- the air hands over a PDU exactly to a side that stands in its epoch and at which it is fresh
abbrev pub PassesFresh : Type 0
PassesFresh = (size : SnSize) (pdu : Pdu) (epoch : Option ℕ) (next : ℕ) → (air_fault size pdu epoch next ≡ None) ↔ ((epoch ≡ Some pdu.epoch) × IsFresh size pdu.status pdu.number next)

-- what the air hands over is read under its own number, and no other
abbrev pub ReadsOwnNumber : Type 0
ReadsOwnNumber = (h : Hop) → Reaches h → (d : Data) → Contains h.pdus d → IsFresh h.rx.size false d.number (rx_next h.rx)
    → Near h.rx.size d.view.sn (rx_next h.rx) d.number × ((c : ℕ) → Near h.rx.size d.view.sn (rx_next h.rx) c → c ≡ d.number)

abbrev pub ReadsOwnAck : Type 0
ReadsOwnAck = (h : Hop) → Reaches h → (t : StatusMade) → Contains h.statuses t → IsFresh h.tx.size true t.ack (tx_next_ack h.tx)
    → Near h.tx.size t.status.ack (tx_next_ack h.tx + 1) t.ack × ((c : ℕ) → Near h.tx.size t.status.ack (tx_next_ack h.tx + 1) c → c ≡ t.ack)

-- no PDU that the air hands over is outside or in conflict, and no STATUS is beyond
abbrev pub NoneOutside : Type 0
NoneOutside = (h : Hop) → Reaches h → (d : Data) → Contains h.pdus d → IsFresh h.rx.size false d.number (rx_next h.rx) → (r : Rx) → (Hears h.rx d.view Outside r → ⊥) × (Hears h.rx d.view Conflict r → ⊥)

abbrev pub NoneBeyond : Type 0
NoneBeyond = (h : Hop) → Reaches h → (t : StatusMade) → Contains h.statuses t → IsFresh h.tx.size true t.ack (tx_next_ack h.tx) → IsBeyond h.tx t.status → ⊥

-- a STATUS is true when it is made, fits its format and has a number up to RX_Highest_Status
abbrev pub MakesTrue : Type 0
MakesTrue = (h : Hop) → Reaches h → (n a : ℕ) (s : Status) (r : Rx) → WritesStatus h.rx n a s r → IsTrueOf h.rx a s × StatusFits h.rx.size s × (a ≤ h.rx.rx_highest_status)

-- what it says received is complete ever after
abbrev pub StaysTrue : Type 0
StaysTrue = (h : Hop) → Reaches h → (t : StatusMade) → Contains h.statuses t → (n : ℕ) → SaysReceived h.rx.size t.ack t.status n → got h.rx n ≡ Done

-- a number is complete exactly where it is heard, from the set of all that was delivered, and what is heard is what was given
abbrev pub CompletesHeard : Type 0
CompletesHeard = (h : Hop) → Reaches h → (n : ℕ) → n < length h.given → (got h.rx n ≡ Done) ↔ HeardAs h.heard n (given_at h n)

abbrev pub HeardAsGiven : Type 0
HeardAsGiven = (h : Hop) → Reaches h → (n : ℕ) (sdu : List ℕ) → HeardAs h.heard n sdu → (n < length h.given) × (sdu ≡ given_at h n)

-- of a number that isn't complete a byte is held exactly where a PDU that was delivered has it
abbrev pub HoldsHeard : Type 0
HoldsHeard = (h : Hop) → Reaches h → (n p : ℕ) → got h.rx n ≢ Done → (held_at (got h.rx n) p ≡ None) ↔ ((b : ℕ) → HasByte h.heard n p b → ⊥)

-- and its length is known exactly where a PDU that was delivered ends there
abbrev pub KnowsHeardEnd : Type 0
KnowsHeardEnd = (h : Hop) → Reaches h → (n l : ℕ) → got h.rx n ≢ Done → (len_of (got h.rx n) ≡ Some l) ↔ HasEnd h.heard n l

-- numbers are bounded by the data PDUs that were made
abbrev pub NumbersBounded : Type 0
NumbersBounded = (h : Hop) → Reaches h → (tx_next_ack h.tx ≤ length h.pdus) × (tx_next h.tx ≤ length h.pdus + window h.tx.size) × (rx_next h.rx ≤ tx_next h.tx)
