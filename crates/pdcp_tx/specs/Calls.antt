-- What the calls of a transmitting side answer.
use Rattle.std.specs.Prelude.{◌≡◌, ℕ, ◌+◌, ◌<◌, ◌≤◌, true, false, List, length, Option, Some, None}
use Rattle.link_base.specs.declared.limits.TheConstants.{LONGEST_PDCP_SDU}
use Rattle.pdcp_pdu.specs.Pdcp.{pdcp_bytes}
use Rattle.pdcp_model.specs.declared.answers.ReportBeyond.{ReportBeyond}
use Rattle.pdcp_model.specs.declared.answers.SubmitFault.{SubmitFault}
use Rattle.pdcp_model.specs.declared.answers.SubmitFault.TheVariants.{Memory}
use Rattle.pdcp_model.specs.Sender.{Sender, kept_at, tx_next, submit_fault, accepts, next, has_next, data_pdu, gave_next, IsBeyond}

-- no reason holds why the SDU isn't accepted, and it is accepted with this COUNT (5.2.1)
abbrev pub Accepts : Sender → List ℕ → ℕ → Sender → Type 0
Accepts old sdu count new = (submit_fault old sdu ≡ None) × (count ≡ tx_next old) × (new ≡ accepts old sdu)

-- the SDU isn't accepted for the first reason that holds, or none holds and memory was refused
abbrev pub Refuses : Sender → List ℕ → SubmitFault → Type 0
Refuses s sdu Memory = submit_fault s sdu ≡ None
Refuses s sdu fault = submit_fault s sdu ≡ Some fault

-- what is given to RLC: nothing, where the side has nothing to give; else the COUNT and the PDCP data PDU of the next number (5.2.1)
abbrev pub GivesNext : Sender → Option (ℕ × List ℕ) → Sender → Type 0
GivesNext old None new = (has_next old ≡ false) × (new ≡ old)
GivesNext old (Some given) new =
    (has_next old ≡ true) × (given.0 ≡ old.first + next old)
    × (sdu : List ℕ) × (kept_at old (next old) ≡ Some sdu) × (given.1 ≡ pdcp_bytes old.size (data_pdu old (next old) sdu))
    × (new ≡ gave_next old)

-- what is given has an octet, and no more than the longest SDU behind a header of three octets (6.2.2)
abbrev pub IsDataPdu : Option (ℕ × List ℕ) → Type 0
IsDataPdu None = Unit {0}
IsDataPdu (Some given) = (0 < length given.1) × (length given.1 ≤ 3 + LONGEST_PDCP_SDU)

-- a status report speaks of a COUNT that wasn't submitted, and its FMC and TX_NEXT are told
abbrev pub TellsBeyond : Sender → ℕ → List ℕ → ReportBeyond → Type 0
TellsBeyond s fmc map beyond = IsBeyond s fmc map × (beyond.fmc ≡ fmc) × (beyond.next ≡ tx_next s)
