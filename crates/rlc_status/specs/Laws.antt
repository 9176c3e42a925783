-- What holds of the format of STATUS PDUs, whoever reads or writes them.
use Rattle.std.specs.Prelude.{◌≡◌, ◌⊎◌, ℕ, List, [], ◌∷◌}
use Rattle.link_base.specs.Octets.{AreOctets}
use Rattle.link_base.specs.declared.names.SnSize.{SnSize}
use Rattle.link_base.specs.declared.names.SnSize.TheVariants.{S12}
use Rattle.rlc_status.specs.declared.status.Status.{Status}
use Rattle.rlc_status.specs.declared.fault.StatusFault.{StatusFault}
use Rattle.rlc_status.specs.Format.{StatusFits, IsStatus, IsPlainStatus, status_bytes, IsStatusFault}
use Rattle.rlc_status.specs.Says.{SaysReceived, SaysMissing}

-- octets spell at most one STATUS
abbrev pub OneReading : Type 0
OneReading = (size : SnSize) (s t : Status) (octets : List ℕ) → IsStatus size s octets → IsStatus size t octets → s ≡ t

-- octets that spell a STATUS have no fault
abbrev pub NoFault : Type 0
NoFault = (size : SnSize) (s : Status) (octets : List ℕ) (fault : StatusFault) → IsStatus size s octets → IsStatusFault size octets fault → ⊥

-- octets spell a STATUS or have a fault
abbrev pub ReadOrRefused : Type 0
ReadOrRefused = (size : SnSize) (octets : List ℕ) → ((s : Status) × IsStatus size s octets) ⊎ ((fault : StatusFault) × IsStatusFault size octets fault)

-- octets have at most one fault
abbrev pub OneFault : Type 0
OneFault = (size : SnSize) (octets : List ℕ) (f g : StatusFault) → IsStatusFault size octets f → IsStatusFault size octets g → f ≡ g

-- what fits has the one spelling with reserved bits 0
abbrev pub OneSpelling : Type 0
OneSpelling = (size : SnSize) (s : Status) → StatusFits size s → IsPlainStatus size s (status_bytes size s) × IsStatus size s (status_bytes size s) × ((octets : List ℕ) → AreOctets octets → IsPlainStatus size s octets → octets ≡ status_bytes size s)

-- what is spelt fits
abbrev pub SpeltFits : Type 0
SpeltFits = (size : SnSize) (s : Status) (octets : List ℕ) → AreOctets octets → IsStatus size s octets → StatusFits size s

-- the PDU 0003800010 with 12 bits, where its ACK_SN stands for 3: number 1 is missing, 0 and 2 were received
abbrev pub WorkedStatusSays : Type 0
WorkedStatusSays = (s : Status) → IsStatus S12 s (0 ∷ 3 ∷ 128 ∷ 0 ∷ 16 ∷ []) → SaysReceived S12 3 s 0 × ((place : ℕ) → SaysMissing S12 3 s 1 place) × SaysReceived S12 3 s 2
