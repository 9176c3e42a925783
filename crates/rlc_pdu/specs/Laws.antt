-- What holds of the format, whatever the code is.
use Rattle.std.specs.Prelude.{◌≡◌, ℕ, ◌/◌, ◌%◌, ◌⊎◌, List, ◌∷◌}
use Rattle.link_base.specs.Octets.{AreOctets}
use Rattle.link_base.specs.declared.names.SnSize.{SnSize}
use Rattle.link_base.specs.declared.names.SnSize.TheVariants.{S18}
use Rattle.rlc_pdu.specs.declared.amd.AmdFault.{AmdFault}
use Rattle.rlc_pdu.specs.Amd.{Amd, AmdFits, IsAmd, IsAmdFault, amd_bytes, r_field}

-- octets spell at most one PDU
abbrev pub OneReading : Type 0
OneReading = (size : SnSize) (v w : Amd) (octets : List ℕ) → IsAmd size v octets → IsAmd size w octets → v ≡ w

-- the octets that are written have R bits 0, and spell the PDU and no other
abbrev pub ReadsBack : Type 0
ReadsBack = (size : SnSize) (v : Amd) → AmdFits size v → (r_field size (amd_bytes size v) ≡ 0) × IsAmd size v (amd_bytes size v) × ((w : Amd) → IsAmd size w (amd_bytes size v) → w ≡ v)

-- a PDU has at most one spelling with R bits 0
abbrev pub OneSpelling : Type 0
OneSpelling = (size : SnSize) (v : Amd) (octets : List ℕ) → AreOctets octets → IsAmd size v octets → r_field size octets ≡ 0 → octets ≡ amd_bytes size v

-- octets that differ in R bits alone, which are bits 3 and 2 of the first octet, spell the same PDU
abbrev pub FreeReserved : Type 0
FreeReserved = (v : Amd) (a b : ℕ) (rest : List ℕ) → a / 16 ≡ b / 16 → a % 4 ≡ b % 4 → IsAmd S18 v (a ∷ rest) → IsAmd S18 v (b ∷ rest)

-- octets either spell a PDU or have a fault
abbrev pub PduOrFault : Type 0
PduOrFault = (size : SnSize) (octets : List ℕ) → AreOctets octets → ((v : Amd) × IsAmd size v octets) ⊎ ((fault : AmdFault) × IsAmdFault size octets fault)

-- octets that spell a PDU have no fault
abbrev pub NotBoth : Type 0
NotBoth = (size : SnSize) (v : Amd) (octets : List ℕ) (fault : AmdFault) → IsAmd size v octets → IsAmdFault size octets fault → ⊥

-- octets have at most one fault
abbrev pub OneFault : Type 0
OneFault = (size : SnSize) (octets : List ℕ) (f g : AmdFault) → IsAmdFault size octets f → IsAmdFault size octets g → f ≡ g
