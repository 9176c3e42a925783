-- What holds of the format of PDCP PDUs alone.
use Rattle.std.specs.Prelude.{◌≡◌, ℕ, ◌<◌, List, All}
use Rattle.link_base.specs.declared.names.SnSize.{SnSize}
use Rattle.pdcp_pdu.specs.declared.pdu.PdcpFault.{PdcpFault}
use Rattle.pdcp_pdu.specs.Pdcp.{Pdcp, IsPdcp, PdcpFits, pdcp_bytes, IsPlainPdcp, IsPdcpFault}

-- octets spell at most one PDU
abbrev pub OneReading : Type 0
OneReading = (size : SnSize) (v w : Pdcp) (bytes : List ℕ) → IsPdcp size v bytes → IsPdcp size w bytes → v ≡ w

-- octets that spell a PDU have no fault
abbrev pub NoFaultWhereRead : Type 0
NoFaultWhereRead = (size : SnSize) (v : Pdcp) (bytes : List ℕ) (fault : PdcpFault) → IsPdcp size v bytes → IsPdcpFault size bytes fault → ⊥

-- a PDU that fits is spelt by its octets with reserved bits 0, and by no others with reserved bits 0
abbrev pub OneSpellingWithoutReservedBits : Type 0
OneSpellingWithoutReservedBits =
    ((size : SnSize) (v : Pdcp) → PdcpFits size v → IsPdcp size v (pdcp_bytes size v) × IsPlainPdcp size v (pdcp_bytes size v))
    × ((size : SnSize) (v : Pdcp) (bytes : List ℕ) → All (λ octet. octet < 256) bytes → IsPdcp size v bytes → IsPlainPdcp size v bytes → bytes ≡ pdcp_bytes size v)

-- a PDU that octets below 256 spell fits
abbrev pub WhatIsReadFits : Type 0
WhatIsReadFits = (size : SnSize) (v : Pdcp) (bytes : List ℕ) → All (λ octet. octet < 256) bytes → IsPdcp size v bytes → PdcpFits size v
