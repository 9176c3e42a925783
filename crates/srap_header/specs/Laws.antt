-- What holds of the format of SRAP data PDUs alone.
use Rattle.std.specs.Prelude.{◌≡◌, ℕ, ◌<◌, List, All}
use Rattle.srap_header.specs.declared.pdu.SrapFault.{SrapFault}
use Rattle.srap_header.specs.Srap.{Srap, IsSrap, SrapFits, srap_bytes, IsPlainSrap, IsSrapFault}

-- octets spell at most one PDU
abbrev pub OneReading : Type 0
OneReading = (v w : Srap) (bytes : List ℕ) → IsSrap v bytes → IsSrap w bytes → v ≡ w

-- octets that spell a PDU have no fault
abbrev pub NoFaultWhereRead : Type 0
NoFaultWhereRead = (v : Srap) (bytes : List ℕ) (fault : SrapFault) → IsSrap v bytes → IsSrapFault bytes fault → ⊥

-- a PDU that fits is spelt by its octets with reserved bits 0, and by no others with reserved bits 0
abbrev pub OneSpellingWithoutReservedBits : Type 0
OneSpellingWithoutReservedBits =
    ((v : Srap) → SrapFits v → IsSrap v (srap_bytes v) × IsPlainSrap (srap_bytes v))
    × ((v : Srap) (bytes : List ℕ) → IsSrap v bytes → IsPlainSrap bytes → bytes ≡ srap_bytes v)

-- a PDU that octets below 256 spell fits
abbrev pub WhatIsReadFits : Type 0
WhatIsReadFits = (v : Srap) (bytes : List ℕ) → All (λ octet. octet < 256) bytes → IsSrap v bytes → SrapFits v
