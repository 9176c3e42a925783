-- PDCP PDUs as relations over bit fields (TS 38.323 clause 6.2).
use Rattle.std.specs.Prelude.{◌≡◌, ℕ, ◌+◌, ◌*◌, ◌/◌, ◌%◌, ◌^◌, ◌<◌, ◌≤◌, Bool, not, ◌&&◌, ◌==◌, List, [], ◌∷◌, ◌++◌, length, slice_index, nat_lt, nat_le, Option, Some, None, if◌then◌else◌}
use Rattle.link_base.specs.declared.names.SnSize.{SnSize}
use Rattle.link_base.specs.declared.names.SnSize.TheVariants.{S12, S18}
use Rattle.link_base.specs.declared.limits.TheConstants.{LONGEST_PDCP_SDU}
use Rattle.link_base.specs.SequenceNumbers.{modulus}
use Rattle.pdcp_pdu.specs.declared.pdu.PdcpView.{PdcpView}
use Rattle.pdcp_pdu.specs.declared.pdu.PdcpView.TheVariants as views
use Rattle.pdcp_pdu.specs.declared.pdu.PdcpFault.{PdcpFault}
use Rattle.pdcp_pdu.specs.declared.pdu.PdcpFault.TheVariants.{Short, ReservedType, Empty, Long}

-- a PDU, without where its body or its bitmap lies in memory
pub data Pdcp : Type 0 where
  Sdu : (sn : ℕ) (body : List ℕ) → Pdcp
  Report : (fmc : ℕ) (map : List ℕ) → Pdcp

-- the PDU that a view shows
abbrev pub pdcp_of : PdcpView → Pdcp
pdcp_of (views.Sdu sn body) = Sdu sn body.now
pdcp_of (views.Report fmc map) = Report fmc map.now

-- a body has 1 to 9,000 bytes
abbrev pub IsBody : List ℕ → Type 0
IsBody body = (1 ≤ length body) × (length body ≤ LONGEST_PDCP_SDU)

-- the first octet of a data PDU has D/C in bit 7 as 1
abbrev pub IsDataOctet : ℕ → Type 0
IsDataOctet octet = octet / 128 ≡ 1

-- the first octet of a status report has D/C in bit 7 as 0, and the PDU type 000 in bits 6 to 4
abbrev pub IsReportOctet : ℕ → Type 0
IsReportOctet octet = (octet / 128 ≡ 0) × (octet / 16 % 8 ≡ 0)

-- a data PDU: D/C is 1, the SN of 12 bits begins in bits 3 to 0 of the first octet, or that of 18 bits in its bits 1
-- to 0, and a body follows; reserved bits are free
abbrev pub IsDataPdu : SnSize → ℕ → List ℕ → List ℕ → Type 0
IsDataPdu S12 sn body (first ∷ low ∷ rest) = IsDataOctet first × (sn ≡ first % 16 * 256 + low) × (body ≡ rest) × IsBody rest
IsDataPdu S18 sn body (first ∷ middle ∷ low ∷ rest) = IsDataOctet first × (sn ≡ first % 4 * 65536 + middle * 256 + low) × (body ≡ rest) × IsBody rest
IsDataPdu size sn body bytes = ⊥

-- how many octets a status report has at most: as many as the longest PDCP SDU has bytes
abbrev pub longest_report : ℕ
longest_report = LONGEST_PDCP_SDU

-- a status report: D/C is 0, FMC stands in four octets, and the bitmap follows, at most 9,000 octets in all; reserved
-- bits are free
abbrev pub IsStatusReport : ℕ → List ℕ → List ℕ → Type 0
IsStatusReport fmc map (first ∷ a ∷ b ∷ c ∷ d ∷ rest) = IsReportOctet first × (fmc ≡ a * 16777216 + b * 65536 + c * 256 + d) × (map ≡ rest) × (5 + length rest ≤ longest_report)
IsStatusReport fmc map bytes = ⊥

-- the octets spell the PDU
abbrev pub IsPdcp : SnSize → Pdcp → List ℕ → Type 0
IsPdcp size (Sdu sn body) bytes = IsDataPdu size sn body bytes
IsPdcp size (Report fmc map) bytes = IsStatusReport fmc map bytes

-- what has a spelling
abbrev pub PdcpFits : SnSize → Pdcp → Type 0
PdcpFits size (Sdu sn body) = (sn < modulus size) × IsBody body
PdcpFits size (Report fmc map) = (fmc < 2 ^ 32) × (5 + length map ≤ longest_report)

-- the header of a data PDU, with reserved bits 0
abbrev pub data_header : SnSize → ℕ → List ℕ
data_header S12 sn = (128 + sn / 256) ∷ (sn % 256) ∷ []
data_header S18 sn = (128 + sn / 65536) ∷ (sn / 256 % 256) ∷ (sn % 256) ∷ []

-- the first octet of a status report, with reserved bits 0, and its FMC
abbrev pub report_header : ℕ → List ℕ
report_header fmc = 0 ∷ (fmc / 16777216) ∷ (fmc / 65536 % 256) ∷ (fmc / 256 % 256) ∷ (fmc % 256) ∷ []

-- the one spelling with reserved bits 0
abbrev pub pdcp_bytes : SnSize → Pdcp → List ℕ
pdcp_bytes size (Sdu sn body) = data_header size sn ++ body
pdcp_bytes size (Report fmc map) = report_header fmc ++ map

-- how many bits of the SN the first octet has
abbrev pub sn_bits_in_first : SnSize → ℕ
sn_bits_in_first S12 = 4
sn_bits_in_first S18 = 2

-- the reserved bits of the first octet are 0: bits 6 to 4 or 6 to 2 of a data PDU, and bits 3 to 0 of a status report
abbrev pub IsPlainPdcp : SnSize → Pdcp → List ℕ → Type 0
IsPlainPdcp size (Sdu sn body) bytes = slice_index bytes 0 % 128 / 2 ^ sn_bits_in_first size ≡ 0
IsPlainPdcp size (Report fmc map) bytes = slice_index bytes 0 % 16 ≡ 0

-- there is no octet
abbrev pub has_no_octet : List ℕ → Bool
has_no_octet bytes = nat_lt (length bytes) 1

-- D/C is 1
abbrev pub is_data : List ℕ → Bool
is_data bytes = nat_le 128 (slice_index bytes 0)

-- D/C is 0, and the PDU type isn't 000
abbrev pub has_reserved_type : List ℕ → Bool
has_reserved_type bytes = not (is_data bytes) && not (slice_index bytes 0 / 16 % 8 == 0)

-- a body is empty, or too long
abbrev pub IsBodyFault : List ℕ → PdcpFault → Type 0
IsBodyFault body Empty = length body ≡ 0
IsBodyFault body Long = LONGEST_PDCP_SDU < length body
IsBodyFault body fault = ⊥

-- how many octets the header of a data PDU has
abbrev pub data_header_len : SnSize → ℕ
data_header_len S12 = 2
data_header_len S18 = 3

-- how many octets stand before a body or a bitmap
abbrev pub pdcp_header_len : SnSize → List ℕ → ℕ
pdcp_header_len size bytes = if is_data bytes then data_header_len size else 5

-- how many octets a PDU has at most
abbrev pub longest : SnSize → List ℕ → ℕ
longest size bytes = if is_data bytes then data_header_len size + LONGEST_PDCP_SDU else longest_report

-- the header or FMC isn't whole
abbrev pub pdcp_is_cut : SnSize → List ℕ → Bool
pdcp_is_cut size bytes = nat_lt (length bytes) (pdcp_header_len size bytes)

-- it is a data PDU, and nothing follows its header
abbrev pub pdcp_has_no_body : SnSize → List ℕ → Bool
pdcp_has_no_body size bytes = is_data bytes && (length bytes == pdcp_header_len size bytes)

-- there are too many octets
abbrev pub is_long : SnSize → List ℕ → Bool
is_long size bytes = nat_lt (longest size bytes) (length bytes)

-- the first of the faults that holds, in this order
abbrev pub first_pdcp_fault : SnSize → List ℕ → Option PdcpFault
first_pdcp_fault size bytes =
    if has_no_octet bytes then Some Short
    else if has_reserved_type bytes then Some ReservedType
    else if pdcp_is_cut size bytes then Some Short
    else if pdcp_has_no_body size bytes then Some Empty
    else if is_long size bytes then Some Long
    else None

-- this is the first fault of the octets
abbrev pub IsPdcpFault : SnSize → List ℕ → PdcpFault → Type 0
IsPdcpFault size bytes fault = first_pdcp_fault size bytes ≡ Some fault
