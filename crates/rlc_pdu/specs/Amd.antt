-- The data PDU of RLC in acknowledged mode: its fields, and which octets spell it (TS 38.322 clause 6.2.2.4).
use Rattle.std.specs.Prelude.{◌≡◌, ℕ, ◌+◌, ◌*◌, ◌/◌, ◌%◌, ◌<◌, ◌≤◌, Bool, true, false, ◌&&◌, ◌==◌, nat_lt, nat_le, if◌then◌else◌, Option, Some, None, List, [], ◌∷◌, ◌++◌, length, drop, slice_index}
use Rattle.link_base.specs.declared.names.SnSize.{SnSize}
use Rattle.link_base.specs.declared.names.SnSize.TheVariants.{S12, S18}
use Rattle.link_base.specs.declared.limits.TheConstants.{LONGEST_RLC_SDU}
use Rattle.link_base.specs.SequenceNumbers.{modulus}
use Rattle.rlc_pdu.specs.declared.amd.AmdView.{AmdView}
use Rattle.rlc_pdu.specs.declared.amd.AmdFault.{AmdFault}
use Rattle.rlc_pdu.specs.declared.amd.AmdFault.TheVariants.{Short, Control, ZeroOffset, NoBody, Long}
use Rattle.rlc_pdu.specs.declared.amd.Si.{Si}
use Rattle.rlc_pdu.specs.declared.amd.Si.TheVariants.{Whole, First, Last, Middle}

-- a PDU, without where its body lies in memory
pub record Amd : Type 0 where
  pub sn : ℕ
  pub poll : Bool
  pub si : Si
  pub so : ℕ
  pub body : List ℕ

-- the PDU that a view shows
abbrev pub amd_of : AmdView → Amd
amd_of v = record { sn = v.sn; poll = v.poll; si = v.si; so = v.so; body = v.body.now }

-- the two bits that stand for the kind of a segment (clause 6.2.3.4)
abbrev pub si_bits : Si → ℕ
si_bits Whole = 0
si_bits First = 1
si_bits Last = 2
si_bits Middle = 3

-- the bit that stands for a yes or a no
abbrev pub flag : Bool → ℕ
flag true = 1
flag false = 0

-- Each field of a PDU, read from its octets. Bit 7 is the first of an octet; an octet that isn't there reads as 0.

-- D/C, bit 7 of the first octet: 1 in a data PDU, 0 in a control PDU (clause 6.2.3.6)
abbrev pub dc_field : List ℕ → ℕ
dc_field octets = slice_index octets 0 / 128 % 2

-- P, bit 6 (clause 6.2.3.7)
abbrev pub p_field : List ℕ → ℕ
p_field octets = slice_index octets 0 / 64 % 2

-- SI, bits 5 and 4 (clause 6.2.3.4)
abbrev pub si_field : List ℕ → ℕ
si_field octets = slice_index octets 0 / 16 % 4

-- R, bits 3 and 2 with 18-bit SNs, and no bits with 12-bit ones (clause 6.2.3.8)
abbrev pub r_field : SnSize → List ℕ → ℕ
r_field S12 octets = 0
r_field S18 octets = slice_index octets 0 / 4 % 4

-- SN, the other bits of the first octet and the next one or two octets (clause 6.2.3.3)
abbrev pub sn_field : SnSize → List ℕ → ℕ
sn_field S12 octets = slice_index octets 0 % 16 * 256 + slice_index octets 1
sn_field S18 octets = slice_index octets 0 % 4 * 65536 + slice_index octets 1 * 256 + slice_index octets 2

-- how many octets these fields take: SN is the last of them
abbrev pub sn_end : SnSize → ℕ
sn_end S12 = 2
sn_end S18 = 3

-- whether an SO follows, by SI: it does with 10 and 11, which are segments that aren't the first (clause 6.2.2.4)
abbrev pub has_so : ℕ → Bool
has_so si = nat_le 2 si

-- how many octets the header has with this SI
abbrev pub amd_header_len : SnSize → ℕ → ℕ
amd_header_len size si = if has_so si then sn_end size + 2 else sn_end size

-- SO, two octets behind SN; 0 where there is none (clause 6.2.3.5)
abbrev pub so_field : SnSize → List ℕ → ℕ
so_field size octets = if has_so (si_field octets) then slice_index octets (sn_end size) * 256 + slice_index octets (sn_end size + 1) else 0

-- the data field: all octets behind the header (clause 6.2.3.2)
abbrev pub data_field : SnSize → List ℕ → List ℕ
data_field size octets = drop (amd_header_len size (si_field octets)) octets

-- the SO of each kind of segment: where it begins, which is at least 1, or 0 where the PDU has none (clause 6.2.3.5)
abbrev pub IsOffset : Si → ℕ → Type 0
IsOffset Whole so = so ≡ 0
IsOffset First so = so ≡ 0
IsOffset Last so = 1 ≤ so
IsOffset Middle so = 1 ≤ so

-- the format can hold the PDU: its body has a byte, and ends within the longest SDU
pub record AmdFits (size : SnSize) (v : Amd) : Type 0 where
  pub sn : v.sn < modulus size
  pub offset : IsOffset v.si v.so
  pub some : 1 ≤ length v.body
  pub end : v.so + length v.body ≤ LONGEST_RLC_SDU

-- the octets spell the PDU, whatever their R bits are (clause 6.2.2.4)
pub record IsAmd (size : SnSize) (v : Amd) (octets : List ℕ) : Type 0 where
  pub fits : AmdFits size v
  pub dc : dc_field octets ≡ 1
  pub poll : p_field octets ≡ flag v.poll
  pub si : si_field octets ≡ si_bits v.si
  pub sn : sn_field size octets ≡ v.sn
  pub so : so_field size octets ≡ v.so
  pub body : data_field size octets ≡ v.body

-- the octets up to SN, with R bits 0
abbrev pub first_octets : SnSize → Amd → List ℕ
first_octets S12 v = (128 + 64 * flag v.poll + 16 * si_bits v.si + v.sn / 256) ∷ (v.sn % 256) ∷ []
first_octets S18 v = (128 + 64 * flag v.poll + 16 * si_bits v.si + v.sn / 65536) ∷ (v.sn / 256 % 256) ∷ (v.sn % 256) ∷ []

-- the octets of SO
abbrev pub so_octets : Si → ℕ → List ℕ
so_octets Whole so = []
so_octets First so = []
so_octets Last so = (so / 256) ∷ (so % 256) ∷ []
so_octets Middle so = (so / 256) ∷ (so % 256) ∷ []

-- the one spelling of a PDU with R bits 0
abbrev pub amd_bytes : SnSize → Amd → List ℕ
amd_bytes size v = first_octets size v ++ so_octets v.si v.so ++ v.body

-- what may be wrong with octets, in the order in which it is looked for, each with its fault
unfoldable pub fault_tests : SnSize → List ℕ → List (Bool × AmdFault)
fault_tests size octets =
    -- there is no octet
    (length octets == 0, Short)
    -- D/C says that it is a control PDU
    ∷ (dc_field octets == 0, Control)
    -- the header isn't whole
    ∷ (nat_lt (length octets) (amd_header_len size (si_field octets)), Short)
    -- a segment that isn't the first begins at 0
    ∷ (has_so (si_field octets) && (so_field size octets == 0), ZeroOffset)
    -- no octet follows the header
    ∷ (length (data_field size octets) == 0, NoBody)
    -- the data field ends behind the longest SDU
    ∷ (nat_lt LONGEST_RLC_SDU (so_field size octets + length (data_field size octets)), Long)
    ∷ []

-- the fault of the first test that holds
abbrev pub first_holding : List (Bool × AmdFault) → Option AmdFault
first_holding [] = None
first_holding (test ∷ later) = if test.0 then Some test.1 else first_holding later

-- this is the first fault of the octets
abbrev pub IsAmdFault : SnSize → List ℕ → AmdFault → Type 0
IsAmdFault size octets fault = first_holding (fault_tests size octets) ≡ Some fault
