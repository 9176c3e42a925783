-- SRAP data PDUs as relations over bit fields (TS 38.351 clause 6.2.2).
use Rattle.std.specs.Prelude.{◌≡◌, ℕ, ◌+◌, ◌/◌, ◌%◌, ◌<◌, ◌≤◌, Bool, List, ◌∷◌, length, slice_index, nat_lt, Option, Some, None, if◌then◌else◌}
use Rattle.srap_header.specs.declared.pdu.SrapView.{SrapView}
use Rattle.srap_header.specs.declared.pdu.SrapFault.{SrapFault}
use Rattle.srap_header.specs.declared.pdu.SrapFault.TheVariants.{Short, Control, NoBody}

-- a PDU, without where its data field lies in memory
pub record Srap : Type 0 where
  pub bearer : ℕ
  pub ue : ℕ
  pub body : List ℕ

-- the PDU with these fields
abbrev pub srap : ℕ → ℕ → List ℕ → Srap
srap bearer ue body = record { bearer = bearer; ue = ue; body = body }

-- the PDU that a view shows
abbrev pub srap_of : SrapView → Srap
srap_of v = srap v.bearer v.ue v.body.now

-- the first octet: D/C in bit 7 is 1, BEARER ID stands in bits 4 to 0, and bits 6 and 5 are reserved
pub record IsFirstOctet (bearer octet : ℕ) : Type 0 where
  pub is_data : octet / 128 ≡ 1
  pub bearer_id : bearer ≡ octet % 32

-- the octets spell the PDU: the first octet, UE ID, and a data field of at least one octet; reserved bits are free
abbrev pub IsSrap : Srap → List ℕ → Type 0
IsSrap v (first ∷ ue ∷ body) = IsFirstOctet v.bearer first × (v.ue ≡ ue) × (v.body ≡ body) × (1 ≤ length body)
IsSrap v bytes = ⊥

-- what has a spelling
pub record SrapFits (v : Srap) : Type 0 where
  pub bearer : v.bearer < 32
  pub ue : v.ue < 256
  pub body : 1 ≤ length v.body

-- the one spelling with reserved bits 0
abbrev pub srap_bytes : Srap → List ℕ
srap_bytes v = (128 + v.bearer) ∷ v.ue ∷ v.body

-- the reserved bits 6 and 5 of the first octet are 0
abbrev pub IsPlainSrap : List ℕ → Type 0
IsPlainSrap bytes = slice_index bytes 0 / 32 % 4 ≡ 0

-- there is no octet
abbrev pub is_empty : List ℕ → Bool
is_empty bytes = nat_lt (length bytes) 1

-- D/C is 0
abbrev pub is_control : List ℕ → Bool
is_control bytes = nat_lt (slice_index bytes 0) 128

-- the header of two octets isn't whole
abbrev pub srap_is_cut : List ℕ → Bool
srap_is_cut bytes = nat_lt (length bytes) 2

-- no octet follows the header
abbrev pub srap_has_no_body : List ℕ → Bool
srap_has_no_body bytes = nat_lt (length bytes) 3

-- the first of the faults that holds, in this order
abbrev pub first_srap_fault : List ℕ → Option SrapFault
first_srap_fault bytes =
    if is_empty bytes then Some Short
    else if is_control bytes then Some Control
    else if srap_is_cut bytes then Some Short
    else if srap_has_no_body bytes then Some NoBody
    else None

-- this is the first fault of the octets
abbrev pub IsSrapFault : List ℕ → SrapFault → Type 0
IsSrapFault bytes fault = first_srap_fault bytes ≡ Some fault
