-- STATUS PDUs, as relations over bit fields (TS 38.322 clauses 6.2.2.5 and 6.2.3).
use Rattle.std.specs.Prelude.{◌≡◌, ◌≢◌, ℕ, ◌+◌, ◌-◌, ◌*◌, ◌/◌, ◌%◌, ◌^◌, ◌<◌, ◌≤◌, ◌⊎◌, Bool, true, false, List, [], ◌∷◌, ◌++◌, length, sum_by, Option, Some, None, is_some, unwrap_or, Result, Err}
use Rattle.link_base.specs.declared.names.SnSize.{SnSize}
use Rattle.link_base.specs.declared.names.SnSize.TheVariants.{S12, S18}
use Rattle.link_base.specs.SequenceNumbers.{modulus}
use Rattle.rlc_status.specs.declared.status.Nack.{Nack}
use Rattle.rlc_status.specs.declared.status.Status.{Status}
use Rattle.rlc_status.specs.declared.fault.StatusFault.{StatusFault}
use Rattle.rlc_status.specs.declared.fault.StatusFault.TheVariants.{Short, IsData, ReservedType, ZeroRange, BackPart, Trailing, Memory}

-- what the format of an element can hold
pub record NackFits (size : SnSize) (nack : Nack) : Type 0 where
  pub sn : nack.sn < modulus size
  pub range : (k : ℕ) → nack.range ≡ Some k → (1 ≤ k) × (k ≤ 255)
  pub part : (x y : ℕ) → nack.part ≡ Some (x, y) → (x < 65536) × (y < 65536)
  pub order : (x y : ℕ) → nack.part ≡ Some (x, y) → unwrap_or nack.range 1 ≡ 1 → x ≤ y

-- the same of each element
abbrev pub AllFit : SnSize → List Nack → Type 0
AllFit size [] = Unit {0}
AllFit size (nack ∷ nacks) = NackFits size nack × AllFit size nacks

-- what the format of a STATUS can hold
abbrev pub StatusFits : SnSize → Status → Type 0
StatusFits size status = (status.ack < modulus size) × AllFit size status.nacks

-- the bits of an octet from one to another, where 7 is the first and 0 the last
abbrev pub bits : ℕ → ℕ → ℕ → ℕ
bits octet from to = octet / 2 ^ to % 2 ^ (from + 1 - to)

-- the value of a bit that says whether something follows
abbrev pub bit : Bool → ℕ
bit false = 0
bit true = 1

-- the octets begin with some that have P, and the others have Q
pub record Then (P Q : List ℕ → Type 0) (octets : List ℕ) : Type 0 where
  pub front : List ℕ
  pub rest : List ℕ
  pub both : octets ≡ front ++ rest
  pub first : P front
  pub second : Q rest

-- D/C is 0 and CPT is 000
pub record IsStatusType (octet : ℕ) : Type 0 where
  pub dc : bits octet 7 7 ≡ 0
  pub cpt : bits octet 6 4 ≡ 0

-- ACK_SN and E1 in the first three octets, with reserved bits that have R
abbrev pub IsHeader : (ℕ → Type 0) → SnSize → ℕ → ℕ → List ℕ → Type 0
IsHeader R S12 ack e1 (a ∷ b ∷ c ∷ []) = IsStatusType a × (ack ≡ bits a 3 0 * 256 + b) × (e1 ≡ bits c 7 7) × R (bits c 6 0)
IsHeader R S18 ack e1 (a ∷ b ∷ c ∷ []) = IsStatusType a × (ack ≡ bits a 3 0 * 16384 + b * 64 + bits c 7 2) × (e1 ≡ bits c 1 1) × R (bits c 0 0)
IsHeader R size ack e1 octets = ⊥

-- NACK_SN, E1, E2 and E3 in the first octets of an element
abbrev pub IsNackHead : (ℕ → Type 0) → SnSize → ℕ → ℕ → ℕ → ℕ → List ℕ → Type 0
IsNackHead R S12 sn e1 e2 e3 (a ∷ b ∷ []) = (sn ≡ a * 16 + bits b 7 4) × (e1 ≡ bits b 3 3) × (e2 ≡ bits b 2 2) × (e3 ≡ bits b 1 1) × R (bits b 0 0)
IsNackHead R S18 sn e1 e2 e3 (a ∷ b ∷ c ∷ []) = (sn ≡ a * 1024 + b * 4 + bits c 7 6) × (e1 ≡ bits c 5 5) × (e2 ≡ bits c 4 4) × (e3 ≡ bits c 3 3) × R (bits c 2 0)
IsNackHead R size sn e1 e2 e3 octets = ⊥

-- SOstart and SOend, where there is a part
abbrev pub IsPart : Option (ℕ × ℕ) → List ℕ → Type 0
IsPart None [] = Unit {0}
IsPart (Some part) (a ∷ b ∷ c ∷ d ∷ []) = (part.0 ≡ a * 256 + b) × (part.1 ≡ c * 256 + d)
IsPart part octets = ⊥

-- the NACK range, where there is one
abbrev pub IsRange : Option ℕ → List ℕ → Type 0
IsRange None [] = Unit {0}
IsRange (Some range) (a ∷ []) = range ≡ a
IsRange range octets = ⊥

-- the octets of an element with this E1: E2 says whether it has a part, E3 whether it has a range
abbrev pub SpellsNack : (ℕ → Type 0) → SnSize → Nack → ℕ → List ℕ → Type 0
SpellsNack R size nack e1 octets = Then (IsNackHead R size nack.sn e1 (bit (is_some nack.part)) (bit (is_some nack.range))) (Then (IsPart nack.part) (IsRange nack.range)) octets

-- the same of an element that stands for something: a range is at least 1, and a part of one SDU doesn't run backwards
pub record IsNack (R : ℕ → Type 0) (size : SnSize) (nack : Nack) (e1 : ℕ) (octets : List ℕ) : Type 0 where
  pub spelt : SpellsNack R size nack e1 octets
  pub range : nack.range ≢ Some 0
  pub order : (x y : ℕ) → nack.part ≡ Some (x, y) → unwrap_or nack.range 1 ≡ 1 → x ≤ y

-- E1 before these elements: it says whether there is one
abbrev pub e1_before : List Nack → ℕ
e1_before [] = 0
e1_before (nack ∷ nacks) = 1

-- the octets of elements, one behind the other, and none behind the last
abbrev pub IsNacks : (ℕ → Type 0) → SnSize → List Nack → List ℕ → Type 0
IsNacks R size [] octets = octets ≡ []
IsNacks R size (nack ∷ nacks) octets = Then (IsNack R size nack (e1_before nacks)) (λ rest. IsNacks R size nacks rest) octets

-- the octets of a STATUS whose reserved bits have R
abbrev pub IsStatusWith : (ℕ → Type 0) → SnSize → Status → List ℕ → Type 0
IsStatusWith R size status octets = Then (IsHeader R size status.ack (e1_before status.nacks)) (λ rest. IsNacks R size status.nacks rest) octets

-- any value
abbrev pub IsFree : ℕ → Type 0
IsFree reserved = Unit {0}

-- 0
abbrev pub IsZero : ℕ → Type 0
IsZero reserved = reserved ≡ 0

-- the octets spell the STATUS; reserved bits are free
abbrev pub IsStatus : SnSize → Status → List ℕ → Type 0
IsStatus size status octets = IsStatusWith IsFree size status octets

-- the same with reserved bits 0
abbrev pub IsPlainStatus : SnSize → Status → List ℕ → Type 0
IsPlainStatus size status octets = IsStatusWith IsZero size status octets

-- the first three octets, written with reserved bits 0
abbrev pub header_of : SnSize → ℕ → ℕ → List ℕ
header_of S12 ack e1 = (ack / 256) ∷ (ack % 256) ∷ (e1 * 128) ∷ []
header_of S18 ack e1 = (ack / 16384) ∷ (ack / 64 % 256) ∷ (ack % 64 * 4 + e1 * 2) ∷ []

-- the first octets of an element, written so
abbrev pub nack_head_of : SnSize → ℕ → ℕ → ℕ → ℕ → List ℕ
nack_head_of S12 sn e1 e2 e3 = (sn / 16) ∷ (sn % 16 * 16 + e1 * 8 + e2 * 4 + e3 * 2) ∷ []
nack_head_of S18 sn e1 e2 e3 = (sn / 1024) ∷ (sn / 4 % 256) ∷ (sn % 4 * 64 + e1 * 32 + e2 * 16 + e3 * 8) ∷ []

-- two octets for SOstart and two for SOend
abbrev pub octets_of_part : Option (ℕ × ℕ) → List ℕ
octets_of_part None = []
octets_of_part (Some part) = (part.0 / 256) ∷ (part.0 % 256) ∷ (part.1 / 256) ∷ (part.1 % 256) ∷ []

-- one octet for the range
abbrev pub octets_of_range : Option ℕ → List ℕ
octets_of_range None = []
octets_of_range (Some range) = range ∷ []

-- an element with this E1, written so
abbrev pub nack_of : SnSize → Nack → ℕ → List ℕ
nack_of size nack e1 = nack_head_of size nack.sn e1 (bit (is_some nack.part)) (bit (is_some nack.range)) ++ octets_of_part nack.part ++ octets_of_range nack.range

-- elements, each with an E1 that says whether another one follows
abbrev pub nacks_of : SnSize → List Nack → List ℕ
nacks_of size [] = []
nacks_of size (nack ∷ nacks) = nack_of size nack (e1_before nacks) ++ nacks_of size nacks

-- the one spelling of a STATUS with reserved bits 0
abbrev pub status_bytes : SnSize → Status → List ℕ
status_bytes size status = header_of size status.ack (e1_before status.nacks) ++ nacks_of size status.nacks

-- how many octets an element has before its part and its range
abbrev pub nack_head_len : SnSize → ℕ
nack_head_len S12 = 2
nack_head_len S18 = 3

-- how many it has in all: 4 more for a part, and 1 more for a range
abbrev pub nack_len : SnSize → Nack → ℕ
nack_len size nack = nack_head_len size + 4 * bit (is_some nack.part) + bit (is_some nack.range)

-- how many all elements have
abbrev pub nacks_len : SnSize → List Nack → ℕ
nacks_len size nacks = sum_by (nack_len size) nacks

-- how many a STATUS has
abbrev pub status_len : SnSize → Status → ℕ
status_len size status = 3 + nacks_len size status.nacks

-- what is wrong with the first octets: there is none; D/C is 1; CPT isn't 000; there are fewer than three
abbrev pub IsHeaderFault : List ℕ → StatusFault → Type 0
IsHeaderFault [] Short = Unit {0}
IsHeaderFault (a ∷ octets) IsData = bits a 7 7 ≡ 1
IsHeaderFault (a ∷ octets) ReservedType = (bits a 7 7 ≡ 0) × (bits a 6 4 ≢ 0)
IsHeaderFault (a ∷ octets) Short = IsStatusType a × (length octets < 2)
IsHeaderFault octets fault = ⊥

-- how many octets the element at the front has at least, by its E2 and E3 where they are there
abbrev pub nack_len_at : SnSize → List ℕ → ℕ
nack_len_at S12 (a ∷ b ∷ octets) = 2 + 4 * bits b 2 2 + bits b 1 1
nack_len_at S12 octets = 2
nack_len_at S18 (a ∷ b ∷ c ∷ octets) = 3 + 4 * bits c 4 4 + bits c 3 3
nack_len_at S18 octets = 3

-- what is wrong with an element: its range is 0, or its part runs backwards in one SDU
abbrev pub IsWrongNack : Nack → StatusFault → Type 0
IsWrongNack nack ZeroRange = nack.range ≡ Some 0
IsWrongNack nack BackPart = (start : ℕ) × (end : ℕ) × (nack.part ≡ Some (start, end)) × (unwrap_or nack.range 1 ≡ 1) × (end < start)
IsWrongNack nack fault = ⊥

-- what is wrong with the element at the front: it isn't whole, or is whole and wrong
abbrev pub IsNackFault : SnSize → List ℕ → StatusFault → Type 0
IsNackFault size octets Short = length octets < nack_len_at size octets
IsNackFault size octets fault = (nack : Nack) × (e1 : ℕ) × IsWrongNack nack fault × Then (SpellsNack IsFree size nack e1) (λ rest. Unit {0}) octets

-- the same of the element behind these, each of which says that another one follows
abbrev pub IsFaultBehind : SnSize → List Nack → StatusFault → List ℕ → Type 0
IsFaultBehind size [] fault octets = IsNackFault size octets fault
IsFaultBehind size (nack ∷ nacks) fault octets = Then (IsNack IsFree size nack 1) (λ rest. IsFaultBehind size nacks fault rest) octets

-- the first fault of the octets: one of the header; or of an element behind right ones; or octets behind a STATUS
pub data IsStatusFault (size : SnSize) (octets : List ℕ) : StatusFault → Type 0 where
  of_header : {fault : StatusFault} → IsHeaderFault octets fault → IsStatusFault size octets fault
  of_nack : {fault : StatusFault} (ack : ℕ) (nacks : List Nack) → Then (IsHeader IsFree size ack 1) (λ rest. IsFaultBehind size nacks fault rest) octets → IsStatusFault size octets fault
  of_end : (status : Status) → Then (IsStatus size status) (λ rest. 0 < length rest) octets → IsStatusFault size octets Trailing

-- an element stands behind the header, whole and right
abbrev pub HasElement : SnSize → List ℕ → Type 0
HasElement size octets = (ack : ℕ) × Then (IsHeader IsFree size ack 1) (λ behind. (nack : Nack) × (e1 : ℕ) × Then (IsNack IsFree size nack e1) (λ rest. Unit {0}) behind) octets

-- this answer, or want of memory
abbrev pub IsUnlessMemory : Result Status StatusFault → Result Status StatusFault → Type 0
IsUnlessMemory result answer = (result ≡ answer) ⊎ (result ≡ Err Memory)
