-- What holds of octets and SRAP data PDUs.
use Rattle.std.proofs.Common.{◌≡◌, ◌⊎◌, inl, inr, ℕ, ◌%◌, ◌<◌, List, [], ◌∷◌, Option, Some, None, refl, arith}
use Rattle.std.proofs.lemmas.Bool.Decides.{nat_tests}
use Rattle.srap_header.specs.declared.pdu.SrapFault.{SrapFault}
use Rattle.srap_header.specs.Srap.{Srap, srap, IsSrap, IsSrapFault, first_srap_fault}
use Rattle.srap_header.specs.Laws.{OneReading, NoFaultWhereRead}
use Rattle.link_base.specs.Octets.{AreOctets}

-- they spell one PDU at most
pub one_srap : OneReading
one_srap v w (first ∷ ue ∷ body) x y = grind arith
one_srap v w bytes x y = absurd x

-- they have no fault where they spell one
pub no_srap_fault : NoFaultWhereRead
no_srap_fault v (first ∷ ue ∷ body) fault x y = grind (arith, nat_tests)
no_srap_fault v bytes fault x y = absurd x

-- the PDU of octets that have no fault
spelt : (first ue byte : ℕ) (body : List ℕ) → first < 256 → first_srap_fault (first ∷ ue ∷ byte ∷ body) ≡ None → IsSrap (srap (first % 32) ue (byte ∷ body)) (first ∷ ue ∷ byte ∷ body)
spelt first ue byte body small none = grind (arith, nat_tests)

-- a header without a data field has a fault
cut_has_fault : (first : ℕ) → first_srap_fault (first ∷ []) ≡ None → ⊥
cut_has_fault first none = grind (arith, nat_tests)

header_has_fault : (first ue : ℕ) → first_srap_fault (first ∷ ue ∷ []) ≡ None → ⊥
header_has_fault first ue none = grind (arith, nat_tests)

either_of : (bytes : List ℕ) → AreOctets bytes → (found : Option SrapFault) → first_srap_fault bytes ≡ found → ((v : Srap) × IsSrap v bytes) ⊎ ((fault : SrapFault) × IsSrapFault bytes fault)
either_of bytes small (Some fault) is = inr (fault, is)
either_of [] small None is = cc
either_of (first ∷ []) small None is = absurd (cut_has_fault first is)
either_of (first ∷ ue ∷ []) small None is = absurd (header_has_fault first ue is)
either_of (first ∷ ue ∷ byte ∷ body) small None is = inl (srap (first % 32) ue (byte ∷ body), spelt first ue byte body (small 0 first (omega arith)) is)

-- they spell one or have a fault
pub srap_or_fault : (bytes : List ℕ) → AreOctets bytes → ((v : Srap) × IsSrap v bytes) ⊎ ((fault : SrapFault) × IsSrapFault bytes fault)
srap_or_fault bytes small = either_of bytes small (first_srap_fault bytes) refl
