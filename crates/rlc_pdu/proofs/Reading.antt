-- What octets spell.
use Rattle.std.proofs.Common.{◌≡◌, ℕ, ◌+◌, ◌≤◌, ◌==◌, true, cond, ◌⊎◌, inl, inr, Option, Some, None, List, length, refl, arith}
use Rattle.std.proofs.lemmas.Bool.Decides.{nat_tests}
use Rattle.link_base.specs.declared.names.SnSize.{SnSize}
use Rattle.rlc_pdu.specs.declared.amd.Si.{Si}
use Rattle.rlc_pdu.specs.declared.amd.Si.TheVariants.{Whole, First, Last, Middle}
use Rattle.rlc_pdu.specs.declared.amd.AmdFault.{AmdFault}
use Rattle.link_base.specs.declared.limits.TheConstants.{LONGEST_RLC_SDU}
use Rattle.rlc_pdu.specs.Amd.{Amd, IsAmd, IsAmdFault, dc_field, p_field, si_field, sn_field, so_field, data_field, has_so, amd_header_len, fault_tests, first_holding}
use Rattle.link_base.specs.Octets.{AreOctets}
use Rattle.rlc_pdu.specs.Laws.{OneReading, NotBoth, PduOrFault}

-- one PDU at most
pub one_reading : OneReading
one_reading size v w octets x y = grind arith

-- what the tests leave
record Passes (size : SnSize) (octets : List ℕ) : Type 0 where
  data_pdu : dc_field octets ≡ 1
  whole : amd_header_len size (si_field octets) ≤ length octets
  offset : has_so (si_field octets) ≡ true → 1 ≤ so_field size octets
  some : 1 ≤ length (data_field size octets)
  end : so_field size octets + length (data_field size octets) ≤ LONGEST_RLC_SDU

-- a PDU passes the tests
passes : (size : SnSize) (v : Amd) (octets : List ℕ) → IsAmd size v octets → Passes size octets
passes size v octets x = grind arith

-- no test holds of octets that pass them
none_holds : (size : SnSize) (octets : List ℕ) → Passes size octets → first_holding (fault_tests size octets) ≡ None
unfolding fault_tests
none_holds size octets x = grind (arith, nat_tests)

-- and of no others
all_passed : (size : SnSize) (octets : List ℕ) → first_holding (fault_tests size octets) ≡ None → Passes size octets
unfolding fault_tests
all_passed size octets none = grind (arith, nat_tests)

pub not_both : NotBoth
not_both size v octets fault x y = let none = none_holds size octets (passes size v octets x) in cc

-- the kind of segment that two bits stand for
abbrev part : ℕ → Si
part si = cond (si == 0) Whole (cond (si == 1) First (cond (si == 2) Last Middle))

-- the PDU of octets that pass the tests
abbrev reading : SnSize → List ℕ → Amd
reading size octets = record { sn = sn_field size octets; poll = p_field octets == 1; si = part (si_field octets); so = so_field size octets; body = data_field size octets }

spelt : (size : SnSize) (octets : List ℕ) → AreOctets octets → Passes size octets → IsAmd size (reading size octets) octets
spelt size octets small x = grind (arith, nat_tests)

either_of : (size : SnSize) (octets : List ℕ) → AreOctets octets → (found : Option AmdFault) → first_holding (fault_tests size octets) ≡ found → ((v : Amd) × IsAmd size v octets) ⊎ ((fault : AmdFault) × IsAmdFault size octets fault)
either_of size octets small None is = inl (reading size octets, spelt size octets small (all_passed size octets is))
either_of size octets small (Some fault) is = inr (fault, is)

-- a PDU, or the fault of the first test that holds
pub either : PduOrFault
either size octets small = either_of size octets small (first_holding (fault_tests size octets)) refl
