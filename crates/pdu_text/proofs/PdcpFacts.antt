-- What holds of octets and PDCP PDUs.
use Rattle.std.proofs.Common.{◌≡◌, ◌⊎◌, inl, inr, Bool, true, false, ℕ, ◌+◌, ◌*◌, ◌%◌, ◌<◌, List, [], ◌∷◌, length, Option, Some, None, refl, arith}
use Rattle.std.proofs.lemmas.Bool.Decides.{nat_tests}
use Rattle.link_base.specs.Octets.{AreOctets}
use Rattle.link_base.specs.declared.names.SnSize.{SnSize}
use Rattle.link_base.specs.declared.names.SnSize.TheVariants.{S12, S18}
use Rattle.pdcp_pdu.specs.declared.pdu.PdcpFault.{PdcpFault}
use Rattle.pdcp_pdu.specs.Pdcp.{Pdcp, Sdu, Report, IsPdcp, IsPdcpFault, first_pdcp_fault, is_data}
use Rattle.pdcp_pdu.specs.Laws.{OneReading, NoFaultWhereRead}

-- no octets spell a data PDU and a status report
apart : (size : SnSize) (sn : ℕ) (body : List ℕ) (fmc : ℕ) (map : List ℕ) (bytes : List ℕ) → IsPdcp size (Sdu sn body) bytes → IsPdcp size (Report fmc map) bytes → ⊥
apart S12 sn body fmc map (first ∷ a ∷ b ∷ c ∷ d ∷ rest) x y = omega (arith, x.0, y.0)
apart S18 sn body fmc map (first ∷ a ∷ b ∷ c ∷ d ∷ rest) x y = omega (arith, x.0, y.0)
apart size sn body fmc map bytes x y = y

-- they spell one PDU at most
pub one_pdcp : OneReading
one_pdcp S12 (Sdu sn body) (Sdu m other) (first ∷ low ∷ rest) x y = grind arith
one_pdcp S18 (Sdu sn body) (Sdu m other) (first ∷ middle ∷ low ∷ rest) x y = grind arith
one_pdcp size (Report fmc map) (Report m other) (first ∷ a ∷ b ∷ c ∷ d ∷ rest) x y = grind arith
one_pdcp size (Sdu sn body) (Report m other) bytes x y = absurd (apart size sn body m other bytes x y)
one_pdcp size (Report m other) (Sdu sn body) bytes x y = absurd (apart size sn body m other bytes y x)
one_pdcp size v w bytes x y = absurd x

-- they have no fault where they spell one
pub no_pdcp_fault : NoFaultWhereRead
no_pdcp_fault S12 (Sdu sn body) (first ∷ low ∷ rest) fault x y = grind (arith, nat_tests)
no_pdcp_fault S18 (Sdu sn body) (first ∷ middle ∷ low ∷ rest) fault x y = grind (arith, nat_tests)
no_pdcp_fault size (Report fmc map) (first ∷ a ∷ b ∷ c ∷ d ∷ rest) fault x y = grind (arith, nat_tests)
no_pdcp_fault size v bytes fault x y = absurd x

-- they spell one or have a fault
abbrev Either : SnSize → List ℕ → Type 0
Either size bytes = ((v : Pdcp) × IsPdcp size v bytes) ⊎ ((fault : PdcpFault) × IsPdcpFault size bytes fault)

-- a PDU of octets that have no fault: a data PDU with 12-bit and with 18-bit SNs, and a status report
one_of_12 : (first low byte : ℕ) (body : List ℕ) → first < 256 → is_data (first ∷ low ∷ byte ∷ body) ≡ true → first_pdcp_fault S12 (first ∷ low ∷ byte ∷ body) ≡ None
    → IsPdcp S12 (Sdu (first % 16 * 256 + low) (byte ∷ body)) (first ∷ low ∷ byte ∷ body)
one_of_12 first low byte body small told none = grind (arith, nat_tests)

one_of_18 : (first middle low byte : ℕ) (body : List ℕ) → first < 256 → is_data (first ∷ middle ∷ low ∷ byte ∷ body) ≡ true → first_pdcp_fault S18 (first ∷ middle ∷ low ∷ byte ∷ body) ≡ None
    → IsPdcp S18 (Sdu (first % 4 * 65536 + middle * 256 + low) (byte ∷ body)) (first ∷ middle ∷ low ∷ byte ∷ body)
one_of_18 first middle low byte body small told none = grind (arith, nat_tests)

report_of : (size : SnSize) (first a b c d : ℕ) (map : List ℕ) → is_data (first ∷ a ∷ b ∷ c ∷ d ∷ map) ≡ false → first_pdcp_fault size (first ∷ a ∷ b ∷ c ∷ d ∷ map) ≡ None
    → IsPdcp size (Report (a * 16777216 + b * 65536 + c * 256 + d) map) (first ∷ a ∷ b ∷ c ∷ d ∷ map)
report_of S12 first a b c d map told none = grind (arith, nat_tests)
report_of S18 first a b c d map told none = grind (arith, nat_tests)

-- too few octets have a fault
none_of_few : (size : SnSize) (bytes : List ℕ) → length bytes < 3 → first_pdcp_fault size bytes ≡ None → ⊥
none_of_few S12 bytes few none = grind (arith, nat_tests)
none_of_few S18 bytes few none = grind (arith, nat_tests)

none_of_short : (size : SnSize) (bytes : List ℕ) → length bytes < 4 → is_data bytes ≡ true → first_pdcp_fault S18 bytes ≡ None → ⊥
none_of_short size bytes few told none = grind (arith, nat_tests)

none_of_cut_report : (size : SnSize) (bytes : List ℕ) → length bytes < 5 → is_data bytes ≡ false → first_pdcp_fault size bytes ≡ None → ⊥
none_of_cut_report S12 bytes few told none = grind (arith, nat_tests)
none_of_cut_report S18 bytes few told none = grind (arith, nat_tests)

by_kind : (size : SnSize) (bytes : List ℕ) (data_pdu : Bool) → AreOctets bytes → is_data bytes ≡ data_pdu → first_pdcp_fault size bytes ≡ None → (v : Pdcp) × IsPdcp size v bytes
by_kind size (first ∷ a ∷ b ∷ c ∷ d ∷ map) false small told none = (Report (a * 16777216 + b * 65536 + c * 256 + d) map, report_of size first a b c d map told none)
by_kind size bytes false small told none = absurd (none_of_cut_report size bytes (omega arith) told none)
by_kind S12 (first ∷ low ∷ byte ∷ body) true small told none = (Sdu (first % 16 * 256 + low) (byte ∷ body), one_of_12 first low byte body (small 0 first (omega arith)) told none)
by_kind S18 (first ∷ middle ∷ low ∷ byte ∷ body) true small told none = (Sdu (first % 4 * 65536 + middle * 256 + low) (byte ∷ body), one_of_18 first middle low byte body (small 0 first (omega arith)) told none)
by_kind S12 bytes true small told none = absurd (none_of_few S12 bytes (omega arith) none)
by_kind S18 bytes true small told none = absurd (none_of_short S18 bytes (omega arith) told none)

either_of : (size : SnSize) (bytes : List ℕ) → AreOctets bytes → (found : Option PdcpFault) → first_pdcp_fault size bytes ≡ found → ((v : Pdcp) × IsPdcp size v bytes) ⊎ ((fault : PdcpFault) × IsPdcpFault size bytes fault)
either_of size bytes small (Some fault) is = inr (fault, is)
either_of size bytes small None is = inl (by_kind size bytes (is_data bytes) small refl is)

-- they spell one or have a fault
pub pdcp_or_fault : (size : SnSize) (bytes : List ℕ) → AreOctets bytes → ((v : Pdcp) × IsPdcp size v bytes) ⊎ ((fault : PdcpFault) × IsPdcpFault size bytes fault)
pdcp_or_fault size bytes small = either_of size bytes small (first_pdcp_fault size bytes) refl
