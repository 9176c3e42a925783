use Rattle.std.proofs.Common.{◌≡◌, ℕ, ◌+◌, ◌/◌, ◌%◌, ◌<◌, List, ◌∷◌, refl, arith}
use Rattle.std.specs.Prelude.{All}
use Rattle.link_base.specs.declared.names.SnSize.{SnSize}
use Rattle.link_base.specs.declared.names.SnSize.TheVariants.{S12, S18}
use Rattle.pdcp_pdu.specs.Pdcp.{Pdcp, Sdu, Report, IsPdcp, PdcpFits, pdcp_bytes, IsPlainPdcp}
use Rattle.pdcp_pdu.proofs.laws.one_spelling_without_reserved_bits.Goals as goal

-- what fits is spelt by its octets with reserved bits 0
spelt : (size : SnSize) (v : Pdcp) → PdcpFits size v → IsPdcp size v (pdcp_bytes size v) × IsPlainPdcp size v (pdcp_bytes size v)
spelt S12 (Sdu sn body) fits = ((omega arith, omega arith, refl, fits.1), omega arith)
spelt S18 (Sdu sn body) fits = ((omega arith, omega arith, refl, fits.1), omega arith)
spelt size (Report fmc map) fits = (((refl, refl), omega arith, refl, fits.1), refl)

-- each octet of a spelling with reserved bits 0 is the one that is written
one : (size : SnSize) (v : Pdcp) (bytes : List ℕ) → All (λ octet. octet < 256) bytes → IsPdcp size v bytes → IsPlainPdcp size v bytes → bytes ≡ pdcp_bytes size v
one S12 (Sdu sn body) (first ∷ low ∷ rest) small x free =
    let below : low < 256 = small 1 0 (omega arith) in
    let a : first ≡ 128 + sn / 256 = omega (arith, x.0, x.1) in
    let b : low ≡ sn % 256 = omega (arith, x.1) in
    cc (x.2)
one S18 (Sdu sn body) (first ∷ middle ∷ low ∷ rest) small x free =
    let middle_below : middle < 256 = small 1 0 (omega arith) in
    let low_below : low < 256 = small 2 0 (omega arith) in
    let a : first ≡ 128 + sn / 65536 = omega (arith, x.0, x.1) in
    let b : middle ≡ sn / 256 % 256 = omega (arith, x.1) in
    let c : low ≡ sn % 256 = omega (arith, x.1) in
    cc (x.2)
one size (Report fmc map) (first ∷ a ∷ b ∷ c ∷ d ∷ rest) small x free =
    let a_below : a < 256 = small 1 0 (omega arith) in
    let b_below : b < 256 = small 2 0 (omega arith) in
    let c_below : c < 256 = small 3 0 (omega arith) in
    let d_below : d < 256 = small 4 0 (omega arith) in
    let e : first ≡ 0 = omega (arith, x.0) in
    let f : a ≡ fmc / 16777216 = omega (arith, x.1) in
    let g : b ≡ fmc / 65536 % 256 = omega (arith, x.1) in
    let h : c ≡ fmc / 256 % 256 = omega (arith, x.1) in
    let i : d ≡ fmc % 256 = omega (arith, x.1) in
    cc (x.2)
one size v bytes small x free = absurd x

pub returns : goal.returns
returns c = (spelt, one)
