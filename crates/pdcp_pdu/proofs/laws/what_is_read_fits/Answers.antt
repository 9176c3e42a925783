use Rattle.std.proofs.Common.{ℕ, ◌<◌, List, ◌∷◌, arith}
use Rattle.std.specs.Prelude.{All}
use Rattle.link_base.specs.declared.names.SnSize.{SnSize}
use Rattle.link_base.specs.declared.names.SnSize.TheVariants.{S12, S18}
use Rattle.pdcp_pdu.specs.Pdcp.{Pdcp, Sdu, Report, IsPdcp, PdcpFits}
use Rattle.pdcp_pdu.proofs.laws.what_is_read_fits.Goals as goal

fits : (size : SnSize) (v : Pdcp) (bytes : List ℕ) → All (λ octet. octet < 256) bytes → IsPdcp size v bytes → PdcpFits size v
fits S12 (Sdu sn body) (first ∷ low ∷ rest) small x = (omega (arith, x.1, small 1 0 (omega arith)), rw x.2 x.3)
fits S18 (Sdu sn body) (first ∷ middle ∷ low ∷ rest) small x =
    (omega (arith, x.1, small 1 0 (omega arith), small 2 0 (omega arith)), rw x.2 x.3)
fits size (Report fmc map) (first ∷ a ∷ b ∷ c ∷ d ∷ rest) small x =
    (omega (arith, x.1, small 1 0 (omega arith), small 2 0 (omega arith), small 3 0 (omega arith), small 4 0 (omega arith)), rw x.2 x.3)
fits size v bytes small x = absurd x

pub returns : goal.returns
returns c = fits
