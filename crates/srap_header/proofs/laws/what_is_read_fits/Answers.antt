use Rattle.std.proofs.Common.{ℕ, ◌<◌, List, ◌∷◌, arith}
use Rattle.std.specs.Prelude.{All}
use Rattle.srap_header.specs.Srap.{Srap, IsSrap, SrapFits}
use Rattle.srap_header.proofs.laws.what_is_read_fits.Goals as goal

fits : (v : Srap) (bytes : List ℕ) → All (λ octet. octet < 256) bytes → IsSrap v bytes → SrapFits v
fits v (first ∷ ue ∷ body) small x = record { bearer = omega (arith, x.0.bearer_id); ue = rw x.1 (small 1 0 (omega arith)); body = rw x.2 x.3 }
fits v bytes small x = absurd x

pub returns : goal.returns
returns c = fits
