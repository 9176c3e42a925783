use Rattle.rlc_status.proofs.Octets.{spelt_fits}
use Rattle.rlc_status.proofs.laws.spelt_fits.Goals as goal

pub returns : goal.returns
returns c = spelt_fits
