use Rattle.rlc_status.proofs.Unique.{one_reading}
use Rattle.rlc_status.proofs.laws.one_reading.Goals as goal

pub returns : goal.returns
returns c = one_reading
