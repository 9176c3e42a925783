use Rattle.rlc_status.proofs.Total.{read_or_refused}
use Rattle.rlc_status.proofs.laws.read_or_refused.Goals as goal

pub returns : goal.returns
returns c = read_or_refused
