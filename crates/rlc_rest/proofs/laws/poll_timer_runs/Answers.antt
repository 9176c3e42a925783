use Rattle.rlc_rest.proofs.Choosing.{poll_runs}
use Rattle.rlc_rest.proofs.laws.poll_timer_runs.Goals as goal

pub returns : goal.returns
returns c = poll_runs
