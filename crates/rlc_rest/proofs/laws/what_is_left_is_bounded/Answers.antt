use Rattle.rlc_rest.proofs.Bounds.{rest_bounded}
use Rattle.rlc_rest.proofs.laws.what_is_left_is_bounded.Goals as goal

pub returns : goal.returns
returns c = rest_bounded
