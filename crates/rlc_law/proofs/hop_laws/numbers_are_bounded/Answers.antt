use Rattle.rlc_law.proofs.Bounded.{numbers_bounded}
use Rattle.rlc_law.proofs.hop_laws.numbers_are_bounded.Goals as goal

pub returns : goal.returns
returns c = numbers_bounded
