use Rattle.heard_law.proofs.HandingUp.{orderly_hand_ups}
use Rattle.heard_law.proofs.laws.orderly_hand_ups_are_exact.Goals as goal

pub returns : goal.returns
returns c = orderly_hand_ups c.laws_of_hops.ensures c.laws_of_hearings.ensures
