use Rattle.rlc_rest.proofs.Choosing.{moves_while_unconfirmed, down_is_status}
use Rattle.rlc_rest.proofs.Falling.{move_falls}
use Rattle.rlc_rest.proofs.laws.next_moves_end.Goals as goal

pub returns-clause-comes : goal.returns-clause-comes
returns-clause-comes c = moves_while_unconfirmed

pub returns-clause-falls : goal.returns-clause-falls
returns-clause-falls c = move_falls

pub returns-clause-down : goal.returns-clause-down
returns-clause-down c = down_is_status
