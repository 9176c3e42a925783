use Rattle.pdcp_law.proofs.OneList.{one_hand_up, one_sdu}
use Rattle.pdcp_law.proofs.SomeList.{some_hand_up}
use Rattle.pdcp_law.proofs.hand_up_laws.hand_up_has_one_list.Goals as goal

pub returns-clause-list : goal.returns-clause-list
returns-clause-list c = one_hand_up

pub returns-clause-some : goal.returns-clause-some
returns-clause-some c = some_hand_up

pub returns-clause-sdu : goal.returns-clause-sdu
returns-clause-sdu c = one_sdu
