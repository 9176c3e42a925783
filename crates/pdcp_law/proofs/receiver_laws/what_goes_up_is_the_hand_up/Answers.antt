use Rattle.pdcp_law.proofs.Holding.{hands_up_the_hand_up, each_is_heard}
use Rattle.pdcp_law.proofs.receiver_laws.what_goes_up_is_the_hand_up.Goals as goal

pub returns-clause-handed : goal.returns-clause-handed
returns-clause-handed c = hands_up_the_hand_up

pub returns-clause-heard : goal.returns-clause-heard
returns-clause-heard c = each_is_heard
