use Rattle.item_law.proofs.laws.Handed.{hears_submitted, hands_up_prefix, hands_up_all}
use Rattle.item_law.proofs.hand_up_laws.what_was_submitted_is_handed_up.Goals as goal

pub returns : goal.returns
returns c = record { heard = hears_submitted; prefix = hands_up_prefix; all = hands_up_all }
