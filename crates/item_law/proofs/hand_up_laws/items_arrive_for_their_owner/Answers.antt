use Rattle.item_law.proofs.laws.Handed.{relays_for_owner, arrives_for_owner}
use Rattle.item_law.proofs.hand_up_laws.items_arrive_for_their_owner.Goals as goal

pub returns : goal.returns
returns c = record { relay = relays_for_owner; ends = arrives_for_owner }
