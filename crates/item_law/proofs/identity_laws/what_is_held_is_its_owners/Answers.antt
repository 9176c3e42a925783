use Rattle.item_law.proofs.laws.Identities.{held_for_owner, held_as_attached}
use Rattle.item_law.proofs.identity_laws.what_is_held_is_its_owners.Goals as goal

pub returns : goal.returns
returns c = record { owner = held_for_owner; attached = held_as_attached }
