use Rattle.item_law.proofs.laws.Identities.{planned_id_is_free}
use Rattle.item_law.proofs.identity_laws.planned_identities_are_free.Goals as goal

pub returns : goal.returns
returns c = planned_id_is_free
