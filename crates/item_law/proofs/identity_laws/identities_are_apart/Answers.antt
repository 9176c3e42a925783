use Rattle.item_law.proofs.laws.Identities.{ids_apart, ids_have_rows}
use Rattle.item_law.proofs.identity_laws.identities_are_apart.Goals as goal

pub returns : goal.returns
returns c = record { apart = ids_apart; rows = ids_have_rows }
