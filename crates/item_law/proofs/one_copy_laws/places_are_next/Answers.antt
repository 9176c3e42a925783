use Rattle.item_law.proofs.laws.OneCopy.{place_is_next}
use Rattle.item_law.proofs.one_copy_laws.places_are_next.Goals as goal

pub returns : goal.returns
returns c = place_is_next
