use Rattle.item_law.proofs.laws.Recovered.{hears_second_copy}
use Rattle.item_law.proofs.one_copy_laws.a_purged_copy_is_given_again.Goals as goal

pub returns : goal.returns
returns c = hears_second_copy
