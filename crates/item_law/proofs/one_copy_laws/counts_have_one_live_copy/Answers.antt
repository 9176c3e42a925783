use Rattle.item_law.proofs.laws.OneCopy.{live_once, live_unheard}
use Rattle.item_law.proofs.one_copy_laws.counts_have_one_live_copy.Goals as goal

pub returns : goal.returns
returns c = record { once = live_once; unheard = live_unheard }
