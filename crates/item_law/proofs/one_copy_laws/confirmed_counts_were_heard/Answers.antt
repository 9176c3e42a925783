use Rattle.item_law.proofs.laws.OneCopy.{confirms_heard}
use Rattle.item_law.proofs.one_copy_laws.confirmed_counts_were_heard.Goals as goal

pub returns : goal.returns
returns c = confirms_heard
