use Rattle.script_text.proofs.SpeltIsRead.{spelt_is_read}
use Rattle.script_text.proofs.laws.what_is_spelt_is_read.Goals as goal

pub returns : goal.returns
returns c = spelt_is_read
