use Rattle.script_text.proofs.TraceTexts.{one_history}
use Rattle.script_text.proofs.laws.one_history_is_told.Goals as goal

pub returns : goal.returns
returns c = one_history
