use Rattle.pdu_text.proofs.Explained.{one_explanation}
use Rattle.pdu_text.proofs.laws.one_explanation.Goals as goal

pub returns : goal.returns
returns c = one_explanation
