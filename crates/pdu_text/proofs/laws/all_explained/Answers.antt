use Rattle.pdu_text.proofs.Explained.{all_explained}
use Rattle.pdu_text.proofs.laws.all_explained.Goals as goal

pub returns : goal.returns
returns c = all_explained
