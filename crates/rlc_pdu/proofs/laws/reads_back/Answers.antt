use Rattle.rlc_pdu.proofs.Spelling.{reads_back}
use Rattle.rlc_pdu.proofs.laws.reads_back.Goals as goal

pub returns : goal.returns
returns c = reads_back
