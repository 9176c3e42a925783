use Rattle.script_text.proofs.ReadsBack.{text_spells, reads_back}
use Rattle.script_text.proofs.laws.text_is_read_back.Goals as goal

pub returns : goal.returns
returns c = record { spelt = text_spells; read = reads_back }
