use Rattle.script_text.proofs.OneLine.{one_line}
use Rattle.script_text.proofs.laws.one_line_is_spelt.Goals as goal

pub returns : goal.returns
returns c = one_line
