use Rattle.script_text.proofs.OneParse.{one_parse}
use Rattle.script_text.proofs.laws.one_answer_is_parsed.Goals as goal

pub returns : goal.returns
returns c = one_parse
