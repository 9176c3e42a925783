use Rattle.script_text.proofs.ReplyTexts.{one_reply}
use Rattle.script_text.proofs.EventTexts.{one_event}
use Rattle.script_text.proofs.TraceTexts.{one_answer}
use Rattle.script_text.proofs.laws.one_answer_is_told.Goals as goal

pub returns : goal.returns
returns c = record { reply = one_reply; event = one_event; answer = one_answer }
