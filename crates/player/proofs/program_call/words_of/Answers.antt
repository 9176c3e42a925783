use Rattle.std.proofs.Common.{◌∙◌}
use Rattle.std.proofs.lemmas.Result.{IfOk-weaker}
use Rattle.std.proofs.IntoIterSteps.{All-taken}
use Rattle.player.proofs.Arguments.{behind_first}
use Rattle.player.proofs.program_call.words_of.Goals as goal

pub returns : goal.returns
returns c =
    IfOk-weaker c.collect.result _ _ (λ words h.
    let last = h.1.2 tt in
    h.2.0 ∙ (All-taken c.next.new.self h.0 (last.0, (h.1.0, h.1.1, last.1)) ∙ behind_first c.args.args c.next.new.self c.next.result c.next.ensures.cases)) c.collect.ensures.ran
