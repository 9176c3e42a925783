use Rattle.std.proofs.Common.{[], sym, subst}
use Rattle.std.proofs.lemmas.List.{append-nil}
use Rattle.chain_core.specs.declared.lines.Carried.{Carried}
use Rattle.chain_core.specs.Confirming.{Watches}
use Rattle.chain_core.proofs.Quiet.{submit_quiet, grant_quiet, lose_quiet, expire_quiet, push_quiet, pull_quiet, report_quiet}
use Rattle.chain_core.proofs.chain.Chain.carry.Goals as goal

pub returns-in_ok-reply-in-Submit-clause-watches : goal.returns-in_ok-reply-in-Submit-clause-watches
returns-in_ok-reply-in-Submit-clause-watches c =
    subst (λ (v : Carried). Watches c.args.self.now v.watch c.submit.new.self) (sym c.unwatched.ensures)
    (submit_quiet c.args.self.now [] c.in_ok-reply-in-Submit.reply c.submit.new.self c.in-Submit.key c.as_slice.result.now c.in_ok-reply-in-Submit.ensures)

pub returns-in_ok-reply-in-Grant-clause-watches : goal.returns-in_ok-reply-in-Grant-clause-watches
returns-in_ok-reply-in-Grant-clause-watches c =
    subst (λ (v : Carried). Watches c.args.self.now v.watch c.grant.new.self) (sym c.unwatched-in-Grant.ensures)
    (grant_quiet c.args.self.now [] c.in_ok-reply-in-Grant.reply c.grant.new.self c.in-Grant.port c.in-Grant.way c.in-Grant.n c.in_ok-reply-in-Grant.ensures)

pub returns-in-Lose-clause-watches : goal.returns-in-Lose-clause-watches
returns-in-Lose-clause-watches c =
    subst (λ (v : Carried). Watches c.args.self.now v.watch c.lose-reply.new.self) (sym c.unwatched-in-Lose.ensures)
    (lose_quiet c.args.self.now [] c.lose-reply.result c.lose-reply.new.self c.in-Lose.ticket c.lose-reply.ensures)

pub returns-in_ok-reply-in-Expire-clause-watches : goal.returns-in_ok-reply-in-Expire-clause-watches
returns-in_ok-reply-in-Expire-clause-watches c =
    subst (λ (v : Carried). Watches c.args.self.now v.watch c.expire.new.self) (sym c.unwatched-in-Expire.ensures)
    (expire_quiet c.args.self.now c.in_ok-reply-in-Expire.ensures.own c.in_ok-reply-in-Expire.reply c.expire.new.self c.in-Expire.port c.in-Expire.side c.in-Expire.timer c.in_ok-reply-in-Expire.ensures.does)

pub returns-in-Push-clause-watches : goal.returns-in-Push-clause-watches
returns-in-Push-clause-watches c =
    subst (λ (v : Carried). Watches c.args.self.now v.watch c.push-reply.new.self) (sym c.unwatched-in-Push.ensures)
    (push_quiet c.args.self.now [] c.push-reply.result c.push-reply.new.self c.in-Push.port c.push-reply.ensures)

pub returns-in_ok-reply-in-Pull-clause-watches : goal.returns-in_ok-reply-in-Pull-clause-watches
returns-in_ok-reply-in-Pull-clause-watches c =
    subst (λ (v : Carried). Watches c.args.self.now v.watch c.pull.new.self) (sym c.unwatched-in-Pull.ensures)
    (pull_quiet c.args.self.now [] c.in_ok-reply-in-Pull.reply c.pull.new.self c.in-Pull.port c.in_ok-reply-in-Pull.ensures)

pub returns-in-Report-clause-carries : goal.returns-in-Report-clause-carries
returns-in-Report-clause-carries c = rw (c.in-Report.is, c.unwatched-in-Report.ensures) (record { own = []; does = c.report-reply.ensures; adds = sym (append-nil c.args.log.now) })

pub returns-in-Report-clause-watches : goal.returns-in-Report-clause-watches
returns-in-Report-clause-watches c =
    subst (λ (v : Carried). Watches c.args.self.now v.watch c.report-reply.new.self) (sym c.unwatched-in-Report.ensures)
    (report_quiet c.args.self.now [] c.report-reply.result c.report-reply.new.self c.in-Report.key c.report-reply.ensures)
