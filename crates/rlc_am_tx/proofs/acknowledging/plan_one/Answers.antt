use Rattle.std.proofs.Common.{Option, subst}
use Rattle.rlc_model.specs.Tx.{Kept}
use Rattle.rlc_am_tx.specs.Acknowledging.{EntersWaiting}
use Rattle.rlc_am_tx.proofs.Waiting.{none_enters}
use Rattle.rlc_am_tx.proofs.acknowledging.plan_one.Goals as goal

pub returns-in_default-clause-enters : goal.returns-in_default-clause-enters
returns-in_default-clause-enters c e = absurd (none_enters c.args.kept_sdu.now c.args.naming.now c.in_default.is c.requires e)

pub returns-in_ok-push-2-clause-enters : goal.returns-in_ok-push-2-clause-enters
returns-in_ok-push-2-clause-enters c e = c.in_ok-enter.ensures.ok (subst (λ (o : Option Kept). EntersWaiting o c.args.naming.now) c.in-Some.is e)

pub returns-else-is_mark-clause-enters : goal.returns-else-is_mark-clause-enters
returns-else-is_mark-clause-enters c e = c.in_ok-enter.ensures.ok (subst (λ (o : Option Kept). EntersWaiting o c.args.naming.now) c.in-Some.is e)
