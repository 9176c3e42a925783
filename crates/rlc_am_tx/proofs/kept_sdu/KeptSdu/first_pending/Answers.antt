use Rattle.std.proofs.Common.{IfSome, subst}
use Rattle.rlc_model.specs.Numbers.{IsFirstRun}
use Rattle.rlc_model.specs.Tx.{Kept}
use Rattle.rlc_am_tx.proofs.Flagged.{run_taken}
use Rattle.rlc_am_tx.proofs.kept_sdu.KeptSdu.first_pending.Goals as goal

pub returns-clause-run : goal.returns-clause-run
returns-clause-run c = subst (λ (k : Kept). IfSome c.first.result (λ run. IsFirstRun k.flags run.0 run.1)) c.self.view_is (run_taken c.self.inside.pending c.self.inside.sent c.self.invariant.pending c.first.result c.first.ensures.run)
