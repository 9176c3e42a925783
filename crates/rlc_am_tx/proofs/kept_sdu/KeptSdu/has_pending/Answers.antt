use Rattle.std.proofs.Common.{Bool, Some, sym, subst}
use Rattle.std.specs.Bool.{MatchBool}
use Rattle.rlc_am_tx.specs.Buffer.{IsPending, IsIdle}
use Rattle.rlc_am_tx.proofs.Flagged.{some_pending}
use Rattle.rlc_am_tx.proofs.kept_sdu.KeptSdu.has_pending.Goals as goal

pub returns : goal.returns
returns c = subst (λ (b : Bool). MatchBool b (IsPending (Some c.args.self.now)) (IsIdle (Some c.args.self.now))) (sym c.is_some.ensures) (some_pending c.args.self.now c.first_pending.result c.first_pending.ensures.run c.first_pending.ensures.none)
