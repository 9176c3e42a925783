use Rattle.std.proofs.Common.{refl}
use Rattle.rlc_model.specs.Rx.TriggerMoves.{runs_on}
use Rattle.rlc_am_rx.proofs.reassembly.trigger_after.Goals as goal

pub returns-in-Some : goal.returns-in-Some
returns-in-Some c = runs_on c.in-Some.trigger c.in-Some.is (c.if-runs_on.ensures.0 refl) refl
