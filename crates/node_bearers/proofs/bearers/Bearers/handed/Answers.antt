use Rattle.std.proofs.Common.{sym, ◌∙◌, ap}
use Rattle.node_model.specs.State.{Incoming}
use Rattle.node_bearers.proofs.bearers.Bearers.handed.Goals as goal

pub returns-in-Some : goal.returns-in-Some
returns-in-Some c = c.handed.ensures ∙ ap (λ (i : Incoming). i.receiver.handed) (sym c.in-Some.ensures.some)

pub returns-in-None : goal.returns-in-None
returns-in-None c = sym (ap (λ (i : Incoming). i.receiver.handed) c.in-None.ensures.none)
