use Rattle.std.proofs.Common.{sym, ◌∙◌, ap}
use Rattle.pdcp_model.specs.Sender.{submitted}
use Rattle.node_model.specs.State.{Outgoing}
use Rattle.node_bearers.proofs.bearers.Bearers.submitted.Goals as goal

pub returns-in-Some : goal.returns-in-Some
returns-in-Some c = c.submitted.ensures.value ∙ ap submitted (sym c.in-Some.ensures.some)

pub returns-in-None : goal.returns-in-None
returns-in-None c = sym (ap (λ (o : Outgoing). submitted o.sender) c.in-None.ensures.none)
