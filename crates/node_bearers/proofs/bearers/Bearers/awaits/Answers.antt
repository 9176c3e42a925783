use Rattle.std.proofs.Common.{sym, ◌∙◌, ap}
use Rattle.pdcp_model.specs.Sender.{Sender}
use Rattle.node_model.specs.State.{Outgoing}
use Rattle.node_bearers.proofs.bearers.Bearers.awaits.Goals as goal

pub returns-in-Some : goal.returns-in-Some
returns-in-Some c = c.awaits.ensures ∙ ap (λ (s : Sender). s.waits) (sym c.in-Some.ensures.some)

pub returns-in-None : goal.returns-in-None
returns-in-None c = sym (ap (λ (o : Outgoing). o.sender.waits) c.in-None.ensures.none)
