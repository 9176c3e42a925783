use Rattle.std.proofs.Common.{sym, ◌∙◌, ap}
use Rattle.pdcp_model.specs.Sender.{confirmed}
use Rattle.node_model.specs.State.{Outgoing}
use Rattle.node_bearers.proofs.bearers.Bearers.confirmed.Goals as goal

pub returns-in-Some : goal.returns-in-Some
returns-in-Some c = c.confirmed.ensures ∙ ap confirmed (sym c.in-Some.ensures.some)

pub returns-in-None : goal.returns-in-None
returns-in-None c = sym (ap (λ (o : Outgoing). confirmed o.sender) c.in-None.ensures.none)
