use Rattle.std.proofs.Common.{sym, ◌∙◌, ap}
use Rattle.pdcp_model.specs.Sender.{has_next}
use Rattle.node_model.specs.State.{Outgoing}
use Rattle.node_bearers.proofs.bearers.Bearers.has_next.Goals as goal

pub returns-in-Some : goal.returns-in-Some
returns-in-Some c = c.has_next.ensures ∙ ap has_next (sym c.in-Some.ensures.some)

pub returns-in-None : goal.returns-in-None
returns-in-None c = sym (ap (λ (o : Outgoing). has_next o.sender) c.in-None.ensures.none)
