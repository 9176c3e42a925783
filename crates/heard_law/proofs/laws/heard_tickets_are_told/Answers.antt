use Rattle.heard_law.proofs.Tickets.{tickets_heard_are_told}
use Rattle.heard_law.proofs.laws.heard_tickets_are_told.Goals as goal

pub returns : goal.returns
returns c = tickets_heard_are_told
