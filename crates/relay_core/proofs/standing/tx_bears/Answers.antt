use Rattle.std.proofs.Common.{sym, ◌∙◌, ap}
use Rattle.relay_core.specs.Standing.{tx_bears}
use Rattle.relay_core.proofs.Placed.{bears_same}
use Rattle.relay_core.proofs.standing.tx_bears.Goals as goal

pub returns-in-Some : goal.returns-in-Some
returns-in-Some c = bears_same c.args.id c.in-Some.tx c.bears.result c.bears.ensures ∙ sym (ap (tx_bears c.args.id) c.in-Some.is)
