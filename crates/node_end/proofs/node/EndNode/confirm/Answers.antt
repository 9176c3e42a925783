use Rattle.std.proofs.Common.{◌∙◌, ap}
use Rattle.node_end.specs.Hearing.{acked_tags}
use Rattle.node_end.specs.Node.{node_of, with_ends}
use Rattle.node_end.proofs.Heard.{lifts_confirming}
use Rattle.node_end.proofs.node.EndNode.confirm.Goals as goal

pub returns-in-Direct-clause-confirms : goal.returns-in-Direct-clause-confirms
returns-in-Direct-clause-confirms c =
    let n = node_of c.args.self.now in
    let confirms = rw c.acked_tags.ensures at c.confirm.ensures in
    rw c.in-Direct.is (ap (with_ends n) confirms ∙ lifts_confirming n c.args.self.now.bearers (acked_tags c.args.status.now))
