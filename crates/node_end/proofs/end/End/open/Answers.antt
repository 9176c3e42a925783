use Rattle.std.proofs.Common.{refl}
use Rattle.std.proofs.lemmas.Bool.{true≢false}
use Rattle.node_end.specs.Node.{node_of}
use Rattle.node_end.proofs.Covering.{knows_over}
use Rattle.node_end.proofs.end.End.open.Goals as goal

pub invariant_of-result : goal.invariant_of-result
invariant_of-result c = record {
  is_end = c.requires;
  places = knows_over c.args.node.bearers (node_of c.args.node) refl refl c.args.node.tables c.in_ok-served.served c.in_ok-served.ensures;
  fed = λ key is. absurd (true≢false is);
}
