use Rattle.std.proofs.Common.{refl}
use Rattle.node_end.specs.Node.{node_of}
use Rattle.node_end.proofs.Covering.{knows_over}
use Rattle.node_end.proofs.Ends.{expiry_keeps}
use Rattle.node_end.proofs.Fed.{expiry_elsewhere}
use Rattle.node_end.proofs.end.End.expire.Goals as goal

pub invariant_of-self : goal.invariant_of-self
invariant_of-self c =
    let e = c.self.inside.node in
    let n = node_of e in
    let new = record n { ports = c.expire.new.self } in
    let expires = c.expire.ensures n refl in
    record {
      is_end = expiry_keeps e.tables n c.args.port c.args.timer c.expire.result new expires c.self.invariant.is_end;
      places = knows_over n new refl refl e.tables c.self.inside.served c.self.invariant.places;
      fed = λ key is.
          let apart = c.with_port-self-inside.ensures e.tables key is in
          expiry_elsewhere e.tables key n c.args.port c.args.timer c.expire.result new expires apart.1 (c.self.invariant.fed key apart.0);
    }

pub returns-clause-expires : goal.returns-clause-expires
returns-clause-expires c = rw (← c.self.view_is) (c.expire.ensures (node_of c.self.inside.node) refl)
