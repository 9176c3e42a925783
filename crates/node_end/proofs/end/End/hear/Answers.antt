use Rattle.std.proofs.Common.{sym, subst}
use Rattle.bearer_map.specs.Contents.{Contents}
use Rattle.node_end.specs.Fed.{KnowsPlaces}
use Rattle.node_end.specs.Node.{node_of}
use Rattle.node_end.specs.Ports.{IsEnd}
use Rattle.node_end.proofs.Covering.{knows_over}
use Rattle.node_end.proofs.Fed.{fed_by}
use Rattle.node_end.proofs.end.End.hear.Goals as goal

pub invariant_of-self : goal.invariant_of-self
invariant_of-self c =
    let a = c.self.inside in
    let new = c.hear.new.self in
    let keys = c.hear.ensures.keys in
    let same = sym c.hear.ensures.same.tables in
    record {
      is_end = subst (λ (t : Contents). IsEnd t (node_of new)) same c.hear.ensures.end;
      places = subst (λ (t : Contents). KnowsPlaces t (node_of new) a.served) same (knows_over (node_of a.node) (node_of new) keys.sent keys.received a.node.tables a.served c.self.invariant.places);
      fed = fed_by a.node.tables new.tables (node_of new) c.with_port-self-inside.result same (λ key is.
          let apart = c.with_port-self-inside.ensures a.node.tables key is in
          c.hear.ensures.fed key apart.1 (c.self.invariant.fed key apart.0));
    }

pub invariant_of-self-2 : goal.invariant_of-self-2
invariant_of-self-2 c =
    let a = c.self.inside in
    let new = c.hear.new.self in
    let keys = c.hear.ensures.keys in
    let same = sym c.hear.ensures.same.tables in
    record {
      is_end = subst (λ (t : Contents). IsEnd t (node_of new)) same c.hear.ensures.end;
      places = subst (λ (t : Contents). KnowsPlaces t (node_of new) a.served) same (knows_over (node_of a.node) (node_of new) keys.sent keys.received a.node.tables a.served c.self.invariant.places);
      fed = fed_by a.node.tables new.tables (node_of new) c.with_port-self-inside.result same (λ key is.
          let apart = c.with_port-self-inside.ensures a.node.tables key is in
          c.hear.ensures.fed key apart.1 (c.self.invariant.fed key apart.0));
    }
