use Rattle.std.proofs.Common.{List, refl, sym, subst}
use Rattle.node_model.specs.State.{PortSide}
use Rattle.node_end.specs.End.{IsKept}
use Rattle.node_end.specs.Node.{node_of}
use Rattle.node_end.proofs.Covering.{knows_over}
use Rattle.node_end.proofs.Ends.{grant_keeps}
use Rattle.node_end.proofs.Fed.{grant_elsewhere}
use Rattle.node_end.proofs.end.End.grant.Goals as goal

pub invariant_of-self : goal.invariant_of-self
invariant_of-self c =
    let e = c.self.inside.node in
    let more : IsKept (record c.self.inside { to_feed = c.with_port-self-inside.result }) = record {
      is_end = c.self.invariant.is_end;
      places = c.self.invariant.places;
      fed = λ key is. c.self.invariant.fed key (c.with_port-self-inside.ensures e.tables key is).0;
    } in
    subst (λ (ports : List PortSide). IsKept (record c.self.inside { node = record e { ports = ports }; to_feed = c.with_port-self-inside.result })) (sym c.in_err-answer.ensures.err) more

pub invariant_of-self-2 : goal.invariant_of-self-2
invariant_of-self-2 c =
    let e = c.self.inside.node in
    let n = node_of e in
    let new = record n { ports = c.grant.new.self } in
    let grants = c.in_ok-answer.ensures.ok n refl in
    record {
      is_end = grant_keeps e.tables n c.args.port c.args.octets c.in_ok-answer.answer new grants c.self.invariant.is_end;
      places = knows_over n new refl refl e.tables c.self.inside.served c.self.invariant.places;
      fed = λ key is.
          let apart = c.with_port-self-inside.ensures e.tables key is in
          grant_elsewhere e.tables key n c.args.port c.args.octets c.in_ok-answer.answer new grants apart.1 (c.self.invariant.fed key apart.0);
    }

pub returns-clause-ok : goal.returns-clause-ok
returns-clause-ok c = rw (← c.self.view_is) (c.in_ok-answer.ensures.ok (node_of c.self.inside.node) refl)
