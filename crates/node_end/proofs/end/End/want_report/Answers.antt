use Rattle.std.proofs.Common.{map, refl, sym, ◌∙◌, ap, subst}
use Rattle.node_model.specs.State.{Node}
use Rattle.node_model.specs.Feeding.{in_key, out_key}
use Rattle.node_end.specs.Fed.{IsKeyFed}
use Rattle.node_end.specs.Node.{node_of, with_ends}
use Rattle.node_end.proofs.Covering.{another, knows_over}
use Rattle.node_end.proofs.Ends.{still_end}
use Rattle.node_end.proofs.Fed.{in_named, receiver_elsewhere}
use Rattle.node_end.proofs.Names.{in_keys_kept}
use Rattle.node_end.proofs.end.End.want_report.Goals as goal

pub invariant_of-self : goal.invariant_of-self
invariant_of-self c =
    let e = c.self.inside.node in
    let t = e.tables in
    let n = node_of e in
    let m = with_ends n c.want_report.new.self in
    let set = c.want_report.ensures in
    let received = ap (λ (b : Node). map in_key b.incoming) set ∙ in_keys_kept e.bearers _ in
    record {
      is_end = still_end t n m refl refl received refl c.self.invariant.is_end;
      places = knows_over n m (ap (λ (b : Node). map out_key b.outgoing) set) received t c.self.inside.served c.self.invariant.places;
      fed = λ key is.
          let apart = c.with_port-self-inside.ensures t key is in
          subst (λ (b : Node). IsKeyFed t (with_ends n b) key) (sym set)
          (receiver_elsewhere t key n c.args.key _ (another c.args.key key apart.1) (in_named n c.args.key) (c.self.invariant.fed key apart.0));
    }
