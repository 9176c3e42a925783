use Rattle.std.proofs.Common.{map, refl, sym, ◌∙◌, ap, subst}
use Rattle.node_model.specs.State.{Node}
use Rattle.node_model.specs.Feeding.{in_key, out_key}
use Rattle.node_end.specs.End.{IsKept}
use Rattle.node_end.specs.Fed.{IsKeyFed}
use Rattle.node_end.specs.Node.{node_of, with_ends}
use Rattle.node_end.proofs.Covering.{another, knows_over}
use Rattle.node_end.proofs.Ends.{still_end}
use Rattle.node_end.proofs.Fed.{out_named, sender_elsewhere}
use Rattle.node_end.proofs.Names.{out_keys_kept}
use Rattle.node_end.proofs.end.End.submit.Goals as goal

pub invariant_of-self : goal.invariant_of-self
invariant_of-self c = subst (λ (b : Node). IsKept (record c.self.inside { node = record c.self.inside.node { bearers = b } })) (sym c.in_err-count.ensures.err) c.self.invariant

pub invariant_of-self-2 : goal.invariant_of-self-2
invariant_of-self-2 c =
    let e = c.self.inside.node in
    let t = e.tables in
    let n = node_of e in
    let m = with_ends n c.submit.new.self in
    let set = c.in_ok-count.ensures.ok.2 in
    let received = ap (λ (b : Node). map in_key b.incoming) set in
    let sent = ap (λ (b : Node). map out_key b.outgoing) set ∙ out_keys_kept e.bearers _ in
    record {
      is_end = still_end t n m refl refl received refl c.self.invariant.is_end;
      places = knows_over n m sent received t c.self.inside.served c.self.invariant.places;
      fed = λ key is.
          let apart = c.with_port-self-inside.ensures t key is in
          subst (λ (b : Node). IsKeyFed t (with_ends n b) key) (sym set)
          (sender_elsewhere t key n c.args.key _ (another c.args.key key apart.1) (out_named n c.args.key) (c.self.invariant.fed key apart.0));
    }
