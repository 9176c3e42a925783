use Rattle.std.proofs.Common.{◌∙◌, ap, subst, cond, Bool, List, ℕ, Option, Some}
use Rattle.byte_spans.specs.Spans.{Adds}
use Rattle.rlc_pdu.specs.Amd.{amd_of}
use Rattle.rlc_model.specs.Pdu.{end_of, is_end}
use Rattle.rlc_am_rx.specs.Assembly.{Pieces, got_of_pieces, bytes_held, WritesBytes}
use Rattle.rlc_am_rx.proofs.Held.{seen_is, same_bytes}
use Rattle.rlc_am_rx.proofs.Placed.{placed_at, on_err}
use Rattle.rlc_am_rx.proofs.assembly.Assembly.place.Goals as goal

pub returns-in_err-write-clause-err : goal.returns-in_err-write-clause-err
returns-in_err-write-clause-err c =
    let a = c.self.inside in
    let same = same_bytes a.held a.bytes.items c.write.new.bytes.items (λ p is. c.write.ensures.kept p is (c.self.invariant p is)) in
    on_err c.from_residual.result _ (ap (λ (l : List (Option ℕ)). record { held = l; len = a.length }) same ∙ c.self.view_is)

pub returns-in_err-add-clause-err : goal.returns-in_err-add-clause-err
returns-in_err-add-clause-err c =
    let a = c.self.inside in
    let same = same_bytes a.held a.bytes.items c.write.new.bytes.items (λ p is. c.write.ensures.kept p is (c.self.invariant p is)) in
    on_err c.from_residual-in_err-add.result _ (ap (λ (l : List Bool). record { held = bytes_held c.write.new.bytes.items l; len = a.length }) c.in_err-add.ensures.err
    ∙ ap (λ (l : List (Option ℕ)). record { held = l; len = a.length }) same ∙ c.self.view_is)

pub returns-clause-ok : goal.returns-clause-ok
returns-clause-ok c =
    let a = c.self.inside in
    let v = amd_of c.args.pdu.now in
    let writes : WritesBytes a.held v.so v.body a.bytes.items c.write.new.bytes.items = rw (← c.from.ensures) c.in_ok-write.ensures.placed in
    let adds : Adds a.held c.add.new.self v.so (end_of v) = subst (λ (from : ℕ). Adds a.held c.add.new.self from (end_of v)) c.from-2.ensures
    (subst (λ (to : ℕ). Adds a.held c.add.new.self c.from-2.result to) c.end_of-to.ensures c.in_ok-add.ensures.adds) in
    record {
      bytes = placed_at (got_of_pieces c.args.self.now) v a.bytes.items c.write.new.bytes.items a.held c.add.new.self (seen_is a c.args.self.now c.self.view_is)
          (λ p is. c.write.ensures.kept p is (c.self.invariant p is)) writes adds;
      its_length = c.length_with-self-inside.ensures ∙ ap (λ (to : ℕ). cond (is_end v.si) (Some to) a.length) c.end_of-to.ensures
          ∙ ap (λ (k : Pieces). cond (is_end v.si) (Some (end_of v)) k.len) c.self.view_is;
    }
