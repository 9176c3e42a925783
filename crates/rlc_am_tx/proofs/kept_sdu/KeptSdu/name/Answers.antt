use Rattle.std.proofs.Common.{◌≡◌, Bool, List, Some, length, sym, ◌∙◌, ap, subst, arith}
use Rattle.std.proofs.lemmas.Option.{same_Some}
use Rattle.rlc_model.specs.Tx.{Kept}
use Rattle.byte_spans.specs.Spans.{Adds}
use Rattle.rlc_am_tx.specs.Flags.{IsSetOfSent, is_set}
use Rattle.rlc_am_tx.specs.Elements.{HasPlace}
use Rattle.rlc_am_tx.specs.Naming.{IsNewSet, CanName}
use Rattle.rlc_am_tx.proofs.Failing.{on_err}
use Rattle.rlc_am_tx.proofs.Flagged.{flag_taken, taken_long}
use Rattle.rlc_am_tx.proofs.NamedBytes.{named_more, named_first, can_name}
use Rattle.rlc_am_tx.proofs.kept_sdu.KeptSdu.name.Goals as goal

pub returns-in_err-add-clause-err : goal.returns-in_err-add-clause-err
returns-in_err-add-clause-err c = on_err c.from_residual.result (CanName (Some c.args.self.now) (HasPlace c.args.places.now) c.args.naming.now) (can_name c.args.self.now c.args.naming.now c.in-Some.pending (HasPlace c.args.places.now) c.in-Some.is (c.requires c.in-Some.pending c.in-Some.is))

pub returns-in-Some-clause-fine : goal.returns-in-Some-clause-fine
returns-in-Some-clause-fine c set is =
    let a = c.self.inside in
    let long : a.sent ≡ length c.args.self.now.flags = sym (taken_long a.pending a.sent c.self.invariant.pending) ∙ ap (λ (k : Kept). length k.flags) c.self.view_is in
    subst (IsNewSet (Some c.args.self.now)) (same_Some c.add.new.self set is)
    (named_more c.args.self.now c.in-Some.pending c.add.new.self c.args.places.now.from c.end_within-to.result (c.requires c.in-Some.pending c.in-Some.is) c.in_ok-add.ensures.adds (omega (arith, long, c.end_within-to.ensures.within)))

pub returns-clause-fine : goal.returns-clause-fine
returns-clause-fine c set is =
    let a = c.self.inside in
    let k = c.args.self.now in
    let long : a.sent ≡ length k.flags = sym (taken_long a.pending a.sent c.self.invariant.pending) ∙ ap (λ (x : Kept). length x.flags) c.self.view_is in
    let copy : c.in_ok-pending.pending ≡ a.pending = c.in_ok-pending.ensures.same in
    subst (IsNewSet (Some k)) (same_Some c.add-2.new.self set is)
    (named_first k a.pending c.add-2.new.self c.args.places.now.from c.end_within-to.result (subst (IsSetOfSent a.pending) long c.self.invariant.pending)
    (λ p. ap (λ (x : Kept). is_set x.flags p) (sym c.self.view_is) ∙ flag_taken a.pending a.sent c.self.invariant.pending p)
    (subst (λ (l : List Bool). Adds l c.add-2.new.self c.args.places.now.from c.end_within-to.result) copy c.in_ok-add-2.ensures.adds)
    (omega (arith, long, c.end_within-to.ensures.within)) c.if-covers.ensures)
