use Rattle.std.proofs.Common.{◌≡◌, List, Option, None, refl, sym, ◌∙◌, ap, subst}
use Rattle.chain_model.specs.declared.plan.Plan.{Plan}
use Rattle.chain_model.specs.Plans.{marks}
use Rattle.path_switch.specs.Plans.{plan_of, with_plan, apply_fault, applied}
use Rattle.path_switch.proofs.Places.{its, replaces, stays, same_remotes}
use Rattle.path_switch.proofs.Faults.{marked_remote, is_closed, is_applied, may_apply}
use Rattle.path_switch.proofs.plans.Plans.apply.Goals as goal

pub returns-in_default-clause-applies : goal.returns-in_default-clause-applies
returns-in_default-clause-applies c =
    let none : plan_of c.args.self.now c.args.remote ≡ None = subst (λ (xs : List Plan). plan_of xs c.args.remote ≡ None) (c.deref.ensures.value ∙ c.self.view_is) c.in_default.ensures.none in
    (ap (λ (o : Option Plan). apply_fault o c.args.node) none, refl)

pub returns-then-not-is_open-clause-applies : goal.returns-then-not-is_open-clause-applies
returns-then-not-is_open-clause-applies c =
    let row = its c.args.self.now c.self.inside.rows.items c.deref.result.now c.self.view_is c.deref.ensures.value c.args.remote c.in-Some.place c.in-Some.ensures.found c.index-last.result.now c.index-last.ensures in
    (ap (λ (o : Option Plan). apply_fault o c.args.node) row ∙ is_closed c.index-last.result.now c.args.node (sym c.if-not-is_open.ensures), refl)

pub returns-then-has_applied-clause-applies : goal.returns-then-has_applied-clause-applies
returns-then-has_applied-clause-applies c =
    let row = its c.args.self.now c.self.inside.rows.items c.deref.result.now c.self.view_is c.deref.ensures.value c.args.remote c.in-Some.place c.in-Some.ensures.found c.index-last.result.now c.index-last.ensures in
    (ap (λ (o : Option Plan). apply_fault o c.args.node) row ∙ is_applied c.index-last.result.now c.args.node (sym c.if-not-is_open.ensures) (sym c.if-has_applied.ensures), refl)

pub invariant_of-self : goal.invariant_of-self
invariant_of-self c = stays c.args.self.now c.self.inside.rows.items c.deref.result.now c.self.view_is c.deref.ensures.value c.args.remote c.in-Some.place c.in-Some.ensures.found c.index-last.result.now c.index-last.ensures c.marks-marked.result (ap (λ (p : Plan). p.remote) c.marks-marked.ensures ∙ marked_remote c.index-last.result.now c.args.node)

pub returns-clause-applies : goal.returns-clause-applies
returns-clause-applies c =
    let row = its c.args.self.now c.self.inside.rows.items c.deref.result.now c.self.view_is c.deref.ensures.value c.args.remote c.in-Some.place c.in-Some.ensures.found c.index-last.result.now c.index-last.ensures in
    let same : c.marks-marked.result ≡ marks c.index-last.result.now c.args.node = c.marks-marked.ensures in (
      ap (λ (o : Option Plan). apply_fault o c.args.node) row ∙ may_apply c.index-last.result.now c.args.node (sym c.if-not-is_open.ensures) (sym c.if-has_applied.ensures),
      (
        c.index-last.result.now,
        row,
        rw c.is_open-2.ensures (ap applied same),
        replaces c.args.self.now c.self.inside.rows.items c.deref.result.now c.self.view_is c.deref.ensures.value c.args.remote c.in-Some.place c.in-Some.ensures.found c.index-last.result.now c.index-last.ensures c.marks-marked.result (ap (λ (p : Plan). p.remote) same ∙ marked_remote c.index-last.result.now c.args.node) ∙ ap (with_plan c.args.self.now) same,
      ),
    )

pub returns-clause-rows : goal.returns-clause-rows
returns-clause-rows c = same_remotes c.args.self.now c.self.inside.rows.items c.deref.result.now c.self.view_is c.deref.ensures.value c.args.remote c.in-Some.place c.in-Some.ensures.found c.index-last.result.now c.index-last.ensures c.marks-marked.result (ap (λ (p : Plan). p.remote) c.marks-marked.ensures ∙ marked_remote c.index-last.result.now c.args.node)
