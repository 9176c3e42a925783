use Rattle.std.proofs.Common.{◌≡◌, List, None, refl, sym, ◌∙◌, ap, subst}
use Rattle.chain_model.specs.declared.plan.Plan.{Plan}
use Rattle.chain_model.specs.Plans.{next_plan}
use Rattle.path_switch.specs.Plans.{plan_of, with_plan}
use Rattle.path_switch.proofs.Faults.{no_plan, is_still_open, no_path, is_busy, nowhere, is_free}
use Rattle.path_switch.proofs.Places.{its, replaces, stays, same_remotes}
use Rattle.path_switch.proofs.plans.Plans.plan.Goals as goal

pub returns-in_default-clause-opens : goal.returns-in_default-clause-opens
returns-in_default-clause-opens c =
    let none : plan_of c.args.self.now c.args.remote ≡ None = subst (λ (xs : List Plan). plan_of xs c.args.remote ≡ None) (c.deref.ensures.value ∙ c.self.view_is) c.in_default.ensures.none in
    (no_plan c.args.tables.now c.args.self.now c.requires.rows c.args.remote c.args.goal c.args.busy none, refl)

pub returns-then-is_open-clause-opens : goal.returns-then-is_open-clause-opens
returns-then-is_open-clause-opens c =
    let row = its c.args.self.now c.self.inside.rows.items c.deref.result.now c.self.view_is c.deref.ensures.value c.args.remote c.in-Some.place c.in-Some.ensures.found c.index-last.result.now c.index-last.ensures in
    (is_still_open c.args.tables.now c.args.self.now c.requires.rows c.args.remote c.args.goal c.args.busy c.index-last.result.now row (sym c.if-is_open.ensures), refl)

pub returns-then-not-has_path-clause-opens : goal.returns-then-not-has_path-clause-opens
returns-then-not-has_path-clause-opens c =
    let row = its c.args.self.now c.self.inside.rows.items c.deref.result.now c.self.view_is c.deref.ensures.value c.args.remote c.in-Some.place c.in-Some.ensures.found c.index-last.result.now c.index-last.ensures in
    (no_path c.args.tables.now c.args.self.now c.requires.rows c.args.remote c.args.goal c.args.busy c.index-last.result.now row (sym c.if-is_open.ensures) (sym c.if-not-has_path.ensures), refl)

pub returns-in-Some-busy-clause-opens : goal.returns-in-Some-busy-clause-opens
returns-in-Some-busy-clause-opens c =
    let row = its c.args.self.now c.self.inside.rows.items c.deref.result.now c.self.view_is c.deref.ensures.value c.args.remote c.in-Some.place c.in-Some.ensures.found c.index-last.result.now c.index-last.ensures in
    (is_busy c.args.tables.now c.args.self.now c.requires.rows c.args.remote c.args.goal c.args.busy c.index-last.result.now row (sym c.if-is_open.ensures) (sym c.if-not-has_path.ensures) c.in-Some-busy.place c.in-Some-busy.is, refl)

pub next_plan-next-requires : goal.next_plan-next-requires
next_plan-next-requires c =
    let row = its c.args.self.now c.self.inside.rows.items c.deref.result.now c.self.view_is c.deref.ensures.value c.args.remote c.in-Some.place c.in-Some.ensures.found c.index-last.result.now c.index-last.ensures in
    c.requires.epochs c.index-last.result.now row

pub invariant_of-self : goal.invariant_of-self
invariant_of-self c = stays c.args.self.now c.self.inside.rows.items c.deref.result.now c.self.view_is c.deref.ensures.value c.args.remote c.in-Some.place c.in-Some.ensures.found c.index-last.result.now c.index-last.ensures c.next_plan-next.result (ap (λ (p : Plan). p.remote) c.next_plan-next.ensures)

pub returns-clause-opens : goal.returns-clause-opens
returns-clause-opens c =
    let row = its c.args.self.now c.self.inside.rows.items c.deref.result.now c.self.view_is c.deref.ensures.value c.args.remote c.in-Some.place c.in-Some.ensures.found c.index-last.result.now c.index-last.ensures in
    let free : c.args.busy ≡ None = nowhere c.args.busy c.in_default-busy.not-Some in
    let same : c.next_plan-next.result ≡ next_plan c.index-last.result.now c.args.goal = c.next_plan-next.ensures in (
      is_free c.args.tables.now c.args.self.now c.requires.rows c.args.remote c.args.goal c.args.busy c.index-last.result.now row (sym c.if-is_open.ensures) (sym c.if-not-has_path.ensures) free,
      (
        c.index-last.result.now,
        row,
        ap (λ (p : Plan). p.epoch) same,
        replaces c.args.self.now c.self.inside.rows.items c.deref.result.now c.self.view_is c.deref.ensures.value c.args.remote c.in-Some.place c.in-Some.ensures.found c.index-last.result.now c.index-last.ensures c.next_plan-next.result (ap (λ (p : Plan). p.remote) same) ∙ ap (with_plan c.args.self.now) same,
      ),
    )

pub returns-clause-rows : goal.returns-clause-rows
returns-clause-rows c = same_remotes c.args.self.now c.self.inside.rows.items c.deref.result.now c.self.view_is c.deref.ensures.value c.args.remote c.in-Some.place c.in-Some.ensures.found c.index-last.result.now c.index-last.ensures c.next_plan-next.result (ap (λ (p : Plan). p.remote) c.next_plan-next.ensures)
