use Rattle.std.proofs.Common.{◌≡◌, List, None, sym, ◌∙◌, subst}
use Rattle.chain_model.specs.declared.plan.Plan.{Plan}
use Rattle.path_switch.specs.Plans.{plan_of}
use Rattle.path_switch.proofs.Places.{its}
use Rattle.path_switch.proofs.plans.Plans.last.Goals as goal

pub returns : goal.returns
returns c = sym (its c.args.self.now c.self.inside.rows.items c.deref.result.now c.self.view_is c.deref.ensures.value c.args.remote c.in-Some.place c.in-Some.ensures.found c.index.result.now c.index.ensures)

pub returns-in_default : goal.returns-in_default
returns-in_default c =
    let none : plan_of c.args.self.now c.args.remote ≡ None = subst (λ (xs : List Plan). plan_of xs c.args.remote ≡ None) (c.deref.ensures.value ∙ c.self.view_is) c.in_default.ensures.none in
    sym none
