use Rattle.std.proofs.Common.{ℕ, List, subst, ◌∙◌}
use Rattle.bearer_map.specs.declared.ids.Attachment.{Attachment}
use Rattle.bearer_map.specs.Ids.{IsAttached}
use Rattle.bearer_map.proofs.ids.Ids.id_of.Goals as goal

pub returns-in-None-clause-none : goal.returns-in-None-clause-none
returns-in-None-clause-none c = subst (λ (xs : List Attachment). (id : ℕ) → IsAttached xs c.args.remote id → ⊥) (c.deref.ensures.value ∙ c.self.view_is) c.in-None.ensures.none
