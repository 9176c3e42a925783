use Rattle.std.proofs.Common.{List, subst, ◌∙◌}
use Rattle.link_base.specs.declared.names.Remote.{Remote}
use Rattle.bearer_map.specs.declared.ids.Attachment.{Attachment}
use Rattle.bearer_map.specs.Ids.{IsAttached}
use Rattle.bearer_map.proofs.ids.Ids.remote_of.Goals as goal

pub returns-in-None-clause-none : goal.returns-in-None-clause-none
returns-in-None-clause-none c = subst (λ (xs : List Attachment). (remote : Remote) → IsAttached xs remote c.args.id.0 → ⊥) (c.deref.ensures.value ∙ c.self.view_is) c.in-None.ensures.none
