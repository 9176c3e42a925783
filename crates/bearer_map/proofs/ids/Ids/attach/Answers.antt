use Rattle.bearer_map.proofs.Members.{ids_push}
use Rattle.bearer_map.proofs.ids.Ids.attach.Goals as goal

pub invariant_of-self-2 : goal.invariant_of-self-2
invariant_of-self-2 c = rw c.in_ok-push.ensures.items (ids_push _ _ c.args.remote c.args.id c.self.view_is c.self.invariant c.requires.remote c.requires.id)
