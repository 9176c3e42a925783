use Rattle.bearer_map.proofs.Members.{ids_filter}
use Rattle.bearer_map.proofs.ids.Ids.detach.Goals as goal

pub invariant_of-self : goal.invariant_of-self
invariant_of-self c = rw c.leave_out.ensures (ids_filter _ _ c.self.invariant)
