use Rattle.node_end.proofs.Own.{id_is}
use Rattle.node_end.proofs.node.EndNode.id_of.Goals as goal

pub returns : goal.returns
returns c = id_is c.args.self.now.ids c.args.remote c.id_of.ensures.each_once c.id_of.result
    (λ id is. rw is at c.id_of.ensures.found) (λ is. rw is at c.id_of.ensures.none)
