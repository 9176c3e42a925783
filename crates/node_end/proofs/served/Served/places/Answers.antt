use Rattle.node_end.specs.Fed.{is_to_feed}
use Rattle.node_end.proofs.Covering.{every_covers}
use Rattle.node_end.proofs.served.Served.places.Goals as goal

pub returns-in-Everything : goal.returns-in-Everything
returns-in-Everything c = λ t knows. rw c.deref.ensures.value (every_covers c.args.bearers.now (is_to_feed t c.args.to_feed) c.args.self.now.every.items knows.every)

pub returns-in-Port : goal.returns-in-Port
returns-in-Port c = λ t knows. rw c.in-Port.is (c.over.ensures t knows)
