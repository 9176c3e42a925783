use Rattle.node_end.proofs.end.End.remote_of.Goals as goal

pub returns-clause-none : goal.returns-clause-none
returns-clause-none c = rw (← c.self.view_is) c.remote_of.ensures.none
