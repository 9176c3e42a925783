use Rattle.relay_core.proofs.relay.Relay.remote_of.Goals as goal

pub returns-clause-none : goal.returns-clause-none
returns-clause-none c = rw (← c.self.view_is) c.remote_of.ensures.none

pub returns-clause-each_once : goal.returns-clause-each_once
returns-clause-each_once c = rw (← c.self.view_is) c.remote_of.ensures.each_once
