use Rattle.node_bearers.proofs.bearer.Bearer.wants_report.Goals as goal

pub returns-else-self : goal.returns-else-self
returns-else-self c = λ way. rw (c.if-not-self.true, c.if-self.false) (c.is_enough.ensures way)
