use Rattle.gnb_end.proofs.gnb_end.GnbEnd.submit.Goals as goal

pub returns-clause-ok : goal.returns-clause-ok
returns-clause-ok c = rw (← c.self.view_is) c.in_ok-count.ensures.ok
