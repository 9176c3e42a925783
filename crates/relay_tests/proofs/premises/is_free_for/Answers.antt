use Rattle.relay_tests.proofs.premises.is_free_for.Goals as goal

pub returns-in-Relay : goal.returns-in-Relay
returns-in-Relay c = λ is. rw c.in-Relay.is (c.is_free.ensures is)
