use Rattle.pdcp_law.proofs.OfSubmitted.{more_may_be_submitted, one_more_is_heard, heard_as_submitted, goes_up_as_submitted}
use Rattle.pdcp_law.proofs.hand_up_laws.what_was_submitted_goes_up.Goals as goal

pub returns-clause-more : goal.returns-clause-more
returns-clause-more c = more_may_be_submitted

pub returns-clause-next : goal.returns-clause-next
returns-clause-next c = one_more_is_heard

pub returns-clause-heard : goal.returns-clause-heard
returns-clause-heard c = heard_as_submitted

pub returns-clause-up : goal.returns-clause-up
returns-clause-up c = goes_up_as_submitted
