use Rattle.tag_law.proofs.TheKept.{keep_unconfirmed}
use Rattle.tag_law.proofs.laws.direct_ports_keep_unconfirmed.Goals as goal

pub returns : goal.returns
returns c =
    let calls = c.calls_keep_what_was_given.ensures in
    keep_unconfirmed (record { hearing = calls.hearing; granting = calls.granting; expiry = calls.expiry })
