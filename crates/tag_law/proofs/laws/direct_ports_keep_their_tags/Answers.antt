use Rattle.tag_law.proofs.TheLaw.{keep_their_tags}
use Rattle.tag_law.proofs.laws.direct_ports_keep_their_tags.Goals as goal

pub returns : goal.returns
returns c =
    let calls = c.calls_keep_what_was_given.ensures in
    keep_their_tags (record { hearing = calls.hearing; granting = calls.granting; expiry = calls.expiry })
