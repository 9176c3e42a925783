use Rattle.rlc_status.proofs.Elements.{spells}
use Rattle.rlc_status.proofs.decoding.split_nack.Goals as goal

pub returns-clause-some : goal.returns-clause-some
returns-clause-some c =
    let head = c.in_ok-head.head in
    let part = c.in_ok-part.ensures in
    let range = c.in_ok-range.ensures in
    spells c.args.size (record { sn = head.sn; part = c.in_ok-part.part; range = c.in_ok-range.range }) _ _ _ _ head.has_part head.has_range c.args.bytes.now c.in_ok-head.rest.now c.in_ok-part.rest.now c.in_ok-range.rest.now
    c.in_ok-head.ensures.spelt c.in_ok-head.ensures.rest part.there part.spelt part.rest range.there range.spelt range.rest
