use Rattle.std.proofs.Common.{length, ap}
use Rattle.byte_spans.proofs.Sets.{empty_of_none}
use Rattle.byte_spans.proofs.spans.Spans.new.Goals as goal

pub returns : goal.returns
returns c = empty_of_none c.new.result.items (ap length c.new.ensures.items)
