use Rattle.rlc_model.proofs.Segments.{sends_segments, hears_segments}
use Rattle.rlc_model.proofs.laws.segments_are_sent_and_heard.Goals as goal

pub returns-clause-sends : goal.returns-clause-sends
returns-clause-sends c = sends_segments

pub returns-clause-hears : goal.returns-clause-hears
returns-clause-hears c = hears_segments
