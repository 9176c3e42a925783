use Rattle.book_law.proofs.TheLaws.{has_what_was_heard, hearing_keeps_counts, reports_tell_counts}
use Rattle.book_law.proofs.laws.receivers_have_what_was_heard.Goals as goal

pub returns-clause-heard : goal.returns-clause-heard
returns-clause-heard c = has_what_was_heard

pub returns-clause-hearing : goal.returns-clause-hearing
returns-clause-hearing c = hearing_keeps_counts

pub returns-clause-reports : goal.returns-clause-reports
returns-clause-reports c = reports_tell_counts
