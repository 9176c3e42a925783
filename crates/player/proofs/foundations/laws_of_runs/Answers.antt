use Rattle.player.proofs.foundations.laws_of_runs.Goals as goal

pub returns : goal.returns
returns c = record {
  keeps = c.senders_keep_the_book.ensures.runs;
  tells = c.confirmed_numbers_are_told.ensures.runs;
  hand_ups = c.hand_ups_are_told.ensures.runs;
  books = c.runs_keep_the_book.ensures.book;
  replies = c.replies_that_never_come.ensures;
  quiet = c.quiet_runs_hand_up_all.ensures;
  exact = c.hand_ups_are_exact.ensures;
  pdus = c.runs_are_carried.ensures;
  reports = c.reports_are_true.ensures;
}
