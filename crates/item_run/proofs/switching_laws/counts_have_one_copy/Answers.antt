use Rattle.item_run.proofs.Copies.{one_copy}
use Rattle.item_run.proofs.SwitchingLaws.{runs_are_one_copied}
use Rattle.item_run.proofs.switching_laws.counts_have_one_copy.Goals as goal

pub returns-clause-ghosts : goal.returns-clause-ghosts
returns-clause-ghosts c = one_copy

pub returns-clause-runs : goal.returns-clause-runs
returns-clause-runs c = runs_are_one_copied c.laws_of_books.ensures c.laws_of_tables.ensures c.runs_stand.ensures.lines c.laws_of_pdus.ensures
