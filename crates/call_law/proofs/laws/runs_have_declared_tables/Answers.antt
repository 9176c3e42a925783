use Rattle.call_law.proofs.Declared.{tables_are_declared}
use Rattle.call_law.proofs.laws.runs_have_declared_tables.Goals as goal

pub returns : goal.returns
returns c = tables_are_declared c.laws_of_runs.ensures
