use Rattle.table_law.proofs.TheLaws.{mapped}
use Rattle.table_law.proofs.laws.tables_are_mapped.Goals as goal

pub returns : goal.returns
returns c = mapped c.runs_pass_line_by_line.ensures.past c.runs_pass_line_by_line.ensures.tables
