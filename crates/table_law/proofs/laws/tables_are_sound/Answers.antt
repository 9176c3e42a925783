use Rattle.table_law.proofs.TheLaws.{sound}
use Rattle.table_law.proofs.laws.tables_are_sound.Goals as goal

pub returns : goal.returns
returns c = sound c.runs_pass_line_by_line.ensures.past c.runs_pass_line_by_line.ensures.tables
