use Rattle.table_law.proofs.TheLaws.{relayed}
use Rattle.table_law.proofs.laws.relayed_remotes_are_mapped.Goals as goal

pub returns : goal.returns
returns c = relayed c.runs_pass_line_by_line.ensures.past c.runs_pass_line_by_line.ensures.tables
