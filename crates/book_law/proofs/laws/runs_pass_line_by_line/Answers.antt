use Rattle.book_law.proofs.TheLaws.{each_run_is_past, tables_stay, nodes_stay, both_ends}
use Rattle.book_law.proofs.laws.runs_pass_line_by_line.Goals as goal

pub returns-clause-past : goal.returns-clause-past
returns-clause-past c = each_run_is_past

pub returns-clause-tables : goal.returns-clause-tables
returns-clause-tables c = tables_stay

pub returns-clause-ends : goal.returns-clause-ends
returns-clause-ends c = both_ends

pub returns-clause-nodes : goal.returns-clause-nodes
returns-clause-nodes c = nodes_stay
