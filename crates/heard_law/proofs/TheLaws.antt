-- The laws.
use Rattle.std.proofs.Common.{List, sym, subst}
use Rattle.script_text.specs.History.{Entry}
use Rattle.chain_model.specs.Runs.{entries}
use Rattle.book_law.proofs.Tables.{tables_stay}
use Rattle.book_law.proofs.TheLaws.{each_run_is_past}
use Rattle.heard_law.specs.Laws.{HistoriesTellTheChain, RunsTellTheChain}
use Rattle.heard_law.specs.Telling.{Tells}
use Rattle.heard_law.proofs.Along.{passes_told, tells}

pub histories_tell_the_chain : HistoriesTellTheChain
histories_tell_the_chain h c past = subst (λ (g : List Entry). Tells g c) (sym past.are)
    (tells past.tables past.are_tables _ c (tables_stay past.tables past.moments c past.passes) (passes_told past.tables past.are_tables past.declared past.declare past.moments c past.passes))

pub runs_tell_the_chain : RunsTellTheChain
runs_tell_the_chain h stage c leads = histories_tell_the_chain (entries h) c (each_run_is_past h stage c leads)
