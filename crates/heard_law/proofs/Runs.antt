-- What receivers at ends have behind each run.
use Rattle.std.proofs.Common.{◌≡◌, List, sym, subst}
use Rattle.bearer_map.specs.Contents.{Contents}
use Rattle.script_text.specs.History.{Entry}
use Rattle.script_text.specs.declared.stage.ScriptStage.{ScriptStage}
use Rattle.chain_model.specs.Runs.{Turn, entries, LeadsTo}
use Rattle.chain_model.specs.State.{Chain}
use Rattle.chain_law.specs.Laws.{behind}
use Rattle.chain_law.proofs.Laws.{comes_hold}
use Rattle.chain_law.proofs.Tables.{TablesApart}
use Rattle.book_law.specs.Past.{IsPast}
use Rattle.book_law.proofs.Tables.{tables_stay}
use Rattle.book_law.proofs.TheLaws.{each_run_is_past}
use Rattle.heard_law.specs.Foundations.{HeardLaws}
use Rattle.heard_law.specs.Receiving.{hop_at, HasDelivered, ReceiversHaveWhatWasDelivered}
use Rattle.heard_law.proofs.Logged.{Behind, behind_lines}
use Rattle.heard_law.proofs.Receivers.{receiver_has}

module _ (laws : HeardLaws) (h : List Turn) (stage : ScriptStage) (c : Chain) (leads : LeadsTo h stage c) where
  pub past : IsPast (entries h) c
  past = each_run_is_past h stage c leads

  pub tables : c.tables ≡ past.tables
  tables = tables_stay past.tables past.moments c past.passes

  -- the rows of the tables have names apart
  pub apart : TablesApart past.tables
  apart = subst TablesApart tables (comes_hold laws.ports (behind h stage leads)).apart

  behind_run : Behind past.tables (entries h) c
  behind_run = subst (λ (g : List Entry). Behind past.tables g c) (sym past.are) (behind_lines laws past.tables apart past.are_tables past.declared past.declare past.moments c past.passes)

pub receivers_have : HeardLaws → ReceiversHaveWhatWasDelivered
receivers_have laws h stage c leads port way entity is = subst (λ (t : Contents). HasDelivered (hop_at t port way entity.epoch) (entries h) entity.rx)
    (sym (tables laws h stage c leads))
    (receiver_has (past laws h stage c leads).tables (entries h) c (behind_run laws h stage c leads).holds laws port way entity is)
