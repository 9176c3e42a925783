-- The laws of what stands for chains along runs that switch paths.
use Rattle.std.proofs.Common.{inl, inr, sym, subst}
use Rattle.std.specs.List.{AllByRecursion}
use Rattle.std.proofs.lemmas.Bool.{cases_Bool}
use Rattle.script_text.specs.Stages.{is_past_go}
use Rattle.chain_model.specs.Draining.{Moment}
use Rattle.chain_model.specs.Runs.{contents, entries}
use Rattle.chain_law.specs.Laws.{behind}
use Rattle.chain_law.proofs.Laws.{comes_hold}
use Rattle.chain_law.proofs.Tables.{TablesApart}
use Rattle.book_law.proofs.Led.{led}
use Rattle.heard_law.specs.Laws.{HistoriesTellTheChain}
use Rattle.table_law.specs.Declared.{AreDeclared}
use Rattle.carried_law.specs.Foundations.{SentLaws, EndLaws}
use Rattle.item_chain.specs.Foundations.{PduLaws}
use Rattle.item_chain.specs.Runs.{PastsAreRemembered, PastsStand, AreRunLines}
use Rattle.item_chain.specs.Stands.{TablesGood}
use Rattle.item_run.specs.Foundations.{BookLaws, TableLaws}
use Rattle.item_run.specs.Identities.{PlansUnborne, PlannedIdsAreOwn}
use Rattle.item_run.specs.Windows.{IsInWindows}
use Rattle.item_run.specs.Laws.{OfItemRuns, OfRunsPastGo, IsOneCopiedThroughout, HasOneCopyThroughout, PlansFindUnborne, AppliesFindFree, RunsInWindows}
use Rattle.item_run.proofs.Copies.{copied_behind, copied_before}
use Rattle.item_run.proofs.Good.{begins, past_before}
use Rattle.item_run.proofs.InWindows.{each_in_windows}
use Rattle.item_run.proofs.Moments.{at_each}
use Rattle.item_run.proofs.PlannedIds.{opened_own, planned_behind, planned_before}
use Rattle.item_run.proofs.TheLaws.{declared_tables_are_good}
use Rattle.item_run.proofs.Unborne.{each_plans_unborne}

module _ (books : BookLaws) (tables : TableLaws) (pasts : PastsStand) (pdus : PduLaws) where
  pub runs_are_one_copied : OfRunsPastGo IsOneCopiedThroughout
  runs_are_one_copied h stage c leads past_go lines =
      let p = books.past h stage c leads in
      let are_good = subst TablesGood (books.tables (entries h) c p) (declared_tables_are_good tables h stage c leads past_go) in
      let its = subst AreRunLines p.are lines in (
        copied_behind books pasts pdus p.tables p.are_tables are_good p.declared p.declare p.moments c p.passes its,
        p,
        copied_before books pasts pdus p.tables p.are_tables are_good p.declared p.declare p.moments c p.passes its,
      )

  pub runs_have_one_copy : SentLaws → EndLaws → PastsAreRemembered → OfRunsPastGo HasOneCopyThroughout
  runs_have_one_copy sent ends memory h stage c leads past_go lines =
      let l = led h stage c leads in
      let p = l.past in
      let same = books.tables (entries h) c p in
      let are_good = subst TablesGood same (declared_tables_are_good tables h stage c leads past_go) in (
        p,
        at_each books pasts pdus sent ends memory p.tables (subst TablesApart same (comes_hold sent.heard.ports (behind h stage leads)).apart) p.are_tables are_good
            (subst AreDeclared same (tables.sound h stage c leads).1) p.declared p.declare (behind l.opens.0 l.opens.1 l.opens.2) p.moments c p.passes
            (subst AreRunLines p.are lines),
      )

  pub plans_find_unborne : OfItemRuns PlansFindUnborne
  plans_find_unborne h stage c leads lines = elim (cases_Bool (is_past_go stage.part)) [
    | inl past_go ↦
        let p = books.past h stage c leads in
        let are_good = subst TablesGood (books.tables (entries h) c p) (declared_tables_are_good tables h stage c leads past_go) in (
          p,
          each_plans_unborne books pasts pdus p.tables p.are_tables are_good p.declared p.declare p.moments c p.passes (subst AreRunLines p.are lines),
        )
    | inr not_yet ↦ let p = past_before h stage c leads not_yet in (p.0, subst (AllByRecursion PlansUnborne) (sym p.1) tt)
  ]

  pub applies_find_free : HistoriesTellTheChain → OfItemRuns AppliesFindFree
  applies_find_free tells h stage c leads lines = elim (cases_Bool (is_past_go stage.part)) [
    | inl past_go ↦
        let p = books.past h stage c leads in
        let are_good = subst TablesGood (books.tables (entries h) c p) (declared_tables_are_good tables h stage c leads past_go) in
        let its = subst AreRunLines p.are lines in (
          planned_behind books pasts tells pdus p.tables p.are_tables are_good p.declared p.declare p.moments c p.passes its,
          p,
          planned_before books pasts tells pdus p.tables p.are_tables are_good p.declared p.declare p.moments c p.passes its,
        )
    | inr not_yet ↦
        let p = past_before h stage c leads not_yet in (
          subst PlannedIdsAreOwn (sym (begins h stage c leads not_yet)) (opened_own (contents stage)),
          p.0,
          subst (AllByRecursion (λ (m : Moment). PlannedIdsAreOwn m.before)) (sym p.1) tt,
        )
  ]

  pub runs_in_windows : OfItemRuns RunsInWindows
  runs_in_windows h stage c leads lines = elim (cases_Bool (is_past_go stage.part)) [
    | inl past_go ↦
        let p = books.past h stage c leads in
        let are_good = subst TablesGood (books.tables (entries h) c p) (declared_tables_are_good tables h stage c leads past_go) in (
          p,
          each_in_windows books pasts pdus p.tables p.are_tables are_good p.declared p.declare p.moments c p.passes (subst AreRunLines p.are lines),
        )
    | inr not_yet ↦ let p = past_before h stage c leads not_yet in (p.0, subst (AllByRecursion IsInWindows) (sym p.1) tt)
  ]
