-- The laws.
use Rattle.std.proofs.Common.{◌≡◌, inl, inr, false, List, map, refl, sym, ◌∙◌, subst}
use Rattle.std.specs.List.{AllByRecursion}
use Rattle.std.proofs.lemmas.Bool.{cases_Bool}
use Rattle.bearer_map.specs.Contents.{Contents}
use Rattle.script_text.specs.History.{Entry}
use Rattle.script_text.specs.Stages.{is_past_go}
use Rattle.node_model.proofs.Finding.{each_append, each_left}
use Rattle.chain_model.specs.Carried.{IsRowOf}
use Rattle.chain_model.specs.Draining.{entry_of}
use Rattle.chain_model.specs.Runs.{entries}
use Rattle.book_law.specs.Honest.{AreHonest}
use Rattle.direct_run_law.specs.Direct.{switches, NoneSwitches}
use Rattle.item_chain.specs.Foundations.{PduLaws}
use Rattle.item_chain.specs.Runs.{PastsStand, AreRunLines}
use Rattle.item_chain.specs.Stands.{TablesGood}
use Rattle.item_run.specs.Discards.{DiscardsUnattached}
use Rattle.item_run.specs.Foundations.{BookLaws, TableLaws}
use Rattle.item_run.specs.Laws.{StandingLinesAreHonest, DeclaredTablesAreGood, OfItemRuns, OfStandingRuns, IsHonestRun, KeepsBooks, HasSoundReplies}
use Rattle.item_run.specs.Laws.{DiscardsUnattachedAlone, HandsUpSettledWhenQuiet, HandsUpAllWhenQuiet}
use Rattle.item_run.proofs.AllUp.{all_up}
use Rattle.item_run.proofs.Good.{good, past_before, all_declared, none_submitted, none_handed}
use Rattle.item_run.proofs.Keeping.{none_open, passes_keep}
use Rattle.item_run.proofs.Honest.{honest_line}
use Rattle.item_run.specs.Replies.{never_comes, never_comes_over_switches, GivesNone}
use Rattle.item_run.proofs.Drained.{DrainsFine, runs_drain_fine}
use Rattle.item_run.proofs.Runs.{honest_lines}
use Rattle.item_run.proofs.Sound.{sound_lines, switching_lines, sound_declared}

pub lines_are_honest : PduLaws → StandingLinesAreHonest
lines_are_honest pdus g m st h row key keeps number = honest_line pdus g m st h row key keeps number

pub declared_tables_are_good : TableLaws → DeclaredTablesAreGood
declared_tables_are_good tables h stage c leads past_go = good c.tables (tables.sound h stage c leads).1 (tables.mapped h stage c leads past_go)

module _ (books : BookLaws) (tables : TableLaws) (pasts : PastsStand) (pdus : PduLaws) where
  pub runs_are_honest : OfItemRuns IsHonestRun
  runs_are_honest h stage c leads lines = elim (cases_Bool (is_past_go stage.part)) [
    | inl past_go ↦
        let p = books.past h stage c leads in
        let same = books.tables (entries h) c p in
        let are_good = subst TablesGood same (declared_tables_are_good tables h stage c leads past_go) in (
          p,
          λ row key its. honest_lines books pasts pdus p.tables p.are_tables are_good p.declared p.declare p.moments c p.passes (subst AreRunLines p.are lines) row key
              (subst (λ (t : Contents). IsRowOf t key row) same its),
        )
    | inr not_yet ↦
        let p = past_before h stage c leads not_yet in
        (p.0, λ row key its. subst (AreHonest row key p.0.declared) (sym p.1) tt)
  ]

  pub runs_keep_books : OfItemRuns KeepsBooks
  runs_keep_books h stage c leads lines row key its =
      let x = runs_are_honest h stage c leads lines in
      books.honest (entries h) c x.0 row key its (x.1 row key its)

  pub runs_have_sound_replies : OfStandingRuns HasSoundReplies
  runs_have_sound_replies h stage c leads lines none = elim (cases_Bool (is_past_go stage.part)) [
    | inl past_go ↦
        let p = books.past h stage c leads in
        let are_good = subst TablesGood (books.tables (entries h) c p) (declared_tables_are_good tables h stage c leads past_go) in
        let own : List Entry = map entry_of p.moments in
        subst (AllByRecursion (GivesNone never_comes)) (sym p.are) (each_append (GivesNone never_comes) own p.declared
        (sound_lines books pasts pdus p.tables p.are_tables are_good p.declared p.declare p.moments c p.passes (subst AreRunLines p.are lines)
        (each_left (λ (e : Entry). switches e.line ≡ false) own p.declared (subst NoneSwitches p.are none))
        (each_left DrainsFine own p.declared (subst (AllByRecursion DrainsFine) p.are (runs_drain_fine h stage c leads))))
        (sound_declared never_comes refl p.declared p.declare))
    | inr not_yet ↦ sound_declared never_comes refl (entries h) (all_declared h stage c leads not_yet)
  ]

  pub runs_discard_unattached : OfItemRuns DiscardsUnattachedAlone
  runs_discard_unattached h stage c leads lines = elim (cases_Bool (is_past_go stage.part)) [
    | inl past_go ↦
        let p = books.past h stage c leads in
        let are_good = subst TablesGood (books.tables (entries h) c p) (declared_tables_are_good tables h stage c leads past_go) in
        let own : List Entry = map entry_of p.moments in
        let each = switching_lines books pasts pdus p.tables p.are_tables are_good p.declared p.declare p.moments c p.passes (subst AreRunLines p.are lines)
        (each_left DrainsFine own p.declared (subst (AllByRecursion DrainsFine) p.are (runs_drain_fine h stage c leads))) in (
          subst (AllByRecursion (GivesNone never_comes_over_switches)) (sym p.are)
              (each_append (GivesNone never_comes_over_switches) own p.declared each.0 (sound_declared never_comes_over_switches refl p.declared p.declare)),
          p,
          each.1,
        )
    | inr not_yet ↦
        let p = past_before h stage c leads not_yet in (
          sound_declared never_comes_over_switches refl (entries h) (all_declared h stage c leads not_yet),
          p.0,
          subst (AllByRecursion DiscardsUnattached) (sym p.1) tt,
        )
  ]

  pub settled_keys_hand_up_all : OfItemRuns HandsUpSettledWhenQuiet
  settled_keys_hand_up_all h stage c leads lines quiet row key its none = elim (cases_Bool (is_past_go stage.part)) [
    | inl past_go ↦
        let p = books.past h stage c leads in
        let r = (pasts (entries h) c p lines (declared_tables_are_good tables h stage c leads past_go)).refines in
        all_up r.ghost c r.stands (tables.sound h stage c leads).1 quiet (entries h) row key its none
        (books.keeps (entries h) c p row key its).0 (books.hand_ups (entries h) c p row key its).number (runs_keep_books h stage c leads lines row key its).1
    | inr not_yet ↦
        let all = all_declared h stage c leads not_yet in
        none_handed key (entries h) all ∙ sym (none_submitted key (entries h) all)
  ]

-- where no line switches a path, no plan is open
pub runs_hand_up_all : BookLaws → OfItemRuns HandsUpSettledWhenQuiet → OfStandingRuns HandsUpAllWhenQuiet
runs_hand_up_all books settled h stage c leads lines none quiet row key its =
    let p = books.past h stage c leads in
    let plans = passes_keep p.tables p.moments c p.passes
    (each_left (λ (e : Entry). switches e.line ≡ false) (map entry_of p.moments) p.declared (subst NoneSwitches p.are none)) in
    settled h stage c leads lines quiet row key its (none_open p.tables c plans key.remote)
