-- The laws.
use Rattle.std.proofs.Common.{◌≡◌, false, List, [], ◌∷◌, map, sym, ◌∙◌, ap, subst}
use Rattle.link_base.specs.declared.names.Key.{Key}
use Rattle.bearer_map.specs.Contents.{Contents}
use Rattle.bearer_map.specs.declared.rows.BearerRow.{BearerRow}
use Rattle.script_text.specs.declared.stage.Part.{Part}
use Rattle.script_text.specs.declared.stage.Part.TheVariants.{Start as AtStart, Tables, Running, Ended}
use Rattle.script_text.specs.declared.stage.ScriptStage.{ScriptStage}
use Rattle.script_text.specs.Lines.{part_of}
use Rattle.script_text.specs.History.{Entry}
use Rattle.node_model.proofs.Finding.{each_left}
use Rattle.chain_model.specs.Carried.{IsRowOf}
use Rattle.chain_model.specs.Draining.{entry_of}
use Rattle.chain_model.specs.Runs.{Turn, entries, LeadsTo, Turns, contents}
use Rattle.chain_model.specs.State.{Chain, opened}
use Rattle.chain_law.specs.Laws.{ComesUp, behind}
use Rattle.book_law.specs.Honest.{AreHonest}
use Rattle.book_law.specs.Past.{IsPast}
use Rattle.direct_run_law.specs.Direct.{BeginDirect, NoneSwitches, switches}
use Rattle.direct_run_law.specs.Foundations.{HopLaws, CallLaws, BookLaws, PdcpLaws}
use Rattle.direct_run_law.specs.Laws.{DirectRunsAreHonest, DirectRunsKeepBook, DirectPortsKeepOwnTags}
use Rattle.direct_run_law.proofs.Chains.{Holds}
use Rattle.direct_run_law.proofs.Opened.{opened_holds}
use Rattle.direct_run_law.proofs.Own.{holds_own}
use Rattle.direct_run_law.proofs.Runs.{behind_lines}
use Rattle.direct_run_law.proofs.Staying.{behaves_tables}

module _ (books : BookLaws) where
  -- the chain that the tables of a run open comes up in a run
  opens_up : (h : List Turn) (stage : ScriptStage) (c : Chain) → LeadsTo h stage c → ComesUp (opened c.tables)
  opens_up [] stage c leads = subst ComesUp (leads.1 ∙ sym (ap (λ (x : Chain). opened x.tables) leads.1)) (behind [] stage leads)
  opens_up (t ∷ h) stage c leads = by (opens_up h leads.0 leads.1 leads.2) (part_of t.entry.line) leads.4
    where
      declares : c ≡ opened (contents stage) → ComesUp (opened c.tables)
      declares is = subst ComesUp (is ∙ sym (ap (λ (x : Chain). opened x.tables) is)) (behind (t ∷ h) stage leads)

      by : ComesUp (opened leads.1.tables) → (part : Part) → Turns part stage leads.1 t c → ComesUp (opened c.tables)
      by up Running b = subst (λ (x : Contents). ComesUp (opened x))
          (sym (behaves_tables books.tables (entries h) leads.1 (books.past h leads.0 leads.1 leads.2) t.inner t.entry.line t.entry.events t.entry.reply c b)) up
      by up AtStart d = declares d.3
      by up Tables d = declares d.3
      by up Ended d = declares d.3

  module _ (hops : HopLaws) (calls : CallLaws) (pdus : PdcpLaws) where
    lines_behind : (h : List Turn) (stage : ScriptStage) (c : Chain) → LeadsTo h stage c → BeginDirect c.tables → NoneSwitches (entries h) → (past : IsPast (entries h) c)
        × Holds c × ((row : BearerRow) (key : Key) → IsRowOf c.tables key row → AreHonest row key past.declared past.moments)
    lines_behind h stage c leads direct none =
        let past = books.past h stage c leads in
        let tables = books.tables (entries h) c past in
        let first = opened_holds past.tables past.are_tables (subst BeginDirect tables direct) in
        let up : ComesUp (opened past.tables) = subst (λ (t : Contents). ComesUp (opened t)) tables (opens_up h stage c leads) in
        let lines = each_left (λ (e : Entry). switches e.line ≡ false) (map entry_of past.moments) past.declared (subst NoneSwitches past.are none) in
        let b = behind_lines hops calls books pdus past.tables past.are_tables past.declared past.declare first up past.moments c past.passes lines in
        (past, b.holds, λ row key its. b.honest row key (subst (λ (t : Contents). IsRowOf t key row) tables its))

    pub runs_are_honest : DirectRunsAreHonest
    runs_are_honest h stage c leads direct none =
        let x = lines_behind h stage c leads direct none in
        (x.0, x.2)

    pub runs_keep_book : DirectRunsKeepBook
    runs_keep_book h stage c leads direct none row key its =
        let x = lines_behind h stage c leads direct none in
        books.honest (entries h) c x.0 row key its (x.2 row key its)

    pub ports_keep_own_tags : DirectPortsKeepOwnTags
    ports_keep_own_tags h stage c leads direct channels none = holds_own c (lines_behind h stage c leads direct none).1 channels
