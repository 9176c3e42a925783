-- The tables of a run are those that its lines declared, and these are sound.
use Rattle.std.proofs.Common.{◌≡◌, inl, inr, true, List, [], ◌∷◌, refl, sym, ◌∙◌, ap, subst}
use Rattle.std.proofs.lemmas.Bool.{false≢true}
use Rattle.link_base.specs.declared.names.Remote.{Remote}
use Rattle.bearer_map.specs.Contents.{Contents}
use Rattle.script_text.specs.declared.stage.Part.{Part}
use Rattle.script_text.specs.declared.stage.Part.TheVariants.{Start as AtStart, Tables, Running, Ended}
use Rattle.script_text.specs.declared.stage.ScriptStage.{ScriptStage}
use Rattle.script_text.specs.Lines.{part_of}
use Rattle.script_text.specs.Stages.{is_past_go}
use Rattle.book_law.specs.Past.{IsPast}
use Rattle.book_law.specs.Laws.{EachRunIsPast, TablesStay}
use Rattle.chain_model.specs.State.{Chain, node_at}
use Rattle.chain_model.specs.Runs.{Turn, entries, contents, LeadsTo, Turns}
use Rattle.chain_law.proofs.Tables.{TablesApart, nothing_apart, stage_apart}
use Rattle.direct_run_law.proofs.Staying.{behaves_tables}
use Rattle.table_law.specs.Declared.{AreDeclared, IsMapped}
use Rattle.table_law.specs.Laws.{MapsBeginning, RelayedRemotesAreMapped, TablesAreMapped, TablesAreSound}
use Rattle.table_law.proofs.Declared.{are_declared}
use Rattle.table_law.proofs.Lines.{AreTested, nothing_tested, stage_tested}
use Rattle.table_law.proofs.Mapped.{PassesEnd, begins_mapped, each_is_mapped, stage_mapped}
use Rattle.table_law.proofs.Relayed.{AreMapped, HasMaps, has_attachment, passes_mapped}
use Rattle.table_law.proofs.Stages.{stage_runs}

-- what the lines of a run have declared
record Has (stage : ScriptStage) : Type 0 where
  pub apart : TablesApart (contents stage)
  pub tested : AreTested (contents stage)
  pub ended : is_past_go stage.part ≡ true → PassesEnd (contents stage)

behind_lines : (h : List Turn) (stage : ScriptStage) (c : Chain) → LeadsTo h stage c → Has stage
behind_lines [] stage c leads = subst Has (sym leads.0) (record { apart = nothing_apart; tested = nothing_tested; ended = λ past. absurd (false≢true past) })
behind_lines (t ∷ h) stage c leads =
    let was = behind_lines h leads.0 leads.1 leads.2 in
    record {
      apart = stage_apart leads.0 t.entry.line stage was.apart leads.3.enters;
      tested = stage_tested t.entry.line leads.0 stage leads.3.enters was.tested;
      ended = stage_mapped t.entry.line leads.0 stage leads.3.part leads.3.enters was.ended;
    }

module _ (past : EachRunIsPast) (stay : TablesStay) where
  -- the tables of the chain are those that the lines declared
  pub tables_are : (h : List Turn) (stage : ScriptStage) (c : Chain) → LeadsTo h stage c → c.tables ≡ contents stage
  tables_are [] stage c leads = ap (λ (x : Chain). x.tables) leads.1 ∙ sym (ap contents leads.0)
  tables_are (t ∷ h) stage c leads = by (tables_are h leads.0 leads.1 leads.2) (part_of t.entry.line) refl leads.4
    where
      by : leads.1.tables ≡ contents leads.0 → (part : Part) → part_of t.entry.line ≡ part → Turns part stage leads.1 t c → c.tables ≡ contents stage
      by was Running is b =
          behaves_tables stay (entries h) leads.1 (past h leads.0 leads.1 leads.2) t.inner t.entry.line t.entry.events t.entry.reply c b
          ∙ was ∙ sym (stage_runs t.entry.line is leads.0 stage leads.3.enters)
      by was AtStart is d = ap (λ (x : Chain). x.tables) d.3
      by was Tables is d = ap (λ (x : Chain). x.tables) d.3
      by was Ended is d = ap (λ (x : Chain). x.tables) d.3

  pub sound : TablesAreSound
  sound h stage c leads =
      let has = behind_lines h stage c leads in
      let are = are_declared (contents stage) has.apart has.tested in
      (are, subst AreDeclared (sym (tables_are h stage c leads)) are)

  pub mapped : TablesAreMapped
  mapped h stage c leads past_go = subst MapsBeginning (sym (tables_are h stage c leads))
      (begins_mapped (contents stage) (sound h stage c leads).0 ((behind_lines h stage c leads).ended past_go))

  -- remotes that are attached somewhere, or are to be
  pub relayed : RelayedRemotesAreMapped
  relayed h stage c leads past_go = record {
    attached = λ node remote id is. elim (are.attached node remote) [
      | inl none ↦ absurd (has_attachment remote id (node_at c node).attached is none)
      | inr maps ↦ of_maps remote maps
    ];
    planned = λ remote plan id its goal. of_maps remote (are.plans remote plan id its goal);
  }
    where
      p : IsPast (entries h) c
      p = past h stage c leads

      same : p.tables ≡ contents stage
      same = sym (stay (entries h) c p) ∙ tables_are h stage c leads

      are : AreMapped p.tables c
      are = passes_mapped p.tables (subst PassesEnd (sym same) ((behind_lines h stage c leads).ended past_go)) p.moments c p.passes

      of_maps : (remote : Remote) → HasMaps p.tables remote → IsMapped c.tables remote
      of_maps remote maps = each_is_mapped c.tables (sound h stage c leads).1 remote (subst (λ (t : Contents). HasMaps t remote) (sym (stay (entries h) c p)) maps)
