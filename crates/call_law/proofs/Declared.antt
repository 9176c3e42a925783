-- The tables of a run are those that its lines declared, and a chain can be opened of them.
use Rattle.std.proofs.Common.{◌≡◌, List, [], ◌∷◌, refl, sym, ◌∙◌, ap}
use Rattle.std.specs.List.{AllByRecursion}
use Rattle.bearer_map.specs.declared.rows.MapRow.{MapRow}
use Rattle.bearer_map.specs.Contents.{Contents}
use Rattle.script_text.specs.declared.stage.Part.{Part}
use Rattle.script_text.specs.declared.stage.Part.TheVariants.{Start as AtStart, Tables, Running, Ended}
use Rattle.script_text.specs.Lines.{part_of}
use Rattle.node_end.specs.Opening.{IsRoute}
use Rattle.chain_model.specs.State.{Chain}
use Rattle.chain_model.specs.Runs.{entries, contents, Turns}
use Rattle.direct_run_law.proofs.Staying.{behaves_tables}
use Rattle.table_law.specs.Declared.{IsMap}
use Rattle.table_law.proofs.Stages.{stage_runs}
use Rattle.call_law.specs.Foundations.{RunLaws}
use Rattle.call_law.specs.Laws.{ChainsCanBeOpened, TablesAreDeclared}

-- a bearer that is mapped has a route
have_routes : (t : Contents) (rows : List MapRow) → AllByRecursion (IsMap t) rows → AllByRecursion (IsRoute t) rows
have_routes t [] all = tt
have_routes t (row ∷ rows) all = (record { bearer = all.0.bearer; from_1 = all.0.drb.0; to_32 = all.0.drb.1 }, have_routes t rows all.1)

pub chains_open : RunLaws → ChainsCanBeOpened
chains_open laws h stage c leads =
    let t = contents stage in
    let sound = (laws.sound h stage c leads).0 in
    record { counts = sound.counts; routes = have_routes t t.maps sound.maps; channels = sound.channels; ids = sound.ids }

pub tables_are_declared : RunLaws → TablesAreDeclared
tables_are_declared laws [] stage c leads = ap (λ (x : Chain). x.tables) leads.1 ∙ sym (ap contents leads.0)
tables_are_declared laws (t ∷ h) stage c leads = by (tables_are_declared laws h leads.0 leads.1 leads.2) (part_of t.entry.line) refl leads.4
  where
    by : leads.1.tables ≡ contents leads.0 → (part : Part) → part_of t.entry.line ≡ part → Turns part stage leads.1 t c → c.tables ≡ contents stage
    by was Running is b =
        behaves_tables laws.tables (entries h) leads.1 (laws.past h leads.0 leads.1 leads.2) t.inner t.entry.line t.entry.events t.entry.reply c b
        ∙ was ∙ sym (stage_runs t.entry.line is leads.0 stage leads.3.enters)
    by was AtStart is d = ap (λ (x : Chain). x.tables) d.3
    by was Tables is d = ap (λ (x : Chain). x.tables) d.3
    by was Ended is d = ap (λ (x : Chain). x.tables) d.3
