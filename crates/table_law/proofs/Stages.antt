-- What each line of the tables keeps, each line of a script keeps.
use Rattle.std.proofs.Common.{◌≡◌, Bool, true, false, cond, Option, Some, None, unwrap_or, Result, Ok, Err, IfOk, refl, sym, ap, subst}
use Rattle.std.proofs.lemmas.Bool.{false≢true}
use Rattle.std.proofs.lemmas.Option.{none-some, same_Some}
use Rattle.bearer_map.specs.declared.rows.TableFault.{TableFault}
use Rattle.bearer_map.specs.Contents.{Contents, nothing}
use Rattle.script_text.specs.declared.line.Line.{Line}
use Rattle.script_text.specs.declared.line.Line.TheVariants.{Set, Remote as RemoteLine, Bearer, Uu, Pc5, Map, Start, Path, Go}
use Rattle.script_text.specs.declared.stage.Part.{Part}
use Rattle.script_text.specs.declared.stage.Part.TheVariants.{Running}
use Rattle.script_text.specs.declared.stage.ScriptStage.{ScriptStage}
use Rattle.script_text.specs.Lines.{part_of}
use Rattle.script_text.specs.Stages.{after, entered, is_past_go, kept, part_after, table_line, tables_after}
use Rattle.chain_model.specs.Runs.{contents}

-- what is behind refusals that don't hold
abbrev pub value : Result Contents TableFault → Option Contents
value (Ok t) = Some t
value (Err fault) = None

pub taken : (t new : Contents) → ◌≡◌ {A = Result Contents TableFault} (Ok t) (Ok new) → t ≡ new
taken t new e = same_Some t new (ap value e)

pub past : (refuses : Bool) (fault : TableFault) (r : Result Contents TableFault) (new : Contents) → cond refuses (Err fault) r ≡ Ok new → (refuses ≡ false) × (r ≡ Ok new)
past true fault r new e = absurd (none-some new (ap value e))
past false fault r new e = (refl, e)

-- what a line's tables have the stage behind it has
module _ (P : Contents → Contents → Type 0) (none : P nothing nothing) (line : Line) (gives : (t new : Contents) → table_line t line ≡ Ok new → P t new) where
  abbrev Gives : Option Contents → Option Contents → Type 0
  Gives old new = P (unwrap_or old nothing) (unwrap_or new nothing)

  kept_gives : (t : Contents) (r : Result Contents TableFault) → table_line t line ≡ r → IfOk (kept r) (Gives (Some t))
  kept_gives t (Ok u) is = gives t u is
  kept_gives t (Err fault) is = tt

  tables_give : (old : Option Contents) → IfOk (tables_after old line) (Gives old)
  tables_give None = none
  tables_give (Some t) = kept_gives t (table_line t line) refl

  entered_gives : (old : Option Contents) (part : Part) (r : Result (Option Contents) TableFault) → IfOk r (Gives old)
      → IfOk (entered part r) (λ (stage : ScriptStage). Gives old stage.tables)
  entered_gives old part (Ok new) is = is
  entered_gives old part (Err fault) is = tt

  pub stage_gives : (old new : ScriptStage) → after old line ≡ Ok new → P (contents old) (contents new)
  stage_gives old new is = subst (λ (r : Result ScriptStage TableFault). IfOk r (λ (stage : ScriptStage). Gives old.tables stage.tables)) is
      (entered_gives old.tables (part_after old.part line) (tables_after old.tables line) (tables_give old.tables))

-- a line behind go leaves the tables as they are
runs_keep : (line : Line) → part_of line ≡ Running → (t new : Contents) → table_line t line ≡ Ok new → new ≡ t
runs_keep (Set name setting) is t new e = absurd (false≢true (ap is_past_go is))
runs_keep (RemoteLine r) is t new e = absurd (false≢true (ap is_past_go is))
runs_keep (Bearer r d pdcp direct) is t new e = absurd (false≢true (ap is_past_go is))
runs_keep (Uu c size) is t new e = absurd (false≢true (ap is_past_go is))
runs_keep (Pc5 r c size) is t new e = absurd (false≢true (ap is_past_go is))
runs_keep (Map r d pc5 uu) is t new e = absurd (false≢true (ap is_past_go is))
runs_keep (Start key first) is t new e = absurd (false≢true (ap is_past_go is))
runs_keep (Path r goal) is t new e = absurd (false≢true (ap is_past_go is))
runs_keep Go is t new e = absurd (false≢true (ap is_past_go is))
runs_keep line is t new e = sym (taken t new e)

pub stage_runs : (line : Line) → part_of line ≡ Running → (old new : ScriptStage) → after old line ≡ Ok new → contents new ≡ contents old
stage_runs line is = stage_gives (λ old new. new ≡ old) refl line (runs_keep line is)
