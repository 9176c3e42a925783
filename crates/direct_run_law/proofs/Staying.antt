-- The tables of a chain stay behind more lines.
use Rattle.std.proofs.Common.{◌≡◌, List, [], ◌∷◌, ◌++◌, map, Option, Some, None, refl, sym, ◌∙◌, ap, subst}
use Rattle.script_text.specs.declared.event.Event.{Event}
use Rattle.script_text.specs.declared.line.Line.{Line}
use Rattle.script_text.specs.declared.line.Line.TheVariants.{Drain, End}
use Rattle.script_text.specs.declared.reply.Reply.{Reply}
use Rattle.script_text.specs.History.{Entry}
use Rattle.chain_model.specs.Draining.{Moment, entry_of, IsRun, drain_refusal}
use Rattle.chain_model.specs.Runs.{Behaves, DrainsUnless}
use Rattle.chain_model.specs.State.{Chain}
use Rattle.chain_model.specs.Steps.{Step}
use Rattle.book_law.specs.Laws.{TablesStay}
use Rattle.book_law.specs.Past.{steps, Passes, IsPast}

module _ (tables : TablesStay) (h : List Entry) (old : Chain) (p : IsPast h old) where
  same_tables : (ms : List Moment) (c : Chain) → Passes p.tables ms c → c.tables ≡ old.tables
  same_tables ms c passes =
      tables (map entry_of ms ++ p.declared) c
      (record { tables = p.tables; are_tables = p.are_tables; declared = p.declared; declare = p.declare; moments = ms; are = refl; passes = passes }) ∙ sym
      (tables h old p)

  run_passes : (ms : List Moment) (c : Chain) → IsRun old ms c → Passes p.tables (ms ++ p.moments) c
  run_passes [] c is = subst (Passes p.tables p.moments) (sym is) p.passes
  run_passes (m ∷ ms) c (run, step) = (run_passes ms m.before run, steps step)

  step_tables : (line : Line) (events : List Event) (reply : Reply) (c : Chain) → Step old line events reply c → c.tables ≡ old.tables
  step_tables line events reply c s = same_tables (record { before = old; entry = record { line = line; events = events; reply = reply } } ∷ p.moments) c (p.passes, steps s)

  drain_tables : (refusal : Option Reply) (inner : List Entry) (reply : Reply) (c : Chain) → DrainsUnless refusal old inner reply c → c.tables ≡ old.tables
  drain_tables (Some r) inner reply c d = ap (λ (x : Chain). x.tables) d.2
  drain_tables None inner reply c d = same_tables (d.moments ++ p.moments) c (run_passes d.moments c d.is_drain.run)

  pub behaves_tables : (inner : List Entry) (line : Line) (events : List Event) (reply : Reply) (c : Chain) → Behaves old inner line events reply c → c.tables ≡ old.tables
  behaves_tables inner Drain events reply c b = drain_tables (drain_refusal old) inner reply c b.1
  behaves_tables inner End events reply c b = ap (λ (x : Chain). x.tables) b.3
  behaves_tables inner line events reply c b = step_tables line events reply c b.1
