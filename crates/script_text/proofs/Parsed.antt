-- What reading a line answers, put together from the text's own tests and the tables' answer.
use Rattle.std.proofs.Common.{◌≡◌, ℕ, ◌≤◌, Bool, true, false, cond, List, [], ◌∷◌, length, Option, None, Some, Result, Ok, Err, refl, sym, ◌∙◌, ap, subst, arith, inl, inr}
use Rattle.bearer_map.specs.declared.rows.TableFault.{TableFault}
use Rattle.bearer_map.specs.declared.rows.TableFault.TheVariants as faults
use Rattle.bearer_map.specs.Contents.{Contents}
use Rattle.script_text.specs.declared.line.Line.{Line as ALine}
use Rattle.script_text.specs.declared.reason.Reason.{Reason}
use Rattle.script_text.specs.declared.reason.Reason.TheVariants.{Line, Text, Version, Word, Form, Range, Twice, Unknown, Limit, Map}
use Rattle.script_text.specs.declared.reason.LineFault.TheVariants.{Bad}
use Rattle.script_text.specs.declared.stage.Part.{Part}
use Rattle.script_text.specs.declared.stage.ScriptStage.{ScriptStage}
use Rattle.script_text.specs.Words.{words_of}
use Rattle.script_text.specs.Lines.{is_skipped, Spells, IsLineOf}
use Rattle.script_text.specs.Stages.{after, entered, kept, tables_after, table_line, EntersStage}
use Rattle.script_text.specs.Grammar.{IsRefused, IsBad, reasons, NoneHolds, IsFirstReason, Parses, IsBegun, IsRead, fault_of}
use Rattle.script_text.proofs.OneLine.{one_line}
use Rattle.script_text.proofs.NotRange.{not_range}
use Rattle.script_text.proofs.HasForm.{formed}
use Rattle.script_text.proofs.LineRead.{FaultMeans}

-- the tables refuse no line that is spelt for a range
kept_range : (x : Result Contents TableFault) → (x ≡ Err faults.Range → ⊥) → kept x ≡ Err faults.Range → ⊥
kept_range (Ok t) none e = absurd cc
kept_range (Err f) none e = none (let same : f ≡ faults.Range = cc in ap (λ (g : TableFault). let r : Result Contents TableFault = Err g in r) same)

entered_range : (part : Part) (x : Result (Option Contents) TableFault) → (x ≡ Err faults.Range → ⊥) → entered part x ≡ Err faults.Range → ⊥
entered_range part (Ok t) none e = absurd cc
entered_range part (Err f) none e = none (let same : f ≡ faults.Range = cc in ap (λ (g : TableFault). let r : Result (Option Contents) TableFault = Err g in r) same)

tables_range : (t : Option Contents) (ws : List (List ℕ)) (line : ALine) → Spells ws line → tables_after t line ≡ Err faults.Range → ⊥
tables_range None ws line x e = absurd cc
tables_range (Some t) ws line x e = kept_range (table_line t line) (not_range t ws line x) e

after_range : (stage : ScriptStage) (ws : List (List ℕ)) (line : ALine) → Spells ws line → after stage line ≡ Err faults.Range → ⊥
after_range stage ws line x e = entered_range _ _ (tables_range stage.tables ws line x) e

opposite : {b : Bool} → b ≡ true → b ≡ false → ⊥
opposite x y = let e = sym x ∙ y in cc

module _ (stage : ScriptStage) (text : List ℕ) (short : length text ≤ 65536) (read : is_skipped text ≡ false) where
  not_long : IsBad stage text Line → ⊥
  not_long long = omega (arith, short, long)

  first : (reason : Reason) → IsFirstReason (IsBad stage text) (Line ∷ Text ∷ Version ∷ Word ∷ Form ∷ Range ∷ Twice ∷ Unknown ∷ Limit ∷ Map ∷ []) reason → IsFirstReason (IsBad stage text) (reasons text) reason
  first reason x = subst (λ (b : Bool). IsFirstReason (IsBad stage text) (cond b (Line ∷ []) (Line ∷ Text ∷ Version ∷ Word ∷ Form ∷ Range ∷ Twice ∷ Unknown ∷ Limit ∷ Map ∷ [])) reason) (sym read) x

  -- a reason that the text itself gives
  pub misread : (reason : Reason) → IsRead stage.part text (Err (Bad reason)) → IsFirstReason (IsBad stage text) (reasons text) reason
  misread Text x = first Text (inr (not_long, inl (refl, x)))
  misread Version x = first Version (inr (not_long, inr (opposite x.0, inl (refl, x.1))))
  misread Word x = first Word (inr (not_long, inr (opposite x.0, inr (λ v. opposite v x.1, inl (refl, x.2)))))
  misread Form x = first Form (inr (not_long, inr (opposite x.0.printable, inr (λ v. opposite v x.0.opened, inr (λ none. none x.0.known, inl (refl, x.1))))))
  misread Range x = first Range (inr (not_long, inr (opposite x.0.printable, inr (λ v. opposite v x.0.opened, inr (λ none. none x.0.known, inr (λ none. none x.1, inl (refl, x.2)))))))
  misread reason x = absurd x

  module _ (line : ALine) (begun : IsBegun stage.part text) (is : IsLineOf stage.part (words_of text) line) where
    has_form : IsBad stage text Form → ⊥
    has_form bad = bad (formed stage.part (words_of text) line is)

    is_some_line : IsBad stage text Range → ⊥
    is_some_line none = none line is

    -- what the tables say of any line that the text spells they say of this one
    same_fault : (fault : TableFault) → IsRefused stage text fault → after stage line ≡ Err fault
    same_fault fault x = ap (after stage) (one_line (words_of text) line x.line is.spelt x.is_line.spelt) ∙ x.refused

    not_refused : (fault other : TableFault) → after stage line ≡ Err other → ((let r : Result ScriptStage TableFault = Err other in r) ≡ Err fault → ⊥) → IsRefused stage text fault → ⊥
    not_refused fault other e apart x = apart (sym e ∙ same_fault fault x)

    before_tables : (reason : Reason) → IsFirstReason (IsBad stage text) (Twice ∷ Unknown ∷ Limit ∷ Map ∷ []) reason → IsFirstReason (IsBad stage text) (reasons text) reason
    before_tables reason x = first reason (inr (not_long, inr (opposite begun.printable, inr (λ v. opposite v begun.opened, inr (λ none. none begun.known, inr (has_form, inr (is_some_line, x)))))))

    refused : (fault : TableFault) → after stage line ≡ Err fault → IsRefused stage text fault
    refused fault e = record { line = line; is_line = is; refused = e }

    -- a reason that the tables give
    pub turned_down : (new : ScriptStage) (fault : TableFault) → EntersStage (Err fault) stage new (after stage line) → Parses stage text (Err (fault_of fault)) new
    turned_down new faults.Range x = absurd (after_range stage (words_of text) line is.spelt x.0)
    turned_down new faults.Twice x = (before_tables Twice (inl (refl, refused faults.Twice x.0)), x.1)
    turned_down new faults.Unknown x = (before_tables Unknown (inr (not_refused faults.Twice _ x.0 (λ e. absurd cc), inl (refl, refused faults.Unknown x.0))), x.1)
    turned_down new faults.Limit x =
        (before_tables Limit (inr (not_refused faults.Twice _ x.0 (λ e. absurd cc), inr (not_refused faults.Unknown _ x.0 (λ e. absurd cc), inl (refl, refused faults.Limit x.0)))), x.1)
    turned_down new faults.NoMap x =
        (before_tables Map (inr (not_refused faults.Twice _ x.0 (λ e. absurd cc), inr (not_refused faults.Unknown _ x.0 (λ e. absurd cc), inr (not_refused faults.Limit _ x.0 (λ e. absurd cc), inl (refl, refused faults.NoMap x.0))))), x.1)
    turned_down new faults.Memory x = x

    -- no reason holds where the tables take the line
    not_taken : (new : ScriptStage) (fault : TableFault) → after stage line ≡ Ok new → IsRefused stage text fault → ⊥
    not_taken new fault e x = let clash = sym e ∙ same_fault fault x in cc

    pub taken : (new : ScriptStage) → after stage line ≡ Ok new → Parses stage text (Ok (Some line)) new
    taken new e = (
      read,
      subst (λ (b : Bool). NoneHolds (IsBad stage text) (cond b (Line ∷ []) (Line ∷ Text ∷ Version ∷ Word ∷ Form ∷ Range ∷ Twice ∷ Unknown ∷ Limit ∷ Map ∷ []))) (sym read)
          (not_long, (opposite begun.printable, (λ v. opposite v begun.opened, ((λ none. none begun.known), (has_form, (is_some_line, (not_taken new faults.Twice e, (not_taken new faults.Unknown e, (not_taken new faults.Limit e, (not_taken new faults.NoMap e, tt)))))))))),
      is,
      e,
    )

-- what a reader's fault says of a text
pub misspelt : (part : Part) (text : List ℕ) (line : ALine) → IsBegun part text → (reason : Reason) → FaultMeans part (words_of text) line (Some reason) → IsRead part text (Err (Bad reason))
misspelt part text line begun Range x = (begun, x.0, x.1)
misspelt part text line begun Form x = (begun, x)
misspelt part text line begun reason x = absurd x
