-- A text has one answer at a stage.
use Rattle.std.proofs.Common.{◌≡◌, ℕ, List, [], ◌∷◌, Option, None, Some, Result, Ok, Err, refl, sym, ◌∙◌, ap, inl, inr}
use Rattle.script_text.specs.declared.line.Line.{Line}
use Rattle.script_text.specs.declared.reason.Reason.{Reason}
use Rattle.script_text.specs.declared.reason.LineFault.{LineFault}
use Rattle.script_text.specs.declared.reason.LineFault.TheVariants.{Bad, Memory}
use Rattle.script_text.specs.declared.stage.ScriptStage.{ScriptStage}
use Rattle.bearer_map.specs.declared.rows.TableFault.{TableFault}
use Rattle.script_text.specs.Words.{words_of}
use Rattle.script_text.specs.Stages.{after}
use Rattle.script_text.specs.Grammar.{IsBad, NoneHolds, IsFirstReason, Parses, reasons}
use Rattle.script_text.proofs.OneLine.{one_line}

pub one_first : (Holds : Reason → Type 0) (rs : List Reason) (a b : Reason) → IsFirstReason Holds rs a → IsFirstReason Holds rs b → a ≡ b
one_first Holds [] a b x y = absurd x
one_first Holds (r ∷ rs) a b (inl x) (inl y) = x.0 ∙ sym y.0
one_first Holds (r ∷ rs) a b (inl x) (inr y) = absurd (y.0 x.1)
one_first Holds (r ∷ rs) a b (inr x) (inl y) = absurd (x.0 y.1)
one_first Holds (r ∷ rs) a b (inr x) (inr y) = one_first Holds rs a b x.1 y.1

pub none_first : (Holds : Reason → Type 0) (rs : List Reason) (a : Reason) → NoneHolds Holds rs → IsFirstReason Holds rs a → ⊥
none_first Holds [] a none x = x
none_first Holds (r ∷ rs) a none (inl x) = none.0 x.1
none_first Holds (r ∷ rs) a none (inr x) = none_first Holds rs a none.1 x.1

same_stage : (a b : ScriptStage) → (let r : Result ScriptStage TableFault = Ok a in r) ≡ Ok b → a ≡ b
same_stage a b e = cc

pub one_parse : (stage new other : ScriptStage) (text : List ℕ) (a b : Result (Option Line) LineFault) → (a ≡ Err Memory → ⊥) → (b ≡ Err Memory → ⊥) → Parses stage text a new → Parses stage text b other
    → (a ≡ b) × (new ≡ other)
one_parse stage new other text (Err Memory) b x y p q = absurd (x refl)
one_parse stage new other text (Ok None) (Err Memory) x y p q = absurd (y refl)
one_parse stage new other text (Ok (Some l)) (Err Memory) x y p q = absurd (y refl)
one_parse stage new other text (Err (Bad r)) (Err Memory) x y p q = absurd (y refl)
one_parse stage new other text (Ok None) (Ok None) x y p q = (refl, p.2 ∙ sym q.2)
one_parse stage new other text (Ok None) (Ok (Some m)) x y p q = absurd (let clash = sym p.0 ∙ q.0 in cc)
one_parse stage new other text (Ok None) (Err (Bad r)) x y p q = absurd (none_first (IsBad stage text) (reasons text) r p.1 q.0)
one_parse stage new other text (Ok (Some l)) (Ok None) x y p q = absurd (let clash = sym q.0 ∙ p.0 in cc)
one_parse stage new other text (Ok (Some l)) (Ok (Some m)) x y p q =
    let same = one_line (words_of text) l m p.2.spelt q.2.spelt in
    (ap (λ (k : Line). let r : Result (Option Line) LineFault = Ok (Some k) in r) same, same_stage new other (sym p.3 ∙ (ap (after stage) same ∙ q.3)))
one_parse stage new other text (Ok (Some l)) (Err (Bad r)) x y p q = absurd (none_first (IsBad stage text) (reasons text) r p.1 q.0)
one_parse stage new other text (Err (Bad r)) (Ok None) x y p q = absurd (none_first (IsBad stage text) (reasons text) r q.1 p.0)
one_parse stage new other text (Err (Bad r)) (Ok (Some l)) x y p q = absurd (none_first (IsBad stage text) (reasons text) r q.1 p.0)
one_parse stage new other text (Err (Bad r)) (Err (Bad s)) x y p q =
    (ap (λ (t : Reason). let v : Result (Option Line) LineFault = Err (Bad t) in v) (one_first (IsBad stage text) (reasons text) r s p.0 q.0), p.1 ∙ sym q.1)
