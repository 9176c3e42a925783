-- Which texts are lines of a script at a stage, and why the others aren't.
use Rattle.std.specs.Prelude.{◌≡◌, ◌⊎◌, ℕ, ◌<◌, ◌≤◌, nat_le, Bool, true, false, not, ◌&&◌, List, [], ◌∷◌, length, Option, None, Some, Result, Ok, Err, codes, if◌then◌else◌}
use Rattle.std.specs.List.{list_all}
use Rattle.std.specs.Str.{bytes_eq}
use Rattle.bearer_map.specs.declared.rows.TableFault.{TableFault}
use Rattle.bearer_map.specs.declared.rows.TableFault.TheVariants as faults
use Rattle.script_text.specs.declared.limits.TheConstants.{LONGEST_LINE}
use Rattle.script_text.specs.declared.line.Line.{Line as ALine}
use Rattle.script_text.specs.declared.reason.Reason.{Reason}
use Rattle.script_text.specs.declared.reason.Reason.TheVariants.{Line, Text, Version, Word, Form, Range, Twice, Unknown, Limit, Map, End}
use Rattle.script_text.specs.declared.reason.LineFault.{LineFault}
use Rattle.script_text.specs.declared.reason.LineFault.TheVariants.{Bad, Memory}
use Rattle.script_text.specs.declared.stage.Part.TheVariants.{Start}
use Rattle.script_text.specs.declared.stage.Part.{Part}
use Rattle.script_text.specs.declared.stage.ScriptStage.{ScriptStage}
use Rattle.script_text.specs.Words.{words_of, word_at}
use Rattle.script_text.specs.Lines.{is_skipped, line_text, IsLineOf, IsNoLineOf, Spells}
use Rattle.script_text.specs.Forms.{IsFormed, IsNamed}
use Rattle.script_text.specs.Stages.{after}

-- each byte is from 32 to 126
abbrev pub is_printable : List ℕ → Bool
is_printable text = list_all (λ b. nat_le 32 b && nat_le b 126) text

-- it is to be the first line, and isn't the version
abbrev pub lacks_version : Part → List ℕ → Bool
lacks_version Start text = not (bytes_eq text (codes "relayscript 1"))
lacks_version part text = false

-- the text spells a line of the stage's part, which the tables refuse for this
pub record IsRefused (stage : ScriptStage) (text : List ℕ) (fault : TableFault) : Type 0 where
  pub line : ALine
  pub is_line : IsLineOf stage.part (words_of text) line
  pub refused : after stage line ≡ Err fault

-- the text is bad for this reason
abbrev pub IsBad : ScriptStage → List ℕ → Reason → Type 0
IsBad stage text Line = LONGEST_LINE < length text
IsBad stage text Text = is_printable text ≡ false
IsBad stage text Version = lacks_version stage.part text ≡ true
IsBad stage text Word = IsNamed stage.part (word_at 0 (words_of text)) → ⊥
IsBad stage text Form = IsFormed stage.part (words_of text) → ⊥
IsBad stage text Range = IsNoLineOf stage.part (words_of text)
IsBad stage text Twice = IsRefused stage text faults.Twice
IsBad stage text Unknown = IsRefused stage text faults.Unknown
IsBad stage text Limit = IsRefused stage text faults.Limit
IsBad stage text Map = IsRefused stage text faults.NoMap
IsBad stage text End = ⊥

-- the reasons in the order of their test; of a skipped line only its length is tested
abbrev pub reasons : List ℕ → List Reason
reasons text = if is_skipped text then Line ∷ [] else Line ∷ Text ∷ Version ∷ Word ∷ Form ∷ Range ∷ Twice ∷ Unknown ∷ Limit ∷ Map ∷ []

-- of these reasons none holds
abbrev pub NoneHolds : (Reason → Type 0) → List Reason → Type 0
NoneHolds Holds [] = Unit {0}
NoneHolds Holds (r ∷ rs) = (Holds r → ⊥) × NoneHolds Holds rs

-- of these reasons this is the first that holds
abbrev pub IsFirstReason : (Reason → Type 0) → List Reason → Reason → Type 0
IsFirstReason Holds [] reason = ⊥
IsFirstReason Holds (r ∷ rs) reason = ((reason ≡ r) × Holds r) ⊎ ((Holds r → ⊥) × IsFirstReason Holds rs reason)

-- what reading a line answers and leaves: none where it is skipped, else the line that it spells at this stage, or the
-- first reason for which it is bad
abbrev pub Parses : ScriptStage → List ℕ → Result (Option ALine) LineFault → ScriptStage → Type 0
Parses old text (Ok None) new = (is_skipped text ≡ true) × NoneHolds (IsBad old text) (reasons text) × (new ≡ old)
Parses old text (Ok (Some line)) new = (is_skipped text ≡ false) × NoneHolds (IsBad old text) (reasons text) × IsLineOf old.part (words_of text) line × (after old line ≡ Ok new)
Parses old text (Err (Bad reason)) new = IsFirstReason (IsBad old text) (reasons text) reason × (new ≡ old)
Parses old text (Err Memory) new = new ≡ old

-- what a refusal of the tables makes of a line
abbrev pub fault_of : TableFault → LineFault
fault_of faults.Range = Bad Range
fault_of faults.Twice = Bad Twice
fault_of faults.Unknown = Bad Unknown
fault_of faults.Limit = Bad Limit
fault_of faults.NoMap = Bad Map
fault_of faults.Memory = Memory

-- the text passes the tests before that of its form
pub record IsBegun (part : Part) (text : List ℕ) : Type 0 where
  pub printable : is_printable text ≡ true
  pub opened : lacks_version part text ≡ false
  pub known : IsNamed part (word_at 0 (words_of text))

-- what the text itself tells, before the tables are asked: the line of this part that it spells, or the first reason
abbrev pub IsRead : Part → List ℕ → Result ALine LineFault → Type 0
IsRead part text (Ok line) = IsBegun part text × IsLineOf part (words_of text) line
IsRead part text (Err (Bad Text)) = is_printable text ≡ false
IsRead part text (Err (Bad Version)) = (is_printable text ≡ true) × (lacks_version part text ≡ true)
IsRead part text (Err (Bad Word)) = (is_printable text ≡ true) × (lacks_version part text ≡ false) × (IsNamed part (word_at 0 (words_of text)) → ⊥)
IsRead part text (Err (Bad Form)) = IsBegun part text × (IsFormed part (words_of text) → ⊥)
IsRead part text (Err (Bad Range)) = IsBegun part text × IsFormed part (words_of text) × IsNoLineOf part (words_of text)
IsRead part text (Err (Bad other)) = ⊥
IsRead part text (Err Memory) = Unit {0}

-- words that spell a line, the line's text spells as well
abbrev pub TextIsSpelt : Type 0
TextIsSpelt = (words : List (List ℕ)) (line : ALine) → Spells words line → Spells (words_of (line_text line)) line

-- a line that is read from a text at a stage is read from its own text there as well
abbrev pub TextIsReadBack : Type 0
TextIsReadBack = (stage new : ScriptStage) (text : List ℕ) (line : ALine) → Parses stage text (Ok (Some line)) new → Parses stage (line_text line) (Ok (Some line)) new

-- a text of at most 65,536 bytes that spells a line of the stage's part, which the tables take, is read as that line
abbrev pub SpeltIsRead : Type 0
SpeltIsRead = (stage new : ScriptStage) (text : List ℕ) (line : ALine) → length text ≤ LONGEST_LINE → IsLineOf stage.part (words_of text) line → after stage line ≡ Ok new → Parses stage text (Ok (Some line)) new

-- but for want of memory, a text has one answer at a stage and leaves one stage
abbrev pub OneAnswerIsParsed : Type 0
OneAnswerIsParsed = (stage new other : ScriptStage) (text : List ℕ) (a b : Result (Option ALine) LineFault) → (a ≡ Err Memory → ⊥) → (b ≡ Err Memory → ⊥) → Parses stage text a new → Parses stage text b other
    → (a ≡ b) × (new ≡ other)
