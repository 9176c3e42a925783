-- What a run has been so far: its entries, the newest first.
use Rattle.std.specs.Prelude.{◌≡◌, ◌⊎◌, ℕ, ◌+◌, ◌≤◌, true, false, List, [], ◌∷◌, ◌++◌, length}
use Rattle.script_text.specs.declared.limits.TheConstants.{LONGEST_LINE, LONGEST_SCRIPT}
use Rattle.script_text.specs.declared.line.Line.{Line}
use Rattle.script_text.specs.declared.event.Event.{Event}
use Rattle.script_text.specs.declared.reply.Reply.{Reply}
use Rattle.script_text.specs.Words.{words_of}
use Rattle.script_text.specs.Lines.{is_skipped, Spells}
use Rattle.script_text.specs.Splits.{Splits}
use Rattle.script_text.specs.Texts.{entry_text}

-- a line that was carried out, what it brought about, and the reply
pub record Entry : Type 0 where
  pub line : Line
  pub events : List Event
  pub reply : Reply

-- what the entries print, the oldest first
abbrev pub trace : List Entry → List ℕ
trace [] = []
trace (e ∷ h) = trace h ++ entry_text e.line e.events e.reply

-- the input begins with these lines, the newest first, each of which ends in time, and then the rest
abbrev pub ReadsLines : List ℕ → List (List ℕ) → List ℕ → Type 0
ReadsLines input [] rest = rest ≡ input
ReadsLines input (text ∷ texts) rest = (before : List ℕ) × ReadsLines input texts before × Splits before text rest × (length text ≤ LONGEST_LINE) × (length input ≤ LONGEST_SCRIPT + length rest)

-- the lines of a text, the newest first, are those of the entries, where lines that are skipped count for nothing
abbrev pub Spelt : List (List ℕ) → List Entry → Type 0
Spelt [] [] = Unit {0}
Spelt [] (e ∷ h) = ⊥
Spelt (text ∷ texts) [] = (is_skipped text ≡ true) × Spelt texts []
Spelt (text ∷ texts) (e ∷ h) = ((is_skipped text ≡ true) × Spelt texts (e ∷ h)) ⊎ ((is_skipped text ≡ false) × Spells (words_of text) e.line × Spelt texts h)
