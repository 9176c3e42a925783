-- The forms of lines: their words, where a number may have any size.
use Rattle.std.specs.Prelude.{◌≡◌, ℕ, suc, Bool, true, ◌&&◌, List, [], ◌∷◌, length, codes}
use Rattle.std.specs.List.{list_any}
use Rattle.std.specs.Str.{bytes_eq}
use Rattle.script_text.specs.declared.line.Line.{Line}
use Rattle.script_text.specs.declared.stage.Part.{Part}
use Rattle.script_text.specs.Words.{word_at, is_numeral, is_hex, is_port_form}
use Rattle.script_text.specs.Fields.{Field, Number, Size, Hex, Port, Way, Side, Timer, Node, Setting, ToDirect, ToRelay}
use Rattle.script_text.specs.Lines.{name, fields, part_of}

-- the word is one of these
abbrev pub is_one_of : List (List ℕ) → List ℕ → Bool
is_one_of texts word = list_any (bytes_eq word) texts

-- the word has the form of the field, whatever it holds
abbrev pub is_shaped : List ℕ → Field → Bool
is_shaped word (Number low high n) = is_numeral word
is_shaped word (Size size) = is_numeral word
is_shaped word (Hex bytes) = is_hex word
is_shaped word (Port port) = is_port_form word
is_shaped word (Way way) = is_one_of (codes "ul" ∷ codes "dl" ∷ []) word
is_shaped word (Side side) = is_one_of (codes "low" ∷ codes "high" ∷ []) word
is_shaped word (Timer timer) = is_one_of (codes "poll" ∷ codes "reasm" ∷ codes "prohibit" ∷ []) word
is_shaped word (Node node) = is_one_of (codes "remote" ∷ codes "relay" ∷ codes "gnb" ∷ []) word
is_shaped word (Setting name) = is_one_of (codes "queue" ∷ codes "report" ∷ codes "pollpdu" ∷ codes "pollbyte" ∷ codes "maxretx" ∷ []) word
is_shaped word ToDirect = bytes_eq word (codes "direct")
is_shaped word ToRelay = bytes_eq word (codes "relay")

-- the words from the k-th on have the forms of these fields
abbrev pub are_shaped : ℕ → List (List ℕ) → List Field → Bool
are_shaped k words [] = true
are_shaped k words (f ∷ fields) = is_shaped (word_at k words) f && are_shaped (suc k) words fields

-- the words have the form of the line, whatever the size of its numbers
pub record HasForm (words : List (List ℕ)) (line : Line) : Type 0 where
  pub count : length words ≡ suc (length (fields line))
  pub begins : word_at 0 words ≡ name line
  pub shaped : are_shaped 1 words (fields line) ≡ true

-- the words have the form of a line of this part
pub record IsFormed (part : Part) (words : List (List ℕ)) : Type 0 where
  pub line : Line
  pub stands : part_of line ≡ part
  pub form : HasForm words line

-- the word begins a line of this part
pub record IsNamed (part : Part) (word : List ℕ) : Type 0 where
  pub line : Line
  pub stands : part_of line ≡ part
  pub begins : word ≡ name line
