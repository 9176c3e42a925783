-- What reading the words of a line in turn makes of their reader.
use Rattle.std.specs.Prelude.{◌≡◌, ◌≢◌, ℕ, Bool, true, false, ◌&&◌, List, [], ◌∷◌, drop, codes, Option, None, Some, if◌then◌else◌}
use Rattle.link_base.specs.declared.names.PortName.{PortName}
use Rattle.link_base.specs.declared.names.SnSize.{SnSize}
use Rattle.link_base.specs.declared.names.Way.{Way as AWay}
use Rattle.link_base.specs.declared.names.Side.{Side as ASide}
use Rattle.link_base.specs.declared.names.Timer.{Timer as ATimer}
use Rattle.link_base.specs.declared.names.Node.{Node as ANode}
use Rattle.bearer_map.specs.declared.settings.SetName.{SetName}
use Rattle.script_text.specs.declared.line.Line.{Line as ALine}
use Rattle.script_text.specs.declared.reader.Reader.{Reader}
use Rattle.script_text.specs.declared.reason.Reason.{Reason}
use Rattle.script_text.specs.declared.reason.Reason.TheVariants.{Form, Range}
use Rattle.script_text.specs.declared.stage.Part.{Part}
use Rattle.script_text.specs.Words.{words_of, word_at, IsNumber, IsSize, IsHex, IsPort, way_text, side_text, timer_text, node_text, setting_text}
use Rattle.script_text.specs.Fields.{Field, Number, Size, Hex, Port, Way, Side, Timer, Node, Setting, ToDirect, ToRelay, IsSpelt}
use Rattle.script_text.specs.Lines.{name, fields, part_of}
use Rattle.script_text.specs.Forms.{is_shaped}

-- the words that are left
abbrev pub words_left : Reader → List (List ℕ)
words_left r = if r.is_done then [] else words_of r.rest.now

-- the next of them, or an empty one
abbrev pub next_word : Reader → List ℕ
next_word r = word_at 0 (words_left r)

-- a word is read, whatever it holds
pub record Skips (old new : Reader) : Type 0 where
  pub left : words_left new ≡ drop 1 (words_left old)
  pub formed : new.is_formed ≡ old.is_formed
  pub spelt : new.is_spelt ≡ old.is_spelt

-- the last word doesn't spell what it was read as, and may or may not have the form of that
pub record Misspells (has_form : Bool) (old new : Reader) : Type 0 where
  pub left : words_left new ≡ words_left old
  pub formed : new.is_formed ≡ (has_form && old.is_formed)
  pub spelt : new.is_spelt ≡ false

-- the word holds nothing of the field's kind
abbrev pub NoneSpelt : List ℕ → Field → Type 0
NoneSpelt word (Number low high n) = (m : ℕ) → IsNumber low high word m → ⊥
NoneSpelt word (Size size) = (s : SnSize) → IsSize word s → ⊥
NoneSpelt word (Hex bytes) = (b : List ℕ) → IsHex word b → ⊥
NoneSpelt word (Port port) = (p : PortName) → IsPort word p → ⊥
NoneSpelt word (Way way) = (w : AWay) → word ≢ way_text w
NoneSpelt word (Side side) = (s : ASide) → word ≢ side_text s
NoneSpelt word (Timer timer) = (t : ATimer) → word ≢ timer_text t
NoneSpelt word (Node node) = (n : ANode) → word ≢ node_text n
NoneSpelt word (Setting name) = (s : SetName) → word ≢ setting_text s
NoneSpelt word ToDirect = word ≢ codes "direct"
NoneSpelt word ToRelay = word ≢ codes "relay"

-- only `relay` is read as the word of a path over the relay, and as no other word of a path
abbrev pub IsTakenFor : List ℕ → Field → Type 0
IsTakenFor word ToDirect = word ≢ codes "relay"
IsTakenFor word ToRelay = word ≡ codes "relay"
IsTakenFor word field = Unit {0}

-- the next word is read as this field
pub record Reads (old : Reader) (field : Field) (new : Reader) : Type 0 where
  pub left : words_left new ≡ drop 1 (words_left old)
  pub formed : new.is_formed ≡ (is_shaped (next_word old) field && old.is_formed)
  pub spelt : new.is_spelt ≡ true → (old.is_spelt ≡ true) × IsSpelt (next_word old) field
  pub unspelt : old.is_spelt ≡ true → new.is_spelt ≡ false → NoneSpelt (next_word old) field
  pub taken : IsTakenFor (next_word old) field

-- the next words are read as these fields
abbrev pub ReadsAll : Reader → List Field → Reader → Type 0
ReadsAll old [] new = new ≡ old
ReadsAll old (f ∷ fields) new = (mid : Reader) × Reads old f mid × ReadsAll mid fields new

-- the word begins the line, which stands in this part, and the words behind it are read as what they hold
pub record IsLineRead (part : Part) (word : List ℕ) (old : Reader) (line : ALine) (new : Reader) : Type 0 where
  pub stands : part_of line ≡ part
  pub begins : word ≡ name line
  pub reads : ReadsAll old (fields line) new

-- what is wrong with the words that were read, or that some are left
abbrev pub fault_in : Reader → Option Reason
fault_in r = if r.is_done && r.is_formed then (if r.is_spelt then None else Some Range) else Some Form
