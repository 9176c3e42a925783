-- The words behind a line's first: what each holds, how it may be spelt, and how it is written.
use Rattle.std.specs.Prelude.{◌≡◌, ℕ, suc, List, [], ◌∷◌, ◌++◌, codes}
use Rattle.std.specs.Fmt.{decimal}
use Rattle.link_base.specs.declared.names.PortName.{PortName}
use Rattle.link_base.specs.declared.names.SnSize.{SnSize}
use Rattle.link_base.specs.declared.names.Way.{Way as AWay}
use Rattle.link_base.specs.declared.names.Side.{Side as ASide}
use Rattle.link_base.specs.declared.names.Timer.{Timer as ATimer}
use Rattle.link_base.specs.declared.names.Node.{Node as ANode}
use Rattle.bearer_map.specs.declared.settings.SetName.{SetName}
use Rattle.script_text.specs.Words.{word_at, IsNumber, IsSize, IsHex, IsPort, size_text, hex_text, port_text, way_text, side_text, timer_text, node_text, setting_text}

-- what a word holds: a number with its range, a size of sequence numbers, bytes, a name, or one of two fixed words
pub data Field : Type 0 where
  Number : (low high n : ℕ) → Field
  Size : (size : SnSize) → Field
  Hex : (bytes : List ℕ) → Field
  Port : (port : PortName) → Field
  Way : (way : AWay) → Field
  Side : (side : ASide) → Field
  Timer : (timer : ATimer) → Field
  Node : (node : ANode) → Field
  Setting : (name : SetName) → Field
  ToDirect : Field
  ToRelay : Field

-- the word holds this
abbrev pub IsSpelt : List ℕ → Field → Type 0
IsSpelt word (Number low high n) = IsNumber low high word n
IsSpelt word (Size size) = IsSize word size
IsSpelt word (Hex bytes) = IsHex word bytes
IsSpelt word (Port port) = IsPort word port
IsSpelt word (Way way) = word ≡ way_text way
IsSpelt word (Side side) = word ≡ side_text side
IsSpelt word (Timer timer) = word ≡ timer_text timer
IsSpelt word (Node node) = word ≡ node_text node
IsSpelt word (Setting name) = word ≡ setting_text name
IsSpelt word ToDirect = word ≡ codes "direct"
IsSpelt word ToRelay = word ≡ codes "relay"

-- the words from the k-th on hold these
abbrev pub AreSpelt : ℕ → List (List ℕ) → List Field → Type 0
AreSpelt k words [] = Unit {0}
AreSpelt k words (f ∷ fields) = IsSpelt (word_at k words) f × AreSpelt (suc k) words fields

-- how the word is written
abbrev pub field_text : Field → List ℕ
field_text (Number low high n) = decimal n
field_text (Size size) = size_text size
field_text (Hex bytes) = hex_text bytes
field_text (Port port) = port_text port
field_text (Way way) = way_text way
field_text (Side side) = side_text side
field_text (Timer timer) = timer_text timer
field_text (Node node) = node_text node
field_text (Setting name) = setting_text name
field_text ToDirect = codes "direct"
field_text ToRelay = codes "relay"

-- words, each behind a space
abbrev pub spaced : List (List ℕ) → List ℕ
spaced [] = []
spaced (w ∷ words) = 32 ∷ w ++ spaced words

-- words with a space between each two
abbrev pub joined : List (List ℕ) → List ℕ
joined [] = []
joined (w ∷ words) = w ++ spaced words
