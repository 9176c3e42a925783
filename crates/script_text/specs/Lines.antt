-- The lines of a script: a row of its words for each, by which it is read and written.
use Rattle.std.specs.Prelude.{◌≡◌, ℕ, suc, ◌+◌, Bool, true, List, [], ◌∷◌, length, map, codes, ◌==◌}
use Rattle.link_base.specs.declared.names.Remote.{Remote as ARemote}
use Rattle.link_base.specs.declared.names.Drb.{Drb}
use Rattle.link_base.specs.declared.names.Chan.{Chan}
use Rattle.link_base.specs.declared.names.Goal.{Goal}
use Rattle.link_base.specs.declared.names.Goal.TheVariants.{Direct, Relay}
use Rattle.bearer_map.specs.declared.settings.SetName.{SetName}
use Rattle.bearer_map.specs.declared.settings.SetName.TheVariants.{Queue, Report as Reports, PollPdu, PollByte, MaxRetx}
use Rattle.script_text.specs.declared.line.Line.{Line}
use Rattle.script_text.specs.declared.line.Line.TheVariants.{Version, Set, Remote, Bearer, Uu, Pc5, Map, Start, Path, Go, Submit, Grant, Deliver, Repeat, Lose, Stage, Expire, Push, Pull, Burst, Report, Plan, Apply, Drain, End}
use Rattle.script_text.specs.declared.stage.Part.{Part}
use Rattle.script_text.specs.declared.stage.Part.TheVariants as parts
use Rattle.script_text.specs.Words.{word_at}
use Rattle.script_text.specs.Fields.{Field, Number, Size, Hex, Port, Way, Side, Timer, Node, Setting, ToDirect, ToRelay, AreSpelt, field_text, joined}

-- an empty line, or one that begins with #, is skipped
abbrev pub is_skipped : List ℕ → Bool
is_skipped [] = true
is_skipped (b ∷ bytes) = b == 35

-- the ranges of names and numbers
abbrev pub remote : ARemote → Field
remote r = Number 1 65535 r.0

-- a bearer has a name from 1 to 32
abbrev pub drb : Drb → Field
drb d = Number 1 32 d.0

-- a channel has a name from 1 to 8
abbrev pub chan : Chan → Field
chan c = Number 1 8 c.0

-- a ticket is any number of 64 bits but 0
abbrev pub ticket : ℕ → Field
ticket t = Number 1 18446744073709551615 t

-- the values of each setting
abbrev pub value_of : SetName → ℕ → Field
value_of Queue n = Number 1 1024 n
value_of Reports n = Number 0 65536 n
value_of PollPdu n = Number 0 65536 n
value_of PollByte n = Number 0 16777216 n
value_of MaxRetx n = Number 1 255 n

-- a path: direct, or over the relay with a local identity
abbrev pub goal_fields : Goal → List Field
goal_fields Direct = ToDirect ∷ []
goal_fields (Relay id) = ToRelay ∷ Number 0 255 id.0 ∷ []

-- the words behind the first two are a path
abbrev pub EndsWithGoal : List (List ℕ) → Goal → Type 0
EndsWithGoal words goal = (length words ≡ 2 + length (goal_fields goal)) × AreSpelt 2 words (goal_fields goal)

-- the first word of a line
abbrev pub name : Line → List ℕ
name (Version number) = codes "relayscript"
name (Set setting value) = codes "set"
name (Remote r) = codes "remote"
name (Bearer r d pdcp direct) = codes "bearer"
name (Uu c size) = codes "uu"
name (Pc5 r c size) = codes "pc5"
name (Map r d pc5 uu) = codes "map"
name (Start key first) = codes "start"
name (Path r goal) = codes "path"
name Go = codes "go"
name (Submit key sdu) = codes "submit"
name (Grant port way n) = codes "grant"
name (Deliver t) = codes "deliver"
name (Repeat t) = codes "repeat"
name (Lose t) = codes "lose"
name (Stage t) = codes "stage"
name (Expire port side timer) = codes "expire"
name (Push port) = codes "push"
name (Pull port) = codes "pull"
name Burst = codes "burst"
name (Report key) = codes "report"
name (Plan r goal) = codes "plan"
name (Apply r node) = codes "apply"
name Drain = codes "drain"
name End = codes "end"

-- the words behind it
abbrev pub fields : Line → List Field
fields (Version number) = Number 1 1 number ∷ []
fields (Set setting value) = Setting setting ∷ value_of setting value ∷ []
fields (Remote r) = remote r ∷ []
fields (Bearer r d pdcp direct) = remote r ∷ drb d ∷ Size pdcp ∷ Size direct ∷ []
fields (Uu c size) = chan c ∷ Size size ∷ []
fields (Pc5 r c size) = remote r ∷ chan c ∷ Size size ∷ []
fields (Map r d pc5 uu) = remote r ∷ drb d ∷ chan pc5 ∷ chan uu ∷ []
fields (Start key first) = remote key.remote ∷ drb key.drb ∷ Way key.way ∷ Number 0 4294967294 first ∷ []
fields (Path r goal) = remote r ∷ goal_fields goal
fields Go = []
fields (Submit key sdu) = remote key.remote ∷ drb key.drb ∷ Way key.way ∷ Hex sdu ∷ []
fields (Grant port way n) = Port port ∷ Way way ∷ Number 1 65535 n ∷ []
fields (Deliver t) = ticket t ∷ []
fields (Repeat t) = ticket t ∷ []
fields (Lose t) = ticket t ∷ []
fields (Stage t) = ticket t ∷ []
fields (Expire port side timer) = Port port ∷ Side side ∷ Timer timer ∷ []
fields (Push port) = Port port ∷ []
fields (Pull port) = Port port ∷ []
fields Burst = []
fields (Report key) = remote key.remote ∷ drb key.drb ∷ Way key.way ∷ []
fields (Plan r goal) = remote r ∷ goal_fields goal
fields (Apply r node) = remote r ∷ Node node ∷ []
fields Drain = []
fields End = []

-- the part of a script in which a line stands: the version first, the tables up to go, and the rest
abbrev pub part_of : Line → Part
part_of (Version number) = parts.Start
part_of (Set setting value) = parts.Tables
part_of (Remote r) = parts.Tables
part_of (Bearer r d pdcp direct) = parts.Tables
part_of (Uu c size) = parts.Tables
part_of (Pc5 r c size) = parts.Tables
part_of (Map r d pc5 uu) = parts.Tables
part_of (Start key first) = parts.Tables
part_of (Path r goal) = parts.Tables
part_of Go = parts.Tables
part_of line = parts.Running

-- the words spell the line
pub record Spells (words : List (List ℕ)) (line : Line) : Type 0 where
  pub count : length words ≡ suc (length (fields line))
  pub begins : word_at 0 words ≡ name line
  pub holds : AreSpelt 1 words (fields line)

-- the words spell the line, which stands in this part of a script
pub record IsLineOf (part : Part) (words : List (List ℕ)) (line : Line) : Type 0 where
  pub stands : part_of line ≡ part
  pub spelt : Spells words line

-- no line of this part is spelt so
abbrev pub IsNoLineOf : Part → List (List ℕ) → Type 0
IsNoLineOf part words = (line : Line) → IsLineOf part words line → ⊥

-- how a line is written
abbrev pub line_text : Line → List ℕ
line_text line = joined (name line ∷ map field_text (fields line))

-- words spell at most one line
abbrev pub OneLineIsSpelt : Type 0
OneLineIsSpelt = (words : List (List ℕ)) (a b : Line) → Spells words a → Spells words b → a ≡ b
