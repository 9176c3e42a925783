-- What runs do to a chain is what steps of items do, from a chain without items on.
use Rattle.std.specs.Prelude.{◌≡◌, ℕ, List, ◌∷◌, map, slice_get, Some}
use Rattle.std.specs.List.{AllByRecursion}
use Rattle.link_base.specs.declared.names.Key.{Key}
use Rattle.link_base.specs.declared.names.PortName.{PortName}
use Rattle.link_base.specs.declared.names.Way.{Way}
use Rattle.rlc_law.specs.Ports.{Port, hop_of}
use Rattle.script_text.specs.declared.event.Event.{Event}
use Rattle.script_text.specs.declared.line.Line.{Line}
use Rattle.script_text.specs.declared.line.Line.TheVariants.{Drain, End}
use Rattle.script_text.specs.declared.reply.Reply.{Reply}
use Rattle.script_text.specs.declared.stage.Part.TheVariants.{Running}
use Rattle.script_text.specs.declared.stage.ScriptStage.{ScriptStage}
use Rattle.script_text.specs.History.{Entry}
use Rattle.script_text.specs.Lines.{part_of}
use Rattle.node_model.specs.State.{Node}
use Rattle.chain_model.specs.Draining.{Moment}
use Rattle.chain_model.specs.OneCopy.{WasKept}
use Rattle.chain_model.specs.State.{Chain, opened}
use Rattle.chain_model.specs.Steps.{FeedsAll, Step}
use Rattle.chain_model.specs.Runs.{Turn, entries, LeadsTo}
use Rattle.book_law.specs.Past.{IsPast}
use Rattle.item_law.specs.World.{Opens}
use Rattle.item_chain.specs.View.{view}
use Rattle.item_chain.specs.Stands.{item_tables, TablesGood, Ghost, Stands, Refines}
use Rattle.item_chain.specs.Laws.{IsItemLine}

-- where a ghost stands for a chain, what the ends give to their transmitters takes its items by steps to what stands for the chain behind
abbrev pub FeedingGoesByItemSteps : Type 0
FeedingGoesByItemSteps = (g : Ghost) (old : Chain) → Stands g (view old) → (given : List Key) (nodes : List Node) → FeedsAll old.tables old.nodes given nodes
    → Refines old.tables g (view (record old { nodes = nodes }))

-- so does a line with the feeding behind it
abbrev pub StepsGoByItemSteps : Type 0
StepsGoByItemSteps = (g : Ghost) (old : Chain) → Stands g (view old) → (line : Line) (events : List Event) (reply : Reply) (new : Chain) → IsItemLine line
    → Step old line events reply new
    → Refines old.tables g (view new)

-- a line behind go of which it is proved: one of those lines; a drain by itself, behind the lines that it carries out; or the last line
abbrev pub IsRunningLine : Line → Type 0
IsRunningLine Drain = Unit {0}
IsRunningLine End = Unit {0}
IsRunningLine line = IsItemLine line

-- a line of the tables, or such a line behind go
abbrev pub IsRunLine : Line → Type 0
IsRunLine line = part_of line ≡ Running → IsRunningLine line

-- all lines of a history are such lines
abbrev pub AreRunLines : List Entry → Type 0
AreRunLines h = AllByRecursion (λ (e : Entry). IsRunLine e.line) h

-- items stand in a chain as steps have left them, from the chain without items that stands for what the tables open
pub record IsReachedByItems (c : Chain) : Type 0 where
  pub first : Ghost
  pub opens : Opens (item_tables c.tables) first.chain
  pub begins : Stands first (view (opened c.tables))
  pub refines : Refines c.tables first (view c)

-- so they do in each run of such lines over good tables, behind each of its lines, those of a drain among them
abbrev pub PastsStand : Type 0
PastsStand = (h : List Entry) (c : Chain) → IsPast h c → AreRunLines h → TablesGood c.tables → IsReachedByItems c

-- so they do behind each such run of a script
abbrev pub RunsStand : Type 0
RunsStand = (h : List Turn) (stage : ScriptStage) (c : Chain) → LeadsTo h stage c → AreRunLines (entries h) → TablesGood c.tables → IsReachedByItems c

-- the chain before a line
abbrev pub before_of : Moment → Chain
before_of m = m.before

-- the chain behind lines, and the chains before them
abbrev pub chains : List Moment → Chain → List Chain
chains moments c = c ∷ map before_of moments

-- what a transmitter kept in some chain of a run, the hop of the ghost's port in that epoch was given under the same number
abbrev pub Remembers : List Chain → Ghost → Type 0
Remembers past g = (port : PortName) (way : Way) (epoch number : ℕ) (sdu : List ℕ) → WasKept past port way epoch number sdu
    → (its : Port) × (g.ports port epoch ≡ Some its) × (slice_get (hop_of its way).given number ≡ Some sdu)

-- a ghost stands for the chain that remembers what was kept
pub record IsRemembered (past : List Chain) (c : Chain) : Type 0 where
  pub ghost : Ghost
  pub stands : Stands ghost (view c)
  pub remembers : Remembers past ghost

-- so one does in each such run, behind each of its lines
abbrev pub PastsAreRemembered : Type 0
PastsAreRemembered = (h : List Entry) (c : Chain) (past : IsPast h c) → AreRunLines h → TablesGood c.tables → IsRemembered (chains past.moments c) c
