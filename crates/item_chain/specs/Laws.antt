-- What a line does to a chain is what steps of items do.
use Rattle.std.specs.Prelude.{List}
use Rattle.bearer_map.specs.Contents.{Contents}
use Rattle.script_text.specs.declared.event.Event.{Event}
use Rattle.script_text.specs.declared.line.Line.{Line}
use Rattle.script_text.specs.declared.line.Line.TheVariants.{Submit, Deliver, Repeat, Lose, Stage, Grant, Expire, Push, Pull, Report, Plan, Apply}
use Rattle.script_text.specs.declared.reply.Reply.{Reply}
use Rattle.chain_model.specs.State.{Chain, opened}
use Rattle.chain_model.specs.Steps.{Does}
use Rattle.book_law.specs.Past.{AreTables}
use Rattle.item_law.specs.World.{Opens}
use Rattle.item_chain.specs.View.{view}
use Rattle.item_chain.specs.Stands.{item_tables, TablesGood, Ghost, Stands, Refines}

-- the lines that switch no path, but for a burst
abbrev pub IsStandingLine : Line → Type 0
IsStandingLine (Submit key sdu) = Unit {0}
IsStandingLine (Deliver ticket) = Unit {0}
IsStandingLine (Repeat ticket) = Unit {0}
IsStandingLine (Lose ticket) = Unit {0}
IsStandingLine (Stage ticket) = Unit {0}
IsStandingLine (Grant port way octets) = Unit {0}
IsStandingLine (Expire port at timer) = Unit {0}
IsStandingLine (Push port) = Unit {0}
IsStandingLine (Pull port) = Unit {0}
IsStandingLine (Report key) = Unit {0}
IsStandingLine line = ⊥

-- the lines of which it is proved
abbrev pub IsItemLine : Line → Type 0
IsItemLine (Plan remote goal) = Unit {0}
IsItemLine (Apply remote kind) = Unit {0}
IsItemLine line = IsStandingLine line

-- where a ghost stands for a chain, a line before the ends feed takes its items by steps to what stands for the chain behind it
abbrev pub LinesGoByItemSteps : Type 0
LinesGoByItemSteps = (g : Ghost) (old : Chain) → Stands g (view old) → (line : Line) (events : List Event) (reply : Reply) (new : Chain) → IsItemLine line
    → Does old line events reply new
    → Refines old.tables g (view new)

-- where tables are such as are asked for, a ghost without items stands for the chain that they open
abbrev pub OpenedChainsStand : Type 0
OpenedChainsStand = (t : Contents) → TablesGood t → AreTables t → (g : Ghost) × Opens (item_tables t) g.chain × Stands g (view (opened t))
