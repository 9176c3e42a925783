-- A step of the chain has at most one outcome.
use Rattle.std.specs.Prelude.{◌≡◌, Bool, true, false, List, [], ◌∷◌}
use Rattle.link_base.specs.declared.names.Goal.{Goal}
use Rattle.bearer_map.specs.Contents.{map_rank}
use Rattle.bearer_map.specs.Ids.{AreIds}
use Rattle.bearer_map.specs.Order.{IsAscending}
use Rattle.script_text.specs.declared.event.Event.{Event}
use Rattle.script_text.specs.declared.line.Line.{Line}
use Rattle.script_text.specs.declared.line.Line.TheVariants.{Burst}
use Rattle.script_text.specs.declared.reply.Reply.{Reply}
use Rattle.node_model.specs.Names.{NodeName}
use Rattle.node_model.specs.State.{Node}
use Rattle.node_law.specs.Alike.{SameNode}
use Rattle.node_law.specs.OneOutcome.{AreSound}
use Rattle.chain_model.specs.State.{Chain, opened, node_at}
use Rattle.chain_model.specs.Steps.{Step}
use Rattle.chain_model.specs.Worked.{tables_on}

-- lists of nodes that nothing tells apart, one by one
abbrev pub SameNodes : List Node → List Node → Type 0
SameNodes [] [] = Unit {0}
SameNodes (a ∷ more) (b ∷ others) = SameNode a b × SameNodes more others
SameNodes xs ys = ⊥

-- two chains that nothing tells apart
pub record SameChain (a b : Chain) : Type 0 where
  pub tables : a.tables ≡ b.tables
  pub nodes : SameNodes a.nodes b.nodes
  pub plans : a.plans ≡ b.plans
  pub air : a.air ≡ b.air
  pub staged : a.staged ≡ b.staged

-- the map rows of a chain's tables are in order, and at each node the receivers are sound and the attachments share neither a remote nor an identity
pub record IsOrderly (c : Chain) : Type 0 where
  pub rows : IsAscending map_rank c.tables.maps
  pub sound : (name : NodeName) → AreSound (node_at c name)
  pub ids : (name : NodeName) → AreIds (node_at c name).attached

-- the line is a burst, which leaves the order of the relay's ports open
abbrev pub is_burst : Line → Bool
is_burst Burst = true
is_burst line = false

-- each other line brings about one list of events and one reply, and leaves one chain
abbrev pub OneStep : Type 0
OneStep =
    (old : Chain) → IsOrderly old → (line : Line) → is_burst line ≡ false → (es fs : List Event) (a b : Reply) (m n : Chain)
    → Step old line es a m → Step old line fs b n → (es ≡ fs) × (a ≡ b) × SameChain m n

-- it brings about the same from chains that nothing tells apart, and leaves such chains
abbrev pub StepsAlike : Type 0
StepsAlike =
    (old other : Chain) → SameChain old other → IsOrderly other → (line : Line) → is_burst line ≡ false → (es fs : List Event) (a b : Reply) (m n : Chain)
    → Step old line es a m → Step other line fs b n → (es ≡ fs) × (a ≡ b) × SameChain m n

-- the chains from which the worked runs begin are orderly
abbrev pub WorkedChainsAreOrderly : Type 0
WorkedChainsAreOrderly = (goal : Goal) → IsOrderly (opened (tables_on goal))
