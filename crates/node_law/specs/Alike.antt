-- Nodes that nothing tells apart: their receivers may differ only in how they hold what is missing of an SDU.
use Rattle.std.specs.Prelude.{◌≡◌, List, [], ◌∷◌, Option, Some, None}
use Rattle.rlc_model.specs.Sides.{Entity}
use Rattle.rlc_law.specs.OneOutcome.{SameReceiver}
use Rattle.node_model.specs.State.{PortSide, Node}

-- two entities that nothing tells apart
pub record SameEntity (a b : Entity) : Type 0 where
  pub epoch : a.epoch ≡ b.epoch
  pub tx : a.tx ≡ b.tx
  pub rx : SameReceiver a.rx b.rx

-- both are there and nothing tells them apart, or none is there
abbrev pub SameOpen : Option Entity → Option Entity → Type 0
SameOpen None None = Unit {0}
SameOpen (Some a) (Some b) = SameEntity a b
SameOpen a b = ⊥

-- two sides of ports that nothing tells apart
pub record SameSide (a b : PortSide) : Type 0 where
  pub name : a.name ≡ b.name
  pub size : a.size ≡ b.size
  pub slot : a.slot ≡ b.slot
  pub queue : a.queue ≡ b.queue
  pub entity : SameOpen a.entity b.entity

-- the same of lists of sides, one by one
abbrev pub SameSides : List PortSide → List PortSide → Type 0
SameSides [] [] = Unit {0}
SameSides (a ∷ more) (b ∷ others) = SameSide a b × SameSides more others
SameSides xs ys = ⊥

-- two nodes that nothing tells apart
pub record SameNode (a b : Node) : Type 0 where
  pub name : a.name ≡ b.name
  pub ports : SameSides a.ports b.ports
  pub attached : a.attached ≡ b.attached
  pub outgoing : a.outgoing ≡ b.outgoing
  pub incoming : a.incoming ≡ b.incoming
