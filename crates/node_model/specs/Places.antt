-- What is found by its name, and what changes when a row is set by its name.
use Rattle.std.specs.Prelude.{◌≡◌, ◌↔◌, Bool, true, List, find, Some, None}
use Rattle.link_base.specs.declared.names.Key.{Key}
use Rattle.link_base.specs.declared.names.PortName.{PortName}
use Rattle.node_model.specs.Names.{NodeName, replaced}
use Rattle.node_model.specs.State.{PortSide, Outgoing, Incoming, Node}

-- a test of two names tells whether they are one
abbrev pub TellsApart : {Name : Type 0} → (Name → Name → Bool) → Type 0
TellsApart {Name} is_name = (a b : Name) → (is_name a b ≡ true) ↔ (a ≡ b)

-- rows with names. What is found by a name has it. Where a row is set by its name and there is one of that name, the row is found by it from then on; where there is
-- none, nothing changes; and each other name finds what it found
pub record SetsByName {Row Name : Type 0} (is_name : Name → Name → Bool) (name_of : Row → Name) : Type 0 where
  pub named : (rows : List Row) (name : Name) (row : Row) → find (λ (x : Row). is_name name (name_of x)) rows ≡ Some row → name_of row ≡ name
  pub own : (rows : List Row) (row old : Row) → find (λ (x : Row). is_name (name_of row) (name_of x)) rows ≡ Some old
      → find (λ (x : Row). is_name (name_of row) (name_of x)) (replaced (λ (x : Row). is_name (name_of row) (name_of x)) row rows) ≡ Some row
  pub none : (rows : List Row) (row : Row) → find (λ (x : Row). is_name (name_of row) (name_of x)) rows ≡ None
      → replaced (λ (x : Row). is_name (name_of row) (name_of x)) row rows ≡ rows
  pub others : (rows : List Row) (row : Row) (name : Name) → (name_of row ≡ name → ⊥)
      → find (λ (x : Row). is_name name (name_of x)) (replaced (λ (x : Row). is_name (name_of row) (name_of x)) row rows) ≡ find (λ (x : Row). is_name name (name_of x)) rows

-- the names of a node's rows, and of nodes
abbrev pub side_name : PortSide → PortName
side_name s = s.name

-- the key of a sending end
abbrev pub outgoing_key : Outgoing → Key
outgoing_key o = o.key

-- the key of a receiving end
abbrev pub incoming_key : Incoming → Key
incoming_key i = i.key

-- the name of a node
abbrev pub node_name : Node → NodeName
node_name n = n.name
