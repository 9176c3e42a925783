-- Each side that a node has is found by its name, and is one that the node owns.
use Rattle.std.proofs.Common.{◌≡◌, List, [], ◌∷◌, map, find, Some, ◌∙◌}
use Rattle.std.specs.List.{AllByRecursion}
use Rattle.std.proofs.lemmas.List.Elements.{All-from_recursion, All-contains}
use Rattle.node_model.specs.Names.{NodeName, is_port}
use Rattle.node_model.specs.State.{PortSide, Node}
use Rattle.chain_model.specs.State.{node_at}
use Rattle.chain_law.specs.Foundations.{RlcLaws}
use Rattle.chain_law.proofs.Bursts.{all_found}
use Rattle.chain_law.proofs.Chains.{node_fits, node_name}
use Rattle.chain_law.proofs.Laws.{comes_hold}
use Rattle.chain_law.proofs.Nodes.{NodeFits, IsOwned, port_of}
use Rattle.orderly_law.specs.Laws.{SidesAreFound}

-- the node has a side of the port that a side is of
abbrev pub HasSide : NodeName → PortSide → Type 0
HasSide node s = IsOwned node s.name

-- a side is found among others by its port's name
abbrev IsFound : List PortSide → PortSide → Type 0
IsFound sides s = find (λ (x : PortSide). is_port s.name x.name) sides ≡ Some s

-- what holds of the name of each side
pub each_side : (node : NodeName) (sides : List PortSide) → AllByRecursion (IsOwned node) (map port_of sides) → AllByRecursion (HasSide node) sides
each_side node [] all = tt
each_side node (s ∷ ss) all = (all.0, each_side node ss all.1)

pub sides_are_found : RlcLaws → SidesAreFound
sides_are_found l c up name s has = (own.0, own.1 ∙ node_name c name, All-contains (IsFound n.ports) n.ports s (All-from_recursion (IsFound n.ports) n.ports (all_found n.ports fits.apart)) has)
  where
    n : Node
    n = node_at c name

    fits : NodeFits n
    fits = node_fits c (comes_hold l up) name

    own : HasSide n.name s
    own = All-contains (HasSide n.name) n.ports s (All-from_recursion (HasSide n.name) n.ports (each_side n.name n.ports fits.owned)) has
