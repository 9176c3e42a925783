-- The nodes of a chain as a list, and what a call does to one of them.
use Rattle.std.specs.Prelude.{◌≡◌, ◌≢◌, ℕ, ◌<◌, true, false, List, [], ◌∷◌, length, map, find, get_or, Some, unwrap_or, All}
use Rattle.std.specs.List.{AllByRecursion}
use Rattle.link_base.specs.declared.names.Key.{Key}
use Rattle.link_base.specs.declared.names.PortName.{PortName}
use Rattle.bearer_map.specs.Contents.{Contents, nothing}
use Rattle.rlc_model.specs.Sides.{Entity}
use Rattle.node_model.specs.Names.{NodeName, AtRelay, is_node, replaced}
use Rattle.node_model.specs.State.{Node, TabledNode, no_node, entity_at, incoming, set_incoming}
use Rattle.node_ports.specs.Sides.{IsSmall}
use Rattle.node_end.specs.Feeding.{HasNumbers}
use Rattle.relay_core.specs.Relay.{IsRelayNode}

-- the tables of a chain, and its nodes
pub record NodesOfTables : Type 0 where
  pub tables : Contents
  pub nodes : List Node

-- a node without its copy of the tables
abbrev pub node_of : TabledNode → Node
node_of n = n.node

-- the ends of bearers, the gNB last, with the relay before the gNB
abbrev pub with_relay : Node → List Node → List Node
with_relay relay [] = relay ∷ []
with_relay relay (gnb ∷ []) = relay ∷ gnb ∷ []
with_relay relay (n ∷ m ∷ ms) = n ∷ with_relay relay (m ∷ ms)

-- the nodes that the relay and the ends of bearers are
abbrev pub all_nodes : TabledNode → List TabledNode → List Node
all_nodes relay ends = with_relay relay.node (map node_of ends)

-- the node of this name among nodes
abbrev pub node_in : List Node → NodeName → Node
node_in nodes name = unwrap_or (find (λ (n : Node). is_node name n.name) nodes) (no_node name)

-- the nodes have names of their own, and none is the relay
abbrev pub AreApart : List Node → Type 0
AreApart [] = Unit {0}
AreApart (n ∷ ns) = (is_node AtRelay n.name ≡ false) × AllByRecursion (λ (m : Node). is_node n.name m.name ≡ false) ns × AreApart ns

-- a node keeps a copy of these tables
abbrev pub HasTables : Contents → TabledNode → Type 0
HasTables t n = n.tables ≡ t

-- all nodes keep copies of these tables; no bearer ends at the relay; and the ends of bearers have names of their own
pub record AreNodes (t : Contents) (relay : TabledNode) (ends : List TabledNode) : Type 0 where
  pub relay_tables : HasTables t relay
  pub tables : AllByRecursion (HasTables t) ends
  pub is_relay : IsRelayNode relay.node
  pub apart : AreApart (map node_of ends)

-- the node of this name makes a step, and the others are as before
abbrev pub Moves : NodeName → (Node → Node → Type 0) → List Node → List Node → Type 0
Moves name Steps old new = (n : Node) × Steps (node_in old name) n × (n.name ≡ name) × (new ≡ replaced (λ (x : Node). is_node name x.name) n old)

-- the numbers of a port's entity at a node are small enough for octets to be heard
abbrev pub IsSmallAt : Node → PortName → Type 0
IsSmallAt n port = (entity : Entity) → entity_at n port ≡ Some entity → IsSmall entity

-- a status report about a key is wanted
abbrev pub WantsReport : Key → Node → Node → Type 0
WantsReport key old new = new ≡ set_incoming old (record (incoming old key) { wanted = true })

-- an end that has nothing, which stands for one that isn't there
abbrev pub no_end : NodeName → TabledNode
no_end name = record { tables = nothing; node = no_node name }

-- the end of this name stands at this place
pub record IsPlaceOf (ends : List TabledNode) (name : NodeName) (place : ℕ) : Type 0 where
  pub within : place < length ends
  pub its_name : (get_or ends place (no_end name)).node.name ≡ name

-- none of the ends has this name
abbrev pub HasNone : List TabledNode → NodeName → Type 0
HasNone ends name = (place : ℕ) → place < length ends → (get_or ends place (no_end name)).node.name ≢ name

-- each transmitter that is open has given numbers to fewer than 2^62 - 2^40 SDUs
abbrev pub HaveNumbers : List Node → Type 0
HaveNumbers nodes = (name : NodeName) → All HasNumbers (node_in nodes name).ports
