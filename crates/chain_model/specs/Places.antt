-- What is found of a chain by names, and what changes when a node or an end of a key is set.
use Rattle.std.specs.Prelude.{◌≡◌, find, Option, Some}
use Rattle.link_base.specs.declared.names.Key.{Key}
use Rattle.pdcp_model.specs.Sender.{Sender}
use Rattle.node_model.specs.Names.{NodeName, is_node, source, sink}
use Rattle.node_model.specs.State.{Incoming, Outgoing, Node, outgoing_at, incoming_at}
use Rattle.chain_model.specs.State.{Chain, node_at, set_node, sender_at, set_sender, receiving_at, set_receiving}

-- the node of this name, where the chain has it
abbrev pub find_node : Chain → NodeName → Option Node
find_node c name = find (λ (n : Node). is_node name n.name) c.nodes

-- the end that sends a key's SDUs is there
pub record HasSender (c : Chain) (key : Key) : Type 0 where
  pub node : Node
  pub its_node : find_node c (source key) ≡ Some node
  pub row : Outgoing
  pub its_row : outgoing_at node key ≡ Some row

-- the end that receives a key's SDUs is there
pub record HasReceiver (c : Chain) (key : Key) : Type 0 where
  pub node : Node
  pub its_node : find_node c (sink key) ≡ Some node
  pub row : Incoming
  pub its_row : incoming_at node key ≡ Some row

-- a node that is set is found by its name, where there is one of that name, and all others are found as before
pub record SetsNodes : Type 0 where
  pub named : (c : Chain) (name : NodeName) → (node_at c name).name ≡ name
  pub own : (c : Chain) (n old : Node) → find_node c n.name ≡ Some old → find_node (set_node c n) n.name ≡ Some n
  pub others : (c : Chain) (n : Node) (name : NodeName) → (n.name ≡ name → ⊥) → find_node (set_node c n) name ≡ find_node c name

-- a key's sender that is set is found, where its end is there; the senders of other keys and all receivers are as before
pub record SetsSenders : Type 0 where
  pub own : (c : Chain) (key : Key) (s : Sender) → HasSender c key → sender_at (set_sender c key s) key ≡ s
  pub others : (c : Chain) (key other : Key) (s : Sender) → (key ≡ other → ⊥) → sender_at (set_sender c key s) other ≡ sender_at c other
  pub receivers : (c : Chain) (key other : Key) (s : Sender) → receiving_at (set_sender c key s) other ≡ receiving_at c other

-- a key's receiving end that is set is found, where it is there; those of other keys and all senders are as before
pub record SetsReceivers : Type 0 where
  pub own : (c : Chain) (key : Key) (i : Incoming) → i.key ≡ key → HasReceiver c key → receiving_at (set_receiving c key i) key ≡ i
  pub others : (c : Chain) (key other : Key) (i : Incoming) → i.key ≡ key → (key ≡ other → ⊥) → receiving_at (set_receiving c key i) other ≡ receiving_at c other
  pub senders : (c : Chain) (key other : Key) (i : Incoming) → i.key ≡ key → sender_at (set_receiving c key i) other ≡ sender_at c other
