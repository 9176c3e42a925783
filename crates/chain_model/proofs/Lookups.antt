-- Nodes, senders and receiving ends behind one that is set.
use Rattle.std.proofs.Common.{◌≡◌, ◌⊎◌, inl, inr, Option, Some, None, unwrap_or, refl, sym, ◌∙◌, ap, subst}
use Rattle.link_base.specs.declared.names.Key.{Key}
use Rattle.node_model.specs.Names.{NodeName, source, sink}
use Rattle.node_model.specs.State.{Incoming, Outgoing, Node, no_node, outgoing_at, incoming_at, outgoing, incoming, set_outgoing, set_incoming, no_outgoing, no_incoming}
use Rattle.node_model.proofs.Names.{cases_node}
use Rattle.node_model.proofs.ByName.{nodes_set, outgoing_set, incoming_set}
use Rattle.chain_model.specs.State.{Chain, node_at, set_node, set_sender, set_receiving}
use Rattle.chain_model.specs.Places.{find_node, SetsNodes, SetsSenders, SetsReceivers}

-- the node that is found
pub here : (c : Chain) (name : NodeName) (n : Node) → find_node c name ≡ Some n → node_at c name ≡ n
here c name n found = ap (λ (o : Option Node). unwrap_or o (no_node name)) found

-- a node that is there, or isn't
pub cases_found : {T : Type 0} (o : Option T) → ((x : T) × (o ≡ Some x)) ⊎ (o ≡ None)
cases_found None = inr refl
cases_found (Some x) = inl (x, refl)

named : (c : Chain) (name : NodeName) → (node_at c name).name ≡ name
named c name = elim (cases_found (find_node c name)) [
  | inl found ↦ ap (λ (n : Node). n.name) (here c name found.0 found.1) ∙ nodes_set.named c.nodes name found.0 found.1
  | inr none ↦ ap (λ (o : Option Node). (unwrap_or o (no_node name)).name) none
]

pub sets_nodes : SetsNodes
sets_nodes = record {
  named = named;
  own = λ c n old found. nodes_set.own c.nodes n old found;
  others = λ c n name ne. nodes_set.others c.nodes n name ne;
}

-- the rows that stand for a key have it
pub outgoing_key : (n : Node) (key : Key) → (outgoing n key).key ≡ key
outgoing_key n key = elim (cases_found (outgoing_at n key)) [
  | inl found ↦ ap (λ (o : Option Outgoing). (unwrap_or o (no_outgoing key)).key) found.1 ∙ outgoing_set.named n.outgoing key found.0 found.1
  | inr none ↦ ap (λ (o : Option Outgoing). (unwrap_or o (no_outgoing key)).key) none
]

pub incoming_key : (n : Node) (key : Key) → (incoming n key).key ≡ key
incoming_key n key = elim (cases_found (incoming_at n key)) [
  | inl found ↦ ap (λ (i : Option Incoming). (unwrap_or i (no_incoming key)).key) found.1 ∙ incoming_set.named n.incoming key found.0 found.1
  | inr none ↦ ap (λ (i : Option Incoming). (unwrap_or i (no_incoming key)).key) none
]

-- rows behind one that is set at the same node
pub out_own : (n : Node) (o old : Outgoing) (key : Key) → o.key ≡ key → outgoing_at n key ≡ Some old → outgoing_at (set_outgoing n o) key ≡ Some o
out_own n o old key is found = subst (λ k. outgoing_at (set_outgoing n o) k ≡ Some o) is (outgoing_set.own n.outgoing o old (subst (λ k. outgoing_at n k ≡ Some old) (sym is) found))

pub out_others : (n : Node) (o : Outgoing) (key : Key) → (o.key ≡ key → ⊥) → outgoing_at (set_outgoing n o) key ≡ outgoing_at n key
out_others n o key ne = outgoing_set.others n.outgoing o key ne

pub in_own : (n : Node) (i old : Incoming) (key : Key) → i.key ≡ key → incoming_at n key ≡ Some old → incoming_at (set_incoming n i) key ≡ Some i
in_own n i old key is found = subst (λ k. incoming_at (set_incoming n i) k ≡ Some i) is (incoming_set.own n.incoming i old (subst (λ k. incoming_at n k ≡ Some old) (sym is) found))

pub in_others : (n : Node) (i : Incoming) (key : Key) → (i.key ≡ key → ⊥) → incoming_at (set_incoming n i) key ≡ incoming_at n key
in_others n i key ne = incoming_set.others n.incoming i key ne

-- what a view of a node shows behind a node that is set, where it shows the same of the new node as of the one of its name
pub view_same : {T : Type 0} (view : Node → T) (c : Chain) (n : Node) → view n ≡ view (node_at c n.name) → (name : NodeName) → view (node_at (set_node c n) name) ≡ view (node_at c name)
view_same view c n same name = elim (cases_node n.name name) [
  | inl is ↦ elim (cases_found (find_node c n.name)) [
    | inl found ↦ subst (λ m. view (node_at (set_node c n) m) ≡ view (node_at c m)) is
        (ap view (here (set_node c n) n.name n (sets_nodes.own c n found.0 found.1)) ∙ same)
    | inr none ↦ ap (λ nodes. view (node_at (record c { nodes = nodes }) name)) (nodes_set.none c.nodes n none)
  ]
  | inr ne ↦ ap (λ (o : Option Node). view (unwrap_or o (no_node name))) (sets_nodes.others c n name ne)
]

-- the node of a name with another row for a key
module _ (c : Chain) (name : NodeName) where
  -- what a view shows of all nodes, where it shows the same of this one with the row
  pub with_row : {T : Type 0} (view : Node → T) (n : Node) → n.name ≡ (node_at c name).name → view n ≡ view (node_at c name) → (other : NodeName) → view (node_at (set_node c n) other) ≡ view (node_at c other)
  with_row view n is same = view_same view c n (same ∙ ap (λ m. view (node_at c m)) (sym (is ∙ named c name)))

  -- the node itself, where it is there
  pub set_here : (n old : Node) → n.name ≡ (node_at c name).name → find_node c name ≡ Some old → node_at (set_node c n) name ≡ n
  set_here n old is found =
      let its : n.name ≡ name = is ∙ named c name in
      subst (λ m. node_at (set_node c n) m ≡ n) its (here (set_node c n) n.name n (sets_nodes.own c n old (subst (λ m. find_node c m ≡ Some old) (sym its) found)))

pub sets_senders : SetsSenders
sets_senders = record {
  own = λ c key s has.
      let n = node_at c (source key) in
      let row : Outgoing = record (outgoing n key) { sender = s } in
      let at : node_at (set_sender c key s) (source key) ≡ set_outgoing n row = set_here c (source key) (set_outgoing n row) has.node refl has.its_node in
      let old : outgoing_at n key ≡ Some has.row = ap (λ (m : Node). outgoing_at m key) (here c (source key) has.node has.its_node) ∙ has.its_row in
      ap (λ (m : Node). (outgoing m key).sender) at ∙ ap (λ (o : Option Outgoing). (unwrap_or o (no_outgoing key)).sender) (out_own n row has.row key (outgoing_key n key) old);
  others = λ c key other s ne.
      let n = node_at c (source key) in
      let row : Outgoing = record (outgoing n key) { sender = s } in
      with_row c (source key) (λ (m : Node). (outgoing m other).sender) (set_outgoing n row) refl
      (ap (λ (o : Option Outgoing). (unwrap_or o (no_outgoing other)).sender) (out_others n row other (λ is. ne (sym (outgoing_key n key) ∙ is)))) (source other);
  receivers = λ c key other s.
      let n = node_at c (source key) in
      with_row c (source key) (λ (m : Node). incoming m other) (set_outgoing n (record (outgoing n key) { sender = s })) refl refl (sink other);
}

pub sets_receivers : SetsReceivers
sets_receivers = record {
  own = λ c key i its has.
      let n = node_at c (sink key) in
      let at : node_at (set_receiving c key i) (sink key) ≡ set_incoming n i = set_here c (sink key) (set_incoming n i) has.node refl has.its_node in
      let old : incoming_at n key ≡ Some has.row = ap (λ (m : Node). incoming_at m key) (here c (sink key) has.node has.its_node) ∙ has.its_row in
      ap (λ (m : Node). incoming m key) at ∙ ap (λ (o : Option Incoming). unwrap_or o (no_incoming key)) (in_own n i has.row key its old);
  others = λ c key other i its ne.
      let n = node_at c (sink key) in
      with_row c (sink key) (λ (m : Node). incoming m other) (set_incoming n i) refl
      (ap (λ (o : Option Incoming). unwrap_or o (no_incoming other)) (in_others n i other (λ is. ne (sym its ∙ is)))) (sink other);
  senders = λ c key other i its.
      let n = node_at c (sink key) in
      with_row c (sink key) (λ (m : Node). (outgoing m other).sender) (set_incoming n i) refl refl (source other);
}
