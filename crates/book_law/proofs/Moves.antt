-- What a step of the chain does to the two ends of one key.
use Rattle.std.proofs.Common.{◌≡◌, ◌⊎◌, inl, inr, List, [], ◌∷◌, map, find, Some, refl, sym, ◌∙◌, ap, subst}
use Rattle.std.proofs.lemmas.Bool.{cases_Bool, cond-true, cond-false}
use Rattle.std.proofs.lemmas.Option.{none-some, same_Some}
use Rattle.link_base.specs.declared.names.Key.{Key}
use Rattle.bearer_map.specs.Contents.{Contents}
use Rattle.pdcp_model.specs.Sender.{Sender}
use Rattle.pdcp_model.specs.Receiver.{Receiver}
use Rattle.node_model.specs.Names.{NodeName, is_node, source, sink}
use Rattle.node_model.specs.State.{Incoming, Outgoing, Node, outgoing_at, incoming_at, outgoing, incoming}
use Rattle.node_model.proofs.Names.{cases_node}
use Rattle.node_model.proofs.Finding.{find_maps}
use Rattle.chain_model.specs.State.{Chain, node_at, set_node, sender_at, receiving_at}
use Rattle.chain_model.specs.Steps.{FeedsAll}
use Rattle.chain_model.specs.Places.{find_node, HasSender, HasReceiver}
use Rattle.chain_model.proofs.Lookups.{here, sets_nodes}
use Rattle.book_law.proofs.Senders.{KeepsAll}
use Rattle.book_law.proofs.Ends.{Ends, Stays, out_is, in_is}
use Rattle.book_law.proofs.Fed.{Keeps, feeds_keep}

-- the sender of a key that is there
pub sender_is : (c : Chain) (k : Key) (has : HasSender c k) → sender_at c k ≡ has.row.sender
sender_is c k has = ap (λ (n : Node). (outgoing n k).sender) (here c (source k) has.node has.its_node) ∙ ap (λ (o : Outgoing). o.sender) (out_is has.node k has.row has.its_row)

-- the receiving end of a key that is there
pub receiving_is : (c : Chain) (k : Key) (has : HasReceiver c k) → receiving_at c k ≡ has.row
receiving_is c k has = ap (λ (n : Node). incoming n k) (here c (sink k) has.node has.its_node) ∙ in_is has.node k has.row has.its_row

-- both ends of a key are there
pub record HasEnds (c : Chain) (k : Key) : Type 0 where
  pub sender : HasSender c k
  pub receiver : HasReceiver c k

-- the ends of a key stay where they are, the tables stay, and the sender and the receiver move so
pub record Moves (k : Key) (R : Sender → Sender → Type 0) (Q : Receiver → Receiver → Type 0) (old new : Chain) : Type 0 where
  pub tables : new.tables ≡ old.tables
  pub ends : HasEnds new k
  pub sends : R (sender_at old k) (sender_at new k)
  pub hears : Q (receiving_at old k).receiver (receiving_at new k).receiver

module _ (k : Key) (R : Sender → Sender → Type 0) (Q : Receiver → Receiver → Type 0) where
  -- each node that is there is there still, and does so to the key's rows
  pub record EachNode (old new : Chain) : Type 0 where
    pub tables : new.tables ≡ old.tables
    pub source_node : (n : Node) → find_node old (source k) ≡ Some n → (m : Node) × (find_node new (source k) ≡ Some m) × ((o : Outgoing) → outgoing_at n k ≡ Some o → (p : Outgoing) × (outgoing_at m k ≡ Some p) × R o.sender p.sender)
    pub sink_node : (n : Node) → find_node old (sink k) ≡ Some n → (m : Node) × (find_node new (sink k) ≡ Some m) × ((i : Incoming) → incoming_at n k ≡ Some i → (j : Incoming) × (incoming_at m k ≡ Some j) × Q i.receiver j.receiver)

  pub moves_each : (old new : Chain) → HasEnds old k → EachNode old new → Moves k R Q old new
  moves_each old new has each =
      let s = has.sender in
      let r = has.receiver in
      let a = each.source_node s.node s.its_node in
      let p = a.2 s.row s.its_row in
      let b = each.sink_node r.node r.its_node in
      let j = b.2 r.row r.its_row in
      let sends : HasSender new k = record { node = a.0; its_node = a.1; row = p.0; its_row = p.1 } in
      let hears : HasReceiver new k = record { node = b.0; its_node = b.1; row = j.0; its_row = j.1 } in
      record {
        tables = each.tables;
        ends = record { sender = sends; receiver = hears };
        sends = subst (λ (x : Sender). R x (sender_at new k)) (sym (sender_is old k s)) (subst (R s.row.sender) (sym (sender_is new k sends)) p.2);
        hears = subst (λ (x : Incoming). Q x.receiver (receiving_at new k).receiver) (sym (receiving_is old k r)) (subst (λ (x : Incoming). Q r.row.receiver x.receiver) (sym (receiving_is new k hears)) j.2);
      }

  -- one node changes: the sender moves if it is the source, the receiver if it is the sink
  pub each_set_for : (S : Sender → Sender → Type 0) → ((s : Sender) → R s s) → (c : Chain) (name : NodeName) (m : Node) → (name ≡ source k → (a b : Sender) → S a b → R a b) → Ends k S Q (node_at c name) m
      → ((r : Receiver) → Q r r) ⊎ (name ≡ sink k) → EachNode c (set_node c m)
  each_set_for S same_s c name m says ends same_r = record {
    tables = refl;
    source_node = λ n found. elim (cases_node m.name (source k)) [
      | inl is ↦
          let e = its n (source k) is found in
          (m, subst (λ x. find_node (set_node c m) x ≡ Some m) is (sets_nodes.own c m n (subst (λ x. find_node c x ≡ Some n) (sym is) found)), λ o has. let p = ends.sends o (subst (λ (x : Node). outgoing_at x k ≡ Some o) (sym e) has) in (p.0, p.1, says (sym named ∙ is) o.sender p.0.sender p.2))
      | inr ne ↦ (n, sets_nodes.others c m (source k) ne ∙ found, λ o has. (o, has, same_s o.sender))
    ];
    sink_node = λ n found. elim (cases_node m.name (sink k)) [
      | inl is ↦
          let e = its n (sink k) is found in
          (m, subst (λ x. find_node (set_node c m) x ≡ Some m) is (sets_nodes.own c m n (subst (λ x. find_node c x ≡ Some n) (sym is) found)), λ i has. ends.hears i (subst (λ (x : Node). incoming_at x k ≡ Some i) (sym e) has))
      | inr ne ↦ elim same_r [
        | inl same ↦ (n, sets_nodes.others c m (sink k) ne ∙ found, λ i has. (i, has, same i.receiver))
        | inr at ↦ absurd (ne (named ∙ at))
      ]
    ];
  }
    where
      named : m.name ≡ name
      named = ends.name ∙ sets_nodes.named c name

      its : (n : Node) (x : NodeName) → m.name ≡ x → find_node c x ≡ Some n → node_at c name ≡ n
      its n x is found = ap (node_at c) (sym named ∙ is) ∙ here c x n found

  pub each_set : ((s : Sender) → R s s) → (c : Chain) (name : NodeName) (m : Node) → Ends k R Q (node_at c name) m → ((r : Receiver) → Q r r) ⊎ (name ≡ sink k) → EachNode c (set_node c m)
  each_set same_s c name m ends same_r = each_set_for R same_s c name m (λ at a b p. p) ends same_r

  -- nodes are changed but for their names
  pub each_map : (c : Chain) (change : Node → Node) → ((n : Node) → Ends k R Q n (change n)) → EachNode c (record c { nodes = map change c.nodes })
  each_map c change ends = record {
    tables = refl;
    source_node = λ n found. (change n, find_maps (λ (x : Node). is_node (source k) x.name) change (λ x. ap (is_node (source k)) (ends x).name) c.nodes n found, (ends n).sends);
    sink_node = λ n found. (change n, find_maps (λ (x : Node). is_node (sink k) x.name) change (λ x. ap (is_node (sink k)) (ends x).name) c.nodes n found, (ends n).hears);
  }

  -- one change behind another
  pub each_on : ((a b c : Sender) → R a b → R b c → R a c) → ((a b c : Receiver) → Q a b → Q b c → Q a c) → (x y z : Chain) → EachNode x y → EachNode y z → EachNode x z
  each_on on_s on_r x y z p q = record {
    tables = q.tables ∙ p.tables;
    source_node = λ n found.
        let a = p.source_node n found in
        let b = q.source_node a.0 a.1 in
        (b.0, b.1, λ o has. let u = a.2 o has in let v = b.2 u.0 u.1 in (v.0, v.1, on_s o.sender u.0.sender v.0.sender u.2 v.2));
    sink_node = λ n found.
        let a = p.sink_node n found in
        let b = q.sink_node a.0 a.1 in
        (b.0, b.1, λ i has. let u = a.2 i has in let v = b.2 u.0 u.1 in (v.0, v.1, on_r i.receiver u.0.receiver v.0.receiver u.2 v.2));
  }

  -- and beside it what isn't a node
  pub each_beside : (x y z : Chain) → z.tables ≡ y.tables → z.nodes ≡ y.nodes → EachNode x y → EachNode x z
  each_beside x y z tables nodes p = record {
    tables = tables ∙ p.tables;
    source_node = λ n found. let a = p.source_node n found in (a.0, ap (find (λ (m : Node). is_node (source k) m.name)) nodes ∙ a.1, a.2);
    sink_node = λ n found. let a = p.sink_node n found in (a.0, ap (find (λ (m : Node). is_node (sink k) m.name)) nodes ∙ a.1, a.2);
  }

  -- nothing changes but what is on the air, the plans and what is staged
  pub each_same : ((s : Sender) → R s s) → ((r : Receiver) → Q r r) → (x y : Chain) → y.tables ≡ x.tables → y.nodes ≡ x.nodes → EachNode x y
  each_same same_s same_r x y tables nodes = record {
    tables = tables;
    source_node = λ n found. (n, ap (find (λ (m : Node). is_node (source k) m.name)) nodes ∙ found, λ o has. (o, has, same_s o.sender));
    sink_node = λ n found. (n, ap (find (λ (m : Node). is_node (sink k) m.name)) nodes ∙ found, λ i has. (i, has, same_r i.receiver));
  }

-- all that a line does but hear and submit
abbrev pub Rests : Key → Chain → Chain → Type 0
Rests k old new = EachNode k KeepsAll Stays old new

-- of nodes that feed, the one of a name
fed_node : (k : Key) (t : Contents) (name : NodeName) (ns : List Node) (given : List Key) (ms : List Node) → FeedsAll t ns given ms → (n : Node) → find (λ (x : Node). is_node name x.name) ns ≡ Some n
    → (m : Node) × (find (λ (x : Node). is_node name x.name) ms ≡ Some m) × Keeps k n m
fed_node k t name [] given ms f n found = absurd (none-some n found)
fed_node k t name (x ∷ xs) given ms (y, ys, first, more, one, rest, are, is) n found =
    subst (λ l. (m : Node) × (find (λ (x : Node). is_node name x.name) l ≡ Some m) × Keeps k n m) (sym is) (elim (cases_Bool (is_node name x.name)) [
      | inl mine ↦ (
        y,
        cond-true (is_node name y.name) (Some y) (find (λ (x : Node). is_node name x.name) ys) (ap (is_node name) kept.name ∙ mine),
        subst (λ (z : Node). Keeps k z y) (same_Some x n (sym (cond-true (is_node name x.name) (Some x) (find (λ (x : Node). is_node name x.name) xs) mine) ∙ found)) kept,
      )
      | inr not_mine ↦
          let later = fed_node k t name xs more ys rest n (sym (cond-false (is_node name x.name) (Some x) (find (λ (x : Node). is_node name x.name) xs) not_mine) ∙ found) in
          (later.0, cond-false (is_node name y.name) (Some y) (find (λ (x : Node). is_node name x.name) ys) (ap (is_node name) kept.name ∙ not_mine) ∙ later.1, later.2)
    ])
  where
    kept : Keeps k x y
    kept = feeds_keep k t x first y one

-- all nodes feed
pub feeding_rests : (k : Key) (c : Chain) (given : List Key) (nodes : List Node) → FeedsAll c.tables c.nodes given nodes → Rests k c (record c { nodes = nodes })
feeding_rests k c given nodes f = record {
  tables = refl;
  source_node = λ n found. let m = fed_node k c.tables (source k) c.nodes given nodes f n found in (m.0, m.1, m.2.sends);
  sink_node = λ n found. let m = fed_node k c.tables (sink k) c.nodes given nodes f n found in (m.0, m.1, m.2.hears);
}
