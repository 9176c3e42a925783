-- What is done alike to chains that nothing tells apart leaves such chains.
use Rattle.std.proofs.Common.{◌≡◌, ℕ, nat_lt, Bool, true, false, if◌then◌else◌, List, [], ◌∷◌, map, find, unwrap_or, Option, Some, None, refl, ◌∙◌, ap, subst}
use Rattle.std.specs.List.{filter_map, cons_option}
use Rattle.link_base.specs.declared.names.Key.{Key}
use Rattle.pdcp_model.specs.Sender.{Sender, confirmed}
use Rattle.script_text.specs.declared.event.Event.{Event}
use Rattle.script_text.specs.declared.event.Event.TheVariants.{Conf}
use Rattle.node_model.specs.Names.{NodeName, is_node, replaced, source}
use Rattle.node_model.specs.State.{Outgoing, Node, no_node}
use Rattle.node_law.specs.Alike.{SameNode}
use Rattle.node_law.proofs.Alike.{alike, out_too}
use Rattle.chain_model.specs.State.{Chain, node_at, set_node, sender_at}
use Rattle.chain_model.specs.Steps.{confirming}
use Rattle.step_law.specs.OneStep.{SameNodes, SameChain}

-- nothing tells one from itself
same_nodes : (xs : List Node) → SameNodes xs xs
same_nodes [] = tt
same_nodes (n ∷ ns) = (alike n n refl, same_nodes ns)

-- equal chains are alike
pub same_chain : (a b : Chain) → a ≡ b → SameChain a b
same_chain a b e = subst (SameChain a) e (record { tables = refl; nodes = same_nodes a.nodes; plans = refl; air = refl; staged = refl })

-- one of two, by a test that is the same
chosen : (b c : Bool) → b ≡ c → (m n x y : Node) → SameNode m n → SameNode x y → SameNode (if b then m else x) (if c then n else y)
chosen b c e m n x y same other = subst (λ (z : Bool). SameNode (if b then m else x) (if z then n else y)) e (by b)
  where
    by : (b : Bool) → SameNode (if b then m else x) (if b then n else y)
    by true = same
    by false = other

-- nodes of one name are set in lists that are alike
set_alike : (name : NodeName) (m n : Node) → SameNode m n → (xs ys : List Node) → SameNodes xs ys
    → SameNodes (replaced (λ x. is_node name x.name) m xs) (replaced (λ x. is_node name x.name) n ys)
set_alike name m n same [] [] e = tt
set_alike name m n same [] (y ∷ ys) e = absurd e
set_alike name m n same (x ∷ xs) [] e = absurd e
set_alike name m n same (x ∷ xs) (y ∷ ys) e =
    (chosen (is_node name x.name) (is_node name y.name) (ap (is_node name) e.0.name) m n x y same e.0, set_alike name m n same xs ys e.1)

-- nodes that are alike are set in chains that are
pub node_set : (c d : Chain) → SameChain c d → (m n : Node) → SameNode m n → SameChain (set_node c m) (set_node d n)
node_set c d e m n same = record {
  tables = e.tables;
  nodes = subst (λ (z : NodeName). SameNodes (replaced (λ (x : Node). is_node m.name x.name) m c.nodes) (replaced (λ (x : Node). is_node z x.name) n d.nodes)) same.name
      (set_alike m.name m n same c.nodes d.nodes e.nodes);
  plans = e.plans;
  air = e.air;
  staged = e.staged;
}

-- both are found and nothing tells them apart, or none is found
abbrev SameFound : Option Node → Option Node → Type 0
SameFound None None = Unit {0}
SameFound (Some m) (Some n) = SameNode m n
SameFound o p = ⊥

-- the first of two, or what is found behind it
first_or : (b : Bool) (x y : Node) (o p : Option Node) → SameNode x y → SameFound o p → SameFound (if b then Some x else o) (if b then Some y else p)
first_or true x y o p same others = same
first_or false x y o p same others = others

-- a node is found alike
found : (name : NodeName) (xs ys : List Node) → SameNodes xs ys → SameFound (find (λ (n : Node). is_node name n.name) xs) (find (λ (n : Node). is_node name n.name) ys)
found name [] [] e = tt
found name [] (y ∷ ys) e = absurd e
found name (x ∷ xs) [] e = absurd e
found name (x ∷ xs) (y ∷ ys) e = subst
    (λ (z : Bool). SameFound (if is_node name x.name then Some x else find (λ (n : Node). is_node name n.name) xs)
    (if z then Some y else find (λ (n : Node). is_node name n.name) ys))
    (ap (is_node name) e.0.name)
    (first_or (is_node name x.name) x y (find (λ (n : Node). is_node name n.name) xs) (find (λ (n : Node). is_node name n.name) ys) e.0 (found name xs ys e.1))

-- or else one that has nothing stands for it
or_none : (name : NodeName) (o p : Option Node) → SameFound o p → SameNode (unwrap_or o (no_node name)) (unwrap_or p (no_node name))
or_none name None None e = alike (no_node name) (no_node name) refl
or_none name None (Some n) e = absurd e
or_none name (Some m) None e = absurd e
or_none name (Some m) (Some n) e = e

pub node_too : (a b : Chain) → SameChain a b → (name : NodeName) → SameNode (node_at a name) (node_at b name)
node_too a b e name = or_none name (find (λ (n : Node). is_node name n.name) a.nodes) (find (λ (n : Node). is_node name n.name) b.nodes) (found name a.nodes b.nodes e.nodes)

-- both have the same sender of a key
pub sender_too : (a b : Chain) → SameChain a b → (key : Key) → sender_at a key ≡ sender_at b key
sender_too a b e key = ap (λ (o : Outgoing). o.sender) (out_too (node_at a (source key)) (node_at b (source key)) (node_too a b e (source key)) key)

-- the event of a sender whose confirmed number was this before
abbrev risen : Key → ℕ → Sender → Option Event
risen key before s = if nat_lt before (confirmed s) then Some (Conf key (confirmed s)) else None

-- so the same confirmed numbers rose
confirming_too : (c d : Chain) → SameChain c d → (a b : Chain) → SameChain a b → (key : Key) → confirming c a key ≡ confirming d b key
confirming_too c d before a b e key = ap (λ (s : Sender). risen key (confirmed s) (sender_at a key)) (sender_too c d before key)
    ∙ ap (risen key (confirmed (sender_at d key))) (sender_too a b e key)

-- equal functions give the same of a list
same_events : (f g : Key → Option Event) → ((key : Key) → f key ≡ g key) → (keys : List Key) → filter_map f keys ≡ filter_map g keys
same_events f g e [] = refl
same_events f g e (key ∷ keys) = ap (λ (o : Option Event). cons_option o (filter_map f keys)) (e key) ∙ ap (cons_option (g key)) (same_events f g e keys)

pub all_confirming : (c d : Chain) → SameChain c d → (a b : Chain) → SameChain a b → (keys : List Key) → filter_map (confirming c a) keys ≡ filter_map (confirming d b) keys
all_confirming c d before a b e keys = same_events (confirming c a) (confirming d b) (confirming_too c d before a b e) keys

-- all nodes learn alike what each learns alike
pub all_learn : (change : Node → Node) → ((m n : Node) → SameNode m n → SameNode (change m) (change n)) → (xs ys : List Node) → SameNodes xs ys → SameNodes (map change xs) (map change ys)
all_learn change keeps [] [] e = tt
all_learn change keeps [] (y ∷ ys) e = absurd e
all_learn change keeps (x ∷ xs) [] e = absurd e
all_learn change keeps (x ∷ xs) (y ∷ ys) e = (keeps x y e.0, all_learn change keeps xs ys e.1)
