-- What is done alike to nodes that nothing tells apart leaves such nodes.
use Rattle.std.proofs.Common.{◌≡◌, ℕ, ◌==◌, Bool, true, false, if◌then◌else◌, List, [], ◌∷◌, fold, find, unwrap_or, Option, Some, None, is_none, option_map, option_and_then, refl, ◌∙◌, ap, subst}
use Rattle.link_base.specs.declared.names.Key.{Key}
use Rattle.link_base.specs.declared.names.PortName.{PortName}
use Rattle.link_base.specs.declared.names.PortName.TheVariants.{Direct, Pc5, Uu}
use Rattle.link_base.specs.declared.rlc_words.Tag.{Tag}
use Rattle.rlc_model.specs.Rx.{Rx}
use Rattle.rlc_model.specs.Sides.{Entity}
use Rattle.rlc_law.specs.OneOutcome.{SameReceiver}
use Rattle.pdcp_model.specs.Sender.{confirms}
use Rattle.node_model.specs.Names.{is_port, is_key, replaced}
use Rattle.node_model.specs.State.{PortSide, Outgoing, Incoming, Node, side_at, entity_of, entity_at, slot_of, slot_at, queue_of, queue_at, set_side, outgoing, incoming, no_outgoing, no_incoming, set_outgoing, set_incoming}
use Rattle.node_model.specs.Ends.{confirm_count, confirm_tags}
use Rattle.node_model.specs.Sides.{IsOpen}
use Rattle.node_law.specs.Alike.{SameEntity, SameOpen, SameSide, SameSides, SameNode}
use Rattle.node_law.proofs.Relaying.{one_side}

-- nothing tells one from itself
pub same_receiver : (r : Rx) → SameReceiver r r
same_receiver r = record {
  size = refl;
  each = λ n. record { done = refl; held = λ p. refl; len = refl };
  highest = refl;
  highest_status = refl;
  trigger = refl;
  triggered = refl;
  polls = refl;
  prohibit = refl;
}

pub same_open : (o : Option Entity) → SameOpen o o
same_open None = tt
same_open (Some e) = record { epoch = refl; tx = refl; rx = same_receiver e.rx }

pub same_side : (s : PortSide) → SameSide s s
same_side s = record { name = refl; size = refl; slot = refl; queue = refl; entity = same_open s.entity }

same_sides : (xs : List PortSide) → SameSides xs xs
same_sides [] = tt
same_sides (s ∷ ss) = (same_side s, same_sides ss)

-- equal nodes are alike
pub alike : (m n : Node) → m ≡ n → SameNode m n
alike m n e = subst (SameNode m) e (record { name = refl; ports = same_sides m.ports; attached = refl; outgoing = refl; incoming = refl })

-- one of two, by a test that is the same
chosen : (b c : Bool) → b ≡ c → (s r x y : PortSide) → SameSide s r → SameSide x y → SameSide (if b then s else x) (if c then r else y)
chosen b c e s r x y same other = subst (λ (z : Bool). SameSide (if b then s else x) (if z then r else y)) e (go b)
  where
    go : (b : Bool) → SameSide (if b then s else x) (if b then r else y)
    go true = same
    go false = other

-- sides of one name are set in lists that are alike
set_alike : (name : PortName) (s r : PortSide) → SameSide s r → (xs ys : List PortSide) → SameSides xs ys
    → SameSides (replaced (λ x. is_port name x.name) s xs) (replaced (λ x. is_port name x.name) r ys)
set_alike name s r same [] [] e = tt
set_alike name s r same [] (y ∷ ys) e = absurd e
set_alike name s r same (x ∷ xs) [] e = absurd e
set_alike name s r same (x ∷ xs) (y ∷ ys) e =
    (chosen (is_port name x.name) (is_port name y.name) (ap (is_port name) e.0.name) s r x y same e.0, set_alike name s r same xs ys e.1)

-- a side is set in nodes that are alike
pub side_set : (m n : Node) → SameNode m n → (s r : PortSide) → SameSide s r → SameNode (set_side m s) (set_side n r)
side_set m n e s r same = record {
  name = e.name;
  ports = subst (λ (z : PortName). SameSides (replaced (λ x. is_port s.name x.name) s m.ports) (replaced (λ x. is_port z x.name) r n.ports)) same.name
      (set_alike s.name s r same m.ports n.ports e.ports);
  attached = e.attached;
  outgoing = e.outgoing;
  incoming = e.incoming;
}

-- both have the same ends of a key
pub out_too : (m n : Node) → SameNode m n → (key : Key) → outgoing m key ≡ outgoing n key
out_too m n e key = ap (λ (xs : List Outgoing). unwrap_or (find (λ o. is_key key o.key) xs) (no_outgoing key)) e.outgoing

pub in_too : (m n : Node) → SameNode m n → (key : Key) → incoming m key ≡ incoming n key
in_too m n e key = ap (λ (xs : List Incoming). unwrap_or (find (λ i. is_key key i.key) xs) (no_incoming key)) e.incoming

-- an end is set in nodes that are alike
pub out_set : (m n : Node) → SameNode m n → (o p : Outgoing) → o ≡ p → SameNode (set_outgoing m o) (set_outgoing n p)
out_set m n e o p same = record {
  name = e.name;
  ports = e.ports;
  attached = e.attached;
  outgoing = ap (λ (xs : List Outgoing). replaced (λ x. is_key o.key x.key) o xs) e.outgoing ∙ ap (λ (z : Outgoing). replaced (λ x. is_key z.key x.key) z n.outgoing) same;
  incoming = e.incoming;
}

pub in_set : (m n : Node) → SameNode m n → (i j : Incoming) → i ≡ j → SameNode (set_incoming m i) (set_incoming n j)
in_set m n e i j same = record {
  name = e.name;
  ports = e.ports;
  attached = e.attached;
  outgoing = e.outgoing;
  incoming = ap (λ (xs : List Incoming). replaced (λ x. is_key i.key x.key) i xs) e.incoming ∙ ap (λ (z : Incoming). replaced (λ x. is_key z.key x.key) z n.incoming) same;
}

-- an end of which RLC confirms a COUNT
abbrev confirmed : ℕ → Outgoing → Outgoing
confirmed count o = record o { sender = confirms o.sender (λ other. other == count) }

-- what RLC confirms is confirmed in both
count_too : (m n : Node) → SameNode m n → (key : Key) (count : Option ℕ) → SameNode (confirm_count m key count) (confirm_count n key count)
count_too m n e key None = e
count_too m n e key (Some count) = out_set m n e (confirmed count (outgoing m key)) (confirmed count (outgoing n key)) (ap (confirmed count) (out_too m n e key))

each_too : (tags : List Tag) (m n : Node) → SameNode m n
    → SameNode (fold (λ node (tag : Tag). confirm_count node tag.key tag.count) m tags) (fold (λ node (tag : Tag). confirm_count node tag.key tag.count) n tags)
each_too [] m n e = e
each_too (tag ∷ tags) m n e = each_too tags (confirm_count m tag.key tag.count) (confirm_count n tag.key tag.count) (count_too m n e tag.key tag.count)

pub tags_too : (m n : Node) → SameNode m n → (port : PortName) (tags : List Tag) → SameNode (confirm_tags m port tags) (confirm_tags n port tags)
tags_too m n e (Direct remote drb) tags = each_too tags m n e
tags_too m n e (Pc5 remote chan) tags = e
tags_too m n e (Uu chan) tags = e

-- one is closed where the other is
pub closed_alike : (x y : Option Entity) → SameOpen x y → is_none x ≡ is_none y
closed_alike None None same = refl
closed_alike None (Some y) same = absurd same
closed_alike (Some x) None same = absurd same
closed_alike (Some x) (Some y) same = refl

-- both are found and nothing tells them apart, or none is found
abbrev pub SameFound : Option PortSide → Option PortSide → Type 0
SameFound None None = Unit {0}
SameFound (Some s) (Some r) = SameSide s r
SameFound o p = ⊥

-- the first of two, or what is found behind it
first_or : (b : Bool) (x y : PortSide) (o p : Option PortSide) → SameSide x y → SameFound o p → SameFound (if b then Some x else o) (if b then Some y else p)
first_or true x y o p same others = same
first_or false x y o p same others = others

-- a side is found alike
found : (port : PortName) (xs ys : List PortSide) → SameSides xs ys → SameFound (find (λ s. is_port port s.name) xs) (find (λ s. is_port port s.name) ys)
found port [] [] e = tt
found port [] (y ∷ ys) e = absurd e
found port (x ∷ xs) [] e = absurd e
found port (x ∷ xs) (y ∷ ys) e = subst
    (λ (z : Bool). SameFound (if is_port port x.name then Some x else find (λ s. is_port port s.name) xs) (if z then Some y else find (λ s. is_port port s.name) ys))
    (ap (is_port port) e.0.name)
    (first_or (is_port port x.name) x y (find (λ s. is_port port s.name) xs) (find (λ s. is_port port s.name) ys) e.0 (found port xs ys e.1))

-- what is said of the side of a port at one of two nodes that nothing tells apart
module _ (m n : Node) (e : SameNode m n) where
  pub found_too : (port : PortName) → SameFound (side_at m port) (side_at n port)
  found_too port = found port m.ports n.ports e.ports

  pub there_too : (port : PortName) (s : PortSide) → side_at m port ≡ Some s → (r : PortSide) × (side_at n port ≡ Some r) × SameSide s r
  there_too port s here = by (side_at n port) refl (subst (λ (o : Option PortSide). SameFound o (side_at n port)) here (found_too port))
    where
      by : (o : Option PortSide) → side_at n port ≡ o → SameFound (Some s) o → (r : PortSide) × (side_at n port ≡ Some r) × SameSide s r
      by None is same = absurd same
      by (Some r) is same = (r, is, same)

  -- an open side is open at both
  pub is_open_too : (port : PortName) (s : PortSide) (x : Entity) → IsOpen m port s x → (r : PortSide) × (y : Entity) × IsOpen n port r y × SameSide s r × SameEntity x y
  is_open_too port s x its =
      let there = there_too port s its.here in
      by there.0 there.1 there.2 there.0.entity refl (subst (λ (o : Option Entity). SameOpen o there.0.entity) its.is_open there.2.entity)
    where
      by : (r : PortSide) → side_at n port ≡ Some r → SameSide s r → (o : Option Entity) → r.entity ≡ o → SameOpen (Some x) o
          → (r : PortSide) × (y : Entity) × IsOpen n port r y × SameSide s r × SameEntity x y
      by r here same None is both = absurd both
      by r here same (Some y) is both = (r, y, record { here = here; is_open = is }, same, both)

  pub both_open : (port : PortName) (s r : PortSide) (x y : Entity) → IsOpen m port s x → IsOpen n port r y → SameSide s r × SameEntity x y
  both_open port s r x y a b =
      let too = is_open_too port s x a in
      let one = one_side n port too.0 r too.1 y too.2 b in
      (subst (SameSide s) one.0 too.3, subst (SameEntity x) one.1 too.4)

  -- the same entity is open, or none is
  pub entity_too : (port : PortName) → SameOpen (entity_at m port) (entity_at n port)
  entity_too port = by (side_at m port) (side_at n port) (found_too port)
    where
      by : (o p : Option PortSide) → SameFound o p → SameOpen (option_and_then entity_of o) (option_and_then entity_of p)
      by None None same = tt
      by None (Some r) same = absurd same
      by (Some s) None same = absurd same
      by (Some s) (Some r) same = same.entity

  -- the slot and the queue hold the same
  pub slot_too : (port : PortName) → slot_at m port ≡ slot_at n port
  slot_too port = by (side_at m port) (side_at n port) (found_too port)
    where
      by : (o p : Option PortSide) → SameFound o p → option_and_then slot_of o ≡ option_and_then slot_of p
      by None None same = refl
      by None (Some r) same = absurd same
      by (Some s) None same = absurd same
      by (Some s) (Some r) same = same.slot

  pub queue_too : (port : PortName) → queue_at m port ≡ queue_at n port
  queue_too port = by (side_at m port) (side_at n port) (found_too port)
    where
      by : (o p : Option PortSide) → SameFound o p → unwrap_or (option_map queue_of o) [] ≡ unwrap_or (option_map queue_of p) []
      by None None same = refl
      by None (Some r) same = absurd same
      by (Some s) None same = absurd same
      by (Some s) (Some r) same = same.queue
