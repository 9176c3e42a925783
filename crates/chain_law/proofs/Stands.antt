-- What holds of the sides of ports that nodes have, and what keeps it: a call of one side, and whatever leaves the entities as they are.
use Rattle.std.proofs.Common.{◌≡◌, ◌⊎◌, inl, inr, ℕ, ◌+◌, ◌≤◌, Bool, true, false, cond, not, ◌&&◌, List, [], ◌∷◌, ◌++◌, length, Option, Some, None, option_map, option_and_then, refl, sym, ◌∙◌, ap, subst, arith}
use Rattle.std.proofs.lemmas.Bool.{cases_Bool, cases_eq, cond-true, cond-false, false≢true, and_parts}
use Rattle.std.proofs.lemmas.Option.{none-some, same_Some}
use Rattle.std.proofs.lemmas.List.{length_push}
use Rattle.link_base.specs.declared.names.SnSize.{SnSize}
use Rattle.link_base.specs.declared.names.PortName.{PortName}
use Rattle.link_base.specs.declared.names.Side.{Side}
use Rattle.link_base.specs.declared.names.Way.{Way}
use Rattle.bearer_map.specs.Contents.{Contents}
use Rattle.rlc_model.specs.declared.hop.Pdu.{Pdu}
use Rattle.rlc_model.specs.Hop.{on_air, off_air, sent_from}
use Rattle.rlc_model.specs.Rx.{Rx}
use Rattle.rlc_model.specs.Sides.{Entity, way_from}
use Rattle.rlc_model.specs.Tx.{Tx}
use Rattle.rlc_model.specs.Heard.{Data}
use Rattle.rlc_law.specs.Hop.{Event}
use Rattle.rlc_law.specs.Ports.{Port, Ports, hop_of, HasMade, MovesSide, IsSide, Changes, PortsFit, goes_off}
use Rattle.rlc_law.specs.Sides.{Sides, Epochs, SidesFit}
use Rattle.node_model.specs.Names.{NodeName, is_node, owner}
use Rattle.node_model.specs.State.{PortSide, Node, side_at, entity_of}
use Rattle.chain_model.specs.Sizes.{port_size}
use Rattle.chain_law.specs.Entities.{port_settings}
use Rattle.node_model.proofs.Names.{cases_node, cases_port, cases_owner, owner_side, node_refl, node_apart}
use Rattle.chain_law.proofs.Counting.{is_grant, is_delivery, moves_same, moves_heard, air_more, air_less, air_long}
use Rattle.chain_law.specs.Foundations.{RlcLaws}

-- the side of each port at each node
abbrev pub View : Type 0
View = NodeName → PortName → Option PortSide

-- the entities of the open sides
abbrev pub sides_of : View → Sides
sides_of view side name = option_and_then entity_of (view (owner side name) name)

-- the most that the epoch can be from which on a side of a port was not opened yet
abbrev pub Limits : Type 0
Limits = Side → PortName → ℕ

-- the data PDUs that the receiver of a way of a port has heard, and none where there is no port
abbrev pub heard_in : Option Port → Way → List Data
heard_in None way = []
heard_in (Some port) way = (hop_of port way).heard

-- what is said of the data PDUs that were heard of a port in an epoch, in each way
abbrev pub Logs : Type 1
Logs = PortName → ℕ → Way → List Data → Type 0

-- nothing is said of them
abbrev pub nothing_said : Logs
nothing_said name epoch way heard = Unit {0}

-- what one says of them the other says too
abbrev pub Implies : Logs → Logs → Type 0
Implies q r = (name : PortName) (epoch : ℕ) (way : Way) (heard : List Data) → q name epoch way heard → r name epoch way heard

-- the RLC of sides of ports, with what is said of what they heard, the tables, limits of epochs and the air
pub record Stands (q : Logs) (t : Contents) (view : View) (limit : Limits) (air : List (Option Pdu)) : Type 0 where
  pub ports : Ports
  pub epochs : Epochs
  pub fits : PortsFit ports air
  pub opened : (ticket : ℕ) (pdu : Pdu) → on_air air ticket ≡ Some pdu → (port : Port) × (ports pdu.port pdu.epoch ≡ Some port)
  pub sides : SidesFit (port_settings t) ports epochs (sides_of view)
  pub few : (name : PortName) (epoch : ℕ) (port : Port) (way : Way) → ports name epoch ≡ Some port → length (hop_of port way).pdus ≤ length air
  pub within : (side : Side) (name : PortName) → epochs side name ≤ limit side name
  pub sizes : (side : Side) (name : PortName) (s : PortSide) → view (owner side name) name ≡ Some s → s.size ≡ port_size t name
  pub heard : (name : PortName) (epoch : ℕ) (way : Way) → q name epoch way (heard_in (ports name epoch) way)

-- what else is said of what was heard
pub stands_implied : {q r : Logs} {t : Contents} {view : View} {limit : Limits} {air : List (Option Pdu)} → Implies q r → Stands q t view limit air → Stands r t view limit air
stands_implied more s = record {
  ports = s.ports;
  epochs = s.epochs;
  fits = s.fits;
  opened = s.opened;
  sides = s.sides;
  few = s.few;
  within = s.within;
  sizes = s.sizes;
  heard = λ name epoch way. more name epoch way _ (s.heard name epoch way);
}

-- what is said of a side: its entity, and the size of its SNs
pub record Shown : Type 0 where
  pub entity : Option Entity
  pub size : SnSize

abbrev pub shown : PortSide → Shown
shown s = record { entity = s.entity; size = s.size }

entity_shown : (o : Option PortSide) → option_and_then (λ (x : Shown). x.entity) (option_map shown o) ≡ option_and_then entity_of o
entity_shown None = refl
entity_shown (Some s) = refl

size_shown : (o : Option PortSide) (s : PortSide) → option_map shown o ≡ Some (shown s) → (was : PortSide) × (o ≡ Some was) × (s.size ≡ was.size)
size_shown None s e = absurd (none-some (shown s) e)
size_shown (Some was) s e = (was, refl, sym (ap (λ (x : Shown). x.size) (same_Some (shown was) (shown s) e)))

-- sides of which the same is said stand alike
pub stands_same : {q : Logs} {t : Contents} {view : View} {limit : Limits} {air : List (Option Pdu)} (new : View)
    → ((side : Side) (name : PortName) → option_map shown (new (owner side name) name) ≡ option_map shown (view (owner side name) name))
    → Stands q t view limit air → Stands q t new limit air
stands_same {q} {t} {view} {limit} {air} new same s = record {
  ports = s.ports;
  epochs = s.epochs;
  fits = s.fits;
  opened = s.opened;
  sides = record {
    open_port = λ side name e is. s.sides.open_port side name e (was side name ∙ is);
    open_epoch = λ side name e is. s.sides.open_epoch side name e (was side name ∙ is);
    not_open = s.sides.not_open;
    sizes = s.sides.sizes;
  };
  few = s.few;
  within = s.within;
  sizes = λ side name now here.
      let old = size_shown (view (owner side name) name) now (sym (same side name) ∙ ap (option_map shown) here) in
      old.2 ∙ s.sizes side name old.0 old.1;
  heard = s.heard;
}
  where
    was : (side : Side) (name : PortName) → sides_of view side name ≡ sides_of new side name
    was side name = sym (entity_shown (view (owner side name) name)) ∙ ap (option_and_then (λ (x : Shown). x.entity)) (sym (same side name))
        ∙ entity_shown (new (owner side name) name)

-- a PDU goes off the air
pub stands_off : (l : RlcLaws) {q : Logs} {t : Contents} {view : View} {limit : Limits} {air : List (Option Pdu)} (ticket : ℕ) → Stands q t view limit air
    → Stands q t view limit (off_air air ticket)
stands_off l {air = air} ticket s = record {
  ports = s.ports;
  epochs = s.epochs;
  fits = l.ports_keep s.ports s.ports air (off_air air ticket) s.fits (goes_off ticket);
  opened = λ other pdu here. s.opened other pdu (air_less air ticket other pdu here);
  sides = s.sides;
  few = λ name epoch port way is. omega (arith, s.few name epoch port way is, air_long air ticket);
  within = s.within;
  sizes = s.sizes;
  heard = s.heard;
}

-- one side of a port changes, but for its size
module _ {q : Logs} {t : Contents} {limit : Limits} {air : List (Option Pdu)} {view : View} (s : Stands q t view limit air) (side : Side) (name : PortName) (was now : PortSide)
    (there : view (owner side name) name ≡ Some was) (same_size : now.size ≡ was.size)
    (new : View) (change : Changes view (owner side name) name (Some now) new) where
  pub entity_changes : Changes (sides_of view) side name now.entity (sides_of new)
  entity_changes = record {
    here = ap (option_and_then entity_of) change.here;
    others = λ at q ne. ap (option_and_then entity_of) (change.others (owner at q) q (λ same. ne (owner_side at side q (same.0 ∙ sym (ap (owner side) same.1)), same.1)));
  }

  pub sizes_stay : (at : Side) (q : PortName) (x : PortSide) → new (owner at q) q ≡ Some x → x.size ≡ port_size t q
  sizes_stay at q x is = elim (cases_port q name) [
    | inr ne ↦ s.sizes at q x (sym (change.others (owner at q) q (λ same. ne same.1)) ∙ is)
    | inl same ↦ elim (cases_node (owner at q) (owner side name)) [
      | inr ne ↦ s.sizes at q x (sym (change.others (owner at q) q (λ same. ne same.0)) ∙ is)
      | inl one ↦
          let now_is : now ≡ x = same_Some now x (sym change.here ∙ ap (λ (y : NodeName). new y name) (sym one) ∙ ap (new (owner at q)) (sym same) ∙ is) in
          ap (λ (x : PortSide). x.size) (sym now_is) ∙ same_size ∙ s.sizes side name was there ∙ ap (port_size t) (sym same)
    ]
  ]

-- an entity of a port's side is called
module _ (l : RlcLaws) {q : Logs} {t : Contents} {limit : Limits} {air : List (Option Pdu)} {view : View} (s : Stands q t view limit air) (side : Side) (name : PortName)
    (was now : PortSide)
    (entity : Entity) (tx : Tx) (rx : Rx)
    (there : view (owner side name) name ≡ Some was) (is_open : was.entity ≡ Some entity) (same_size : now.size ≡ was.size)
    (its_entity : now.entity ≡ Some (record entity { tx = tx; rx = rx }))
    (new : View) (change : Changes view (owner side name) name (Some now) new) (port : Port) (here : s.ports name entity.epoch ≡ Some port) (way : Way) (event : Event)
    (behind : Port) (m : MovesSide port side way event tx rx behind) where
  side_changes : Changes (sides_of view) side name (Some (record entity { tx = tx; rx = rx })) (sides_of new)
  side_changes = subst (λ (e : Option Entity). Changes (sides_of view) side name e (sides_of new)) its_entity (entity_changes s side name was now there same_size new change)

  called : (new_ports : Ports) × Changes s.ports name entity.epoch (Some behind) new_ports × SidesFit (port_settings t) new_ports s.epochs (sides_of new) × PortsFit new_ports air
      × ((status : Bool) (number : ℕ) (bytes : List ℕ) → HasMade behind (way_from side) status number bytes
      → PortsFit new_ports (air ++ Some (sent_from name side entity.epoch status number bytes) ∷ []))
  called = l.call_fits (port_settings t) s.ports s.epochs (sides_of view) air s.fits s.sides side name entity port
      (ap (option_and_then entity_of) there ∙ is_open) here way event tx rx behind m (sides_of new) side_changes

  -- a port behind the call is the one that moved, or is as before
  port_was : (q : PortName) (e : ℕ) (p : Port) → called.0 q e ≡ Some p → ((q ≡ name) × (e ≡ entity.epoch) × (p ≡ behind)) ⊎ (s.ports q e ≡ Some p)
  port_was q e p is = elim (cases_port q name) [
    | inr ne ↦ inr (sym (called.1.others q e (λ same. ne same.0)) ∙ is)
    | inl same ↦ elim (cases_eq e entity.epoch) [
      | inr ne ↦ inr (sym (called.1.others q e (λ same. ne same.1)) ∙ is)
      | inl epoch ↦ inl (same, epoch, sym (same_Some behind p (sym called.1.here ∙ ap (called.0 name) (sym epoch) ∙ ap (λ (q : PortName). called.0 q e) (sym same) ∙ is)))
    ]
  ]

  still_there : (q : PortName) (e : ℕ) → (p : Port) × (s.ports q e ≡ Some p) → (p : Port) × (called.0 q e ≡ Some p)
  still_there q e found = elim (cases_port q name) [
    | inr ne ↦ (found.0, called.1.others q e (λ same. ne same.0) ∙ found.1)
    | inl same ↦ elim (cases_eq e entity.epoch) [
      | inr ne ↦ (found.0, called.1.others q e (λ same. ne same.1) ∙ found.1)
      | inl epoch ↦ (behind, ap (λ (q : PortName). called.0 q e) same ∙ ap (called.0 name) epoch ∙ called.1.here)
    ]
  ]

  few_more : (n : ℕ) → length air ≤ n → ((w : Way) → length (hop_of behind w).pdus ≤ n) → (q : PortName) (e : ℕ) (p : Port) (w : Way) → called.0 q e ≡ Some p
      → length (hop_of p w).pdus ≤ n
  few_more n le most q e p w is = elim (port_was q e p is) [
    | inl this ↦ subst (λ (p : Port). length (hop_of p w).pdus ≤ n) (sym this.2) (most w)
    | inr old ↦ omega (arith, le, s.few q e p w old)
  ]

  -- what is said of what was heard, where it is said of the port that moved and of each other
  module _ {r : Logs} (here_so : (w : Way) → q name entity.epoch w (hop_of port w).heard → r name entity.epoch w (hop_of behind w).heard)
      (else_so : (p : PortName) (e : ℕ) (w : Way) (heard : List Data) → ((p ≡ name) × (e ≡ entity.epoch) → ⊥) → q p e w heard → r p e w heard) where
    heard_behind : (p : PortName) (e : ℕ) (w : Way) → r p e w (heard_in (called.0 p e) w)
    heard_behind p e w = elim (cases_port p name) [
      | inr ne ↦ elsewhere (λ same. ne same.0)
      | inl same ↦ elim (cases_eq e entity.epoch) [
        | inr ne ↦ elsewhere (λ one. ne one.1)
        | inl epoch ↦ subst (λ (x : PortName). r x e w (heard_in (called.0 x e) w)) (sym same) (subst (λ (x : ℕ). r name x w (heard_in (called.0 name x) w)) (sym epoch)
            (subst (λ (o : Option Port). r name entity.epoch w (heard_in o w)) (sym called.1.here)
            (here_so w (subst (λ (o : Option Port). q name entity.epoch w (heard_in o w)) here (s.heard name entity.epoch w)))))
      ]
    ]
      where
        elsewhere : ((p ≡ name) × (e ≡ entity.epoch) → ⊥) → r p e w (heard_in (called.0 p e) w)
        elsewhere ne = subst (λ (o : Option Port). r p e w (heard_in o w)) (sym (called.1.others p e ne)) (else_so p e w _ ne (s.heard p e w))

    -- it sends no data PDU
    pub stands_moved : is_grant event ≡ false → Stands r t new limit air
    stands_moved quiet = record {
      ports = called.0;
      epochs = s.epochs;
      fits = called.3;
      opened = λ ticket pdu on. still_there pdu.port pdu.epoch (s.opened ticket pdu on);
      sides = called.2;
      few = few_more (length air) (omega arith) (λ w. omega (arith, moves_same way m.moves quiet w, s.few name entity.epoch port w here));
      within = s.within;
      sizes = sizes_stay s side name was now there same_size new change;
      heard = heard_behind;
    }

  -- it hears no data PDU
  module _ (silent : is_delivery event ≡ false) where
    same_heard : (w : Way) → q name entity.epoch w (hop_of port w).heard → q name entity.epoch w (hop_of behind w).heard
    same_heard w so = subst (q name entity.epoch w) (sym (moves_heard way m.moves silent w)) so

    -- and sends none
    pub stands_called : is_grant event ≡ false → Stands q t new limit air
    stands_called quiet = stands_moved same_heard (λ p e w heard ne so. so) quiet

    -- it sends a PDU, which goes on the air
    pub stands_sent : ((w : Way) → length (hop_of behind w).pdus ≤ length (hop_of port w).pdus + 1) → (status : Bool) (number : ℕ) (bytes : List ℕ)
        → HasMade behind (way_from side) status number bytes
        → Stands q t new limit (air ++ Some (sent_from name side entity.epoch status number bytes) ∷ [])
    stands_sent most status number bytes made = record {
      ports = called.0;
      epochs = s.epochs;
      fits = called.4 status number bytes made;
      opened = λ ticket pdu on. elim (air_more air (sent_from name side entity.epoch status number bytes) pdu ticket on) [
        | inl before ↦ still_there pdu.port pdu.epoch (s.opened ticket pdu before)
        | inr this ↦ still_there pdu.port pdu.epoch (port, ap (λ (pdu : Pdu). s.ports pdu.port pdu.epoch) this ∙ here)
      ];
      sides = called.2;
      few = few_more (length (air ++ Some (sent_from name side entity.epoch status number bytes) ∷ [])) (omega (arith, longer))
          (λ w. omega (arith, longer, most w, s.few name entity.epoch port w here));
      within = s.within;
      sizes = sizes_stay s side name was now there same_size new change;
      heard = heard_behind same_heard (λ p e w heard ne so. so);
    }
      where
        longer : length (air ++ Some (sent_from name side entity.epoch status number bytes) ∷ []) ≡ length air + 1
        longer = length_push air (Some (sent_from name side entity.epoch status number bytes))

-- the event neither sends a data PDU nor hears one
abbrev pub is_quiet : Event → Bool
is_quiet event = not (is_grant event) && not (is_delivery event)

-- what a call of an entity does to the port of which it is a side: nothing, or it moves it, and sends no data PDU and hears none
pub data Moved (port : Port) (side : Side) (tx : Tx) (rx : Rx) : Type 0 where
  stays : IsSide port side tx rx → Moved port side tx rx
  moves : (way : Way) (event : Event) (behind : Port) → is_quiet event ≡ true → MovesSide port side way event tx rx behind → Moved port side tx rx

-- a side that has the transmitter and the receiver of another has the same
same_entity : (port : Port) (side : Side) (entity : Entity) (tx : Tx) (rx : Rx) → IsSide port side entity.tx entity.rx → IsSide port side tx rx
    → record entity { tx = tx; rx = rx } ≡ entity
same_entity port side entity tx rx was is =
    ap (λ (tx : Tx). record entity { tx = tx; rx = rx }) (is.its_tx ∙ sym was.its_tx) ∙ ap (λ (rx : Rx). record entity { rx = rx }) (is.its_rx ∙ sym was.its_rx)

-- the side of a port at a node becomes this, and the others stay
pub record SideChanges (n : Node) (port : PortName) (s : PortSide) (m : Node) : Type 0 where
  pub here : side_at m port ≡ Some s
  pub others : (q : PortName) → (q ≡ port → ⊥) → side_at m q ≡ side_at n q

pub not_true : (b : Bool) → not b ≡ true → b ≡ false
not_true true e = absurd (false≢true e)
not_true false e = refl

-- what a node's sides do, one behind another: nothing; one changes but for its entity and size; or the entity of one is called
pub data NodeMoves : Node → Node → Type 0 where
  rests : {n m : Node} → ((q : PortName) → side_at m q ≡ side_at n q) → NodeMoves n m
  changes : {n m : Node} (port : PortName) (was now : PortSide) → side_at n port ≡ Some was → shown now ≡ shown was → SideChanges n port now m → NodeMoves n m
  calls : {n m : Node} (port : PortName) (was now : PortSide) (entity : Entity) (tx : Tx) (rx : Rx) → side_at n port ≡ Some was → was.entity ≡ Some entity → now.size ≡ was.size
      → now.entity ≡ Some (record entity { tx = tx; rx = rx })
      → ((side : Side) (at : Port) → IsSide at side entity.tx entity.rx → Moved at side tx rx) → SideChanges n port now m → NodeMoves n m
  follow : {n mid m : Node} → NodeMoves n mid → NodeMoves mid m → NodeMoves n m

-- a view where a node has these sides
abbrev pub put : View → NodeName → (PortName → Option PortSide) → View
put view x sides y q = cond (is_node x y) (sides q) (view y q)

pub put_here : (view : View) (x : NodeName) (sides : PortName → Option PortSide) (y : NodeName) (q : PortName) → y ≡ x → put view x sides y q ≡ sides q
put_here view x sides y q same = cond-true (is_node x y) (sides q) (view y q) (ap (is_node x) same ∙ node_refl x)

pub put_other : (view : View) (x : NodeName) (sides : PortName → Option PortSide) (y : NodeName) (q : PortName) → (y ≡ x → ⊥) → put view x sides y q ≡ view y q
put_other view x sides y q ne = cond-false (is_node x y) (sides q) (view y q) (node_apart x y (λ e. ne (sym e)))

-- what is said of a view's sides is the same once a node's sides are these, where it is at each that the node has by its name
pub put_alike : (view : View) (x : NodeName) (old new : PortName → Option PortSide)
    → ((q : PortName) → ((side : Side) × (owner side q ≡ x)) → option_map shown (new q) ≡ option_map shown (old q))
    → (side : Side) (name : PortName) → option_map shown (put view x new (owner side name) name) ≡ option_map shown (put view x old (owner side name) name)
put_alike view x old new same side name = elim (cases_node (owner side name) x) [
  | inl here ↦ ap (option_map shown) (put_here view x new (owner side name) name here) ∙ same name (side, here)
      ∙ ap (option_map shown) (sym (put_here view x old (owner side name) name here))
  | inr there ↦ ap (option_map shown) (put_other view x new (owner side name) name there ∙ sym (put_other view x old (owner side name) name there))
]

-- the sides of a node of which some are seen, and others stand in the place of the rest
abbrev pub window : (PortName → Bool) → (PortName → Option PortSide) → Node → PortName → Option PortSide
window sees rest n q = cond (sees q) (side_at n q) (rest q)

-- of a window on a node's sides: the same is said of what is seen behind a change as of what is seen of the node
module _ (sees : PortName → Bool) (rest : PortName → Option PortSide) (n m : Node) where
  pub window_shown : (q : PortName) → option_map shown (side_at m q) ≡ option_map shown (side_at n q)
      → option_map shown (window sees rest m q) ≡ option_map shown (window sees rest n q)
  window_shown q = by (sees q)
    where
      by : (b : Bool) → option_map shown (side_at m q) ≡ option_map shown (side_at n q)
          → option_map shown (cond b (side_at m q) (rest q)) ≡ option_map shown (cond b (side_at n q) (rest q))
      by true e = e
      by false e = refl

  -- one side of a node is called that is seen
  pub put_changes : (view : View) (x : NodeName) (side : Side) (name : PortName) (now : PortSide) → owner side name ≡ x → sees name ≡ true → SideChanges n name now m
      → Changes (put view x (window sees rest n)) (owner side name) name (Some now) (put view x (window sees rest m))
  put_changes view x side name now own seen sc = record {
    here = put_here view x (window sees rest m) (owner side name) name own ∙ cond-true (sees name) (side_at m name) (rest name) seen ∙ sc.here;
    others = λ y q ne. elim (cases_node y x) [
      | inr other ↦ put_other view x (window sees rest m) y q other ∙ sym (put_other view x (window sees rest n) y q other)
      | inl same ↦ put_here view x (window sees rest m) y q same ∙ ap (λ (o : Option PortSide). cond (sees q) o (rest q)) (sc.others q (λ port. ne (same ∙ sym own, port)))
          ∙ sym (put_here view x (window sees rest n) y q same)
    ];
  }

module _ (l : RlcLaws) {q : Logs} {t : Contents} {limit : Limits} {air : List (Option Pdu)} (view : View) (x : NodeName) (sees : PortName → Bool)
    (rest : PortName → Option PortSide) where
  -- moves of a node's sides keep what holds of those that are seen
  pub node_stands : {n m : Node} → NodeMoves n m → Stands q t (put view x (window sees rest n)) limit air → Stands q t (put view x (window sees rest m)) limit air
  node_stands {n} {m} (rests same) s = stands_same _
      (put_alike view x (window sees rest n) (window sees rest m) (λ q own. window_shown sees rest n m q (ap (option_map shown) (same q)))) s
  node_stands {n} {m} (changes port was now there same sc) s = stands_same _
      (put_alike view x (window sees rest n) (window sees rest m) (λ q own. window_shown sees rest n m q (alike q (cases_port q port)))) s
    where
      alike : (q : PortName) → (q ≡ port) ⊎ (q ≡ port → ⊥) → option_map shown (side_at m q) ≡ option_map shown (side_at n q)
      alike q (inl e) = ap (λ (q : PortName). option_map shown (side_at m q)) e ∙ ap (option_map shown) sc.here ∙ ap (λ (x : Shown). Some x) same
          ∙ ap (option_map shown) (sym there) ∙ ap (λ (q : PortName). option_map shown (side_at n q)) (sym e)
      alike q (inr ne) = ap (option_map shown) (sc.others q ne)
  node_stands {n} {m} (calls port was now entity tx rx there is_open same_size its_entity mover sc) s = by (cases_owner x port) (cases_Bool (sees port))
    where
      elsewhere : (q : PortName) → (q ≡ port → ⊥) → option_map shown (side_at m q) ≡ option_map shown (side_at n q)
      elsewhere q ne = ap (option_map shown) (sc.others q ne)

      in_view : (side : Side) → owner side port ≡ x → sees port ≡ true → put view x (window sees rest n) (owner side port) port ≡ Some was
      in_view side own seen = put_here view x (window sees rest n) (owner side port) port own ∙ cond-true (sees port) (side_at n port) (rest port) seen ∙ there

      moved : (side : Side) → owner side port ≡ x → sees port ≡ true → (p : Port) (here : s.ports port entity.epoch ≡ Some p) → IsSide p side entity.tx entity.rx
          → Moved p side tx rx → Stands q t (put view x (window sees rest m)) limit air
      moved side own seen p here before (stays is) = stands_same _
          (put_alike view x (window sees rest n) (window sees rest m) (λ q its. window_shown sees rest n m q (alike q (cases_port q port)))) s
        where
          alike : (q : PortName) → (q ≡ port) ⊎ (q ≡ port → ⊥) → option_map shown (side_at m q) ≡ option_map shown (side_at n q)
          alike q (inr ne) = elsewhere q ne
          alike q (inl e) = ap (λ (q : PortName). option_map shown (side_at m q)) e ∙ ap (option_map shown) sc.here
              ∙ ap (λ (e : Option Entity). Some (record { entity = e; size = now.size }))
              (its_entity ∙ ap (λ (e : Entity). Some e) (same_entity p side entity tx rx before is) ∙ sym is_open)
              ∙ ap (λ (z : SnSize). Some (record { entity = was.entity; size = z })) same_size ∙ ap (option_map shown) (sym there)
              ∙ ap (λ (q : PortName). option_map shown (side_at n q)) (sym e)
      moved side own seen p here before (moves way event behind quiet ms) =
          let parts = and_parts (not (is_grant event)) (not (is_delivery event)) quiet in
          stands_called l s side port was now entity tx rx (in_view side own seen) is_open same_size its_entity (put view x (window sees rest m))
          (put_changes sees rest n m view x side port now own seen sc) p here way event behind ms (not_true (is_delivery event) parts.1) (not_true (is_grant event) parts.0)

      by : ((side : Side) × (owner side port ≡ x)) ⊎ ((side : Side) → owner side port ≡ x → ⊥) → (sees port ≡ true) ⊎ (sees port ≡ false)
          → Stands q t (put view x (window sees rest m)) limit air
      by (inl own) (inl seen) =
          let at = s.sides.open_port own.0 port entity (ap (option_and_then entity_of) (in_view own.0 own.1 seen) ∙ is_open) in
          moved own.0 own.1 seen at.0 at.1 at.2 (mover own.0 at.0 at.2)
      by (inl own) (inr hidden) = stands_same _ (put_alike view x (window sees rest n) (window sees rest m) (λ q its. same q (cases_port q port))) s
        where
          same : (q : PortName) → (q ≡ port) ⊎ (q ≡ port → ⊥) → option_map shown (window sees rest m q) ≡ option_map shown (window sees rest n q)
          same q (inr ne) = window_shown sees rest n m q (elsewhere q ne)
          same q (inl e) =
              let unseen : sees q ≡ false = ap sees e ∙ hidden in
              ap (option_map shown) (cond-false (sees q) (side_at m q) (rest q) unseen ∙ sym (cond-false (sees q) (side_at n q) (rest q) unseen))
      by (inr none) seen = stands_same _
          (put_alike view x (window sees rest n) (window sees rest m) (λ q own. window_shown sees rest n m q (elsewhere q (λ e. none own.0 (ap (owner own.0) (sym e) ∙ own.1))))) s
  node_stands (follow first second) s = node_stands second (node_stands first s)

-- all sides of a node are seen
abbrev pub all_seen : PortName → Bool
all_seen q = true

abbrev pub no_rest : PortName → Option PortSide
no_rest q = None
