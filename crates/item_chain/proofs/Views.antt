-- What a chain shows behind a change of one of its nodes.
use mathlib.Core.Path.{fun_ext}
use Rattle.std.proofs.Common.{◌≡◌, inl, inr, Bool, true, cond, List, [], ◌∷◌, find, Option, Some, is_some, option_map, refl, sym, ◌∙◌, ap, subst}
use Rattle.std.specs.Option.{unwrap_or, option_and_then}
use Rattle.std.proofs.lemmas.Bool.{cases_Bool, cond-true, cond-false}
use Rattle.std.proofs.lemmas.Option.{none-some}
use Rattle.link_base.specs.declared.names.Key.{Key}
use Rattle.link_base.specs.declared.names.PortName.{PortName}
use Rattle.link_base.specs.declared.names.Remote.{Remote}
use Rattle.link_base.specs.declared.names.Side.{Side}
use Rattle.link_base.specs.declared.names.SnSize.{SnSize}
use Rattle.bearer_map.specs.declared.ids.Attachment.{Attachment}
use Rattle.bearer_map.specs.Contents.{Contents}
use Rattle.rlc_model.specs.declared.hop.Pdu.{Pdu}
use Rattle.rlc_model.specs.Sides.{Entity}
use Rattle.node_model.specs.declared.parcel.Parcel.{Parcel}
use Rattle.node_model.specs.Names.{NodeName, AtRelay, is_node, is_port, is_key, owner, replaced}
use Rattle.node_model.specs.State.{PortSide, Outgoing, Incoming, Node, side_at, entity_of, entity_at, slot_of, queue_of, slot_at, queue_at, set_side, set_entity, outgoing_at, incoming_at, set_outgoing, set_incoming, no_node}
use Rattle.node_model.proofs.Names.{cases_node, owner_side, node_refl, port_refl}
use Rattle.node_model.proofs.Finding.{find_none}
use Rattle.chain_model.specs.declared.plan.Plan.{Plan}
use Rattle.chain_model.specs.State.{Chain, node_at, set_node, entity_on}
use Rattle.chain_model.specs.Places.{find_node}
use Rattle.chain_model.proofs.Lookups.{sets_nodes, with_row, set_here, out_own, out_others, in_own, in_others, cases_found}
use Rattle.chain_law.proofs.Chains.{node_name, node_there, node_set, node_kept}
use Rattle.chain_law.proofs.Laws.{one_side_changes}
use Rattle.rlc_law.specs.Ports.{Changes}
use Rattle.item_law.specs.State.{put}
use Rattle.item_law.proofs.base.Puts.{of_key, put_same, put_other, cases_same}
use Rattle.item_chain.specs.View.{View, side_size, view, is_side, put_at}
use Rattle.item_chain.proofs.Puts.{of_side, of_node, of_port, at_all, cases_both}

-- views with the same parts are one
pub view_is : (v w : View) → v.tables ≡ w.tables → v.entity ≡ w.entity → v.slot ≡ w.slot → v.queue ≡ w.queue → v.attached ≡ w.attached → v.outgoing ≡ w.outgoing
    → v.incoming ≡ w.incoming
    → v.plan ≡ w.plan → v.air ≡ w.air → v.size ≡ w.size → v.there ≡ w.there → v ≡ w
view_is v w t e s q a o i p r z h =
    ap (λ (x : Contents). record v { tables = x }) t
    ∙ ap (λ (x : Side → PortName → Option Entity). record v { tables = w.tables; entity = x }) e
    ∙ ap (λ (x : PortName → Option Parcel). record v { tables = w.tables; entity = w.entity; slot = x }) s
    ∙ ap (λ (x : PortName → List Parcel). record v { tables = w.tables; entity = w.entity; slot = w.slot; queue = x }) q
    ∙ ap (λ (x : NodeName → List Attachment). record v { tables = w.tables; entity = w.entity; slot = w.slot; queue = w.queue; attached = x }) a
    ∙ ap (λ (x : NodeName → Key → Option Outgoing). record v { tables = w.tables; entity = w.entity; slot = w.slot; queue = w.queue; attached = w.attached; outgoing = x }) o
    ∙ ap (λ (x : NodeName → Key → Option Incoming). record v {
      tables = w.tables;
      entity = w.entity;
      slot = w.slot;
      queue = w.queue;
      attached = w.attached;
      outgoing = w.outgoing;
      incoming = x;
    }) i
    ∙ ap (λ (x : Remote → Option Plan). record w { plan = x; air = v.air; size = v.size; there = v.there }) p
    ∙ ap (λ (x : List (Option Pdu)). record w { air = x; size = v.size; there = v.there }) r
    ∙ ap (λ (x : Side → PortName → Option SnSize). record w { size = x; there = v.there }) z
    ∙ ap (λ (x : NodeName → Bool). record w { there = x }) h

-- the same nodes are there once one is set
pub there_kept : (c : Chain) (n : Node) (name : NodeName) → is_some (find_node (set_node c n) name) ≡ is_some (find_node c name)
there_kept c n name = elim (cases_node n.name name) [
  | inr ne ↦ ap (λ (o : Option Node). is_some o) (sets_nodes.others c n name ne)
  | inl same ↦ subst (λ (name : NodeName). is_some (find_node (set_node c n) name) ≡ is_some (find_node c name)) same (elim (cases_found (find_node c n.name)) [
    | inl found ↦ ap (λ (o : Option Node). is_some o) (sets_nodes.own c n found.0 found.1) ∙ sym (ap (λ (o : Option Node). is_some o) found.1)
    | inr none ↦ ap (λ (ns : List Node). is_some (find (λ (x : Node). is_node n.name x.name) ns)) (find_none (λ (x : Node). is_node n.name x.name) n c.nodes none)
  ])
]

module _ (c : Chain) (name : NodeName) (port : PortName) (row new : PortSide) (here : side_at (node_at c name) port ≡ Some row) (same_name : new.name ≡ row.name) where
  abbrev pub behind : Chain
  behind = set_node c (set_side (node_at c name) new)

  changes : Changes (λ (m : NodeName) (q : PortName). side_at (node_at c m) q) name port (Some new) (λ (m : NodeName) (q : PortName). side_at (node_at behind m) q)
  changes = one_side_changes c name port row new here same_name

  -- what of a side the new one shows as the old one did, all show as before
  pub part_kept : {X : Type 0} (part : Option PortSide → X) → part (Some new) ≡ part (Some row) → (m : NodeName) (q : PortName)
      → part (side_at (node_at behind m) q) ≡ part (side_at (node_at c m) q)
  part_kept part same m q = elim (cases_both of_node of_port name m port q) [
    | inl is ↦ subst (λ (m : NodeName). part (side_at (node_at behind m) q) ≡ part (side_at (node_at c m) q)) (sym is.0)
        (subst (λ (q : PortName). part (side_at (node_at behind name) q) ≡ part (side_at (node_at c name) q)) (sym is.1) (ap part changes.here ∙ same ∙ ap part (sym here)))
    | inr ne ↦ ap part (changes.others m q ne)
  ]

  -- what the new one shows, and all others as before
  pub part_set : {X : Type 0} (part : Option PortSide → X) (x : X) → part (Some new) ≡ x → (q : PortName)
      → part (side_at (node_at behind name) q) ≡ put is_port (λ (q : PortName). part (side_at (node_at c name) q)) port x q
  part_set part x is q = elim (cases_same of_port q port) [
    | inl e ↦ ap (λ (q : PortName). part (side_at (node_at behind name) q)) e ∙ ap part changes.here ∙ is
        ∙ sym (ap (put is_port (λ (q : PortName). part (side_at (node_at c name) q)) port x) e ∙ put_same of_port (λ (q : PortName). part (side_at (node_at c name) q)) port x)
    | inr ne ↦ ap part (changes.others name q (λ p. ne p.1)) ∙ sym (put_other of_port (λ (q : PortName). part (side_at (node_at c name) q)) port x q ne)
  ]

  -- what sides don't tell is as before
  pub rest_kept : {X : Type 0} (part : Node → X) → part (set_side (node_at c name) new) ≡ part (node_at c name) → (m : NodeName) → part (node_at behind m) ≡ part (node_at c m)
  rest_kept part same m = with_row c name part (set_side (node_at c name) new) refl same m

-- the entity of a side that is set
pub entities_set : (c : Chain) (at : Side) (port : PortName) (row new : PortSide) (here : side_at (node_at c (owner at port)) port ≡ Some row) (same_name : new.name ≡ row.name)
    → (b : Side) (q : PortName) → entity_on (behind c (owner at port) port row new here same_name) b q ≡ put_at is_side is_port (entity_on c) at port new.entity b q
entities_set c at port row new here same_name b q =
    sym (at_all of_side of_port (entity_on c) at port new.entity (λ b q x. x ≡ entity_on (behind c (owner at port) port row new here same_name) b q)
    (sym (ap (option_and_then entity_of) ch.here))
    (λ b q ne. sym (ap (option_and_then entity_of) (ch.others (owner b q) q (λ p. ne (owner_side b at port (ap (owner b) (sym p.1) ∙ p.0), p.1))))) b q)
  where
    ch : Changes (λ (m : NodeName) (q : PortName). side_at (node_at c m) q) (owner at port) port (Some new)
        (λ (m : NodeName) (q : PortName). side_at (node_at (behind c (owner at port) port row new here same_name) m) q)
    ch = one_side_changes c (owner at port) port row new here same_name

-- a side has a new entity alone
pub entity_set : (c : Chain) (at : Side) (port : PortName) (row : PortSide) → side_at (node_at c (owner at port)) port ≡ Some row → (e : Entity)
    → view (set_node c (set_entity (node_at c (owner at port)) row e)) ≡ record (view c) { entity = put_at is_side is_port (entity_on c) at port (Some e) }
entity_set c at port row here e =
    let new : PortSide = record row { entity = Some e } in
    let name = owner at port in
    view_is (view (set_node c (set_entity (node_at c name) row e))) (record (view c) { entity = put_at is_side is_port (entity_on c) at port (Some e) }) refl
    (fun_ext (λ b. fun_ext (λ q. entities_set c at port row new here refl b q)))
    (fun_ext (λ q. part_kept c name port row new here refl (option_and_then slot_of) refl AtRelay q))
    (fun_ext (λ q. part_kept c name port row new here refl (λ (o : Option PortSide). unwrap_or (option_map queue_of o) []) refl AtRelay q))
    (fun_ext (λ m. rest_kept c name port row new here refl (λ (n : Node). n.attached) refl m))
    (fun_ext (λ m. rest_kept c name port row new here refl outgoing_at refl m))
    (fun_ext (λ m. rest_kept c name port row new here refl incoming_at refl m))
    refl refl (fun_ext (λ b. fun_ext (λ q. part_kept c name port row new here refl (option_map side_size) refl (owner b q) q)))
    (fun_ext (λ m. there_kept c (set_entity (node_at c name) row e) m))

-- a side at the relay is set whose entity stays
pub relay_side_set : (c : Chain) (port : PortName) (row new : PortSide) → side_at (node_at c AtRelay) port ≡ Some row → new.name ≡ row.name → new.size ≡ row.size
    → new.entity ≡ row.entity
    → view (set_node c (set_side (node_at c AtRelay) new)) ≡ record (view c) {
      slot = put is_port (slot_at (node_at c AtRelay)) port new.slot;
      queue =
          put is_port (queue_at (node_at c AtRelay)) port new.queue;
    }
relay_side_set c port row new here same_name same_size same =
    view_is (view (set_node c (set_side (node_at c AtRelay) new)))
    (record (view c) { slot = put is_port (slot_at (node_at c AtRelay)) port new.slot; queue = put is_port (queue_at (node_at c AtRelay)) port new.queue }) refl
    (fun_ext (λ b. fun_ext (λ q. part_kept c AtRelay port row new here same_name (option_and_then entity_of) same (owner b q) q)))
    (fun_ext (λ q. part_set c AtRelay port row new here same_name (option_and_then slot_of) new.slot refl q))
    (fun_ext (λ q. part_set c AtRelay port row new here same_name (λ (o : Option PortSide). unwrap_or (option_map queue_of o) []) new.queue refl q))
    (fun_ext (λ m. rest_kept c AtRelay port row new here same_name (λ (n : Node). n.attached) refl m))
    (fun_ext (λ m. rest_kept c AtRelay port row new here same_name outgoing_at refl m))
    (fun_ext (λ m. rest_kept c AtRelay port row new here same_name incoming_at refl m))
    refl refl (fun_ext (λ b. fun_ext (λ q. part_kept c AtRelay port row new here same_name (option_map side_size) (ap
    (λ (z : SnSize). Some z) same_size) (owner b q) q))) (fun_ext (λ m. there_kept c (set_side (node_at c AtRelay) new) m))

-- a side at the relay is set
pub relay_set : (c : Chain) (at : Side) (port : PortName) (row new : PortSide) → owner at port ≡ AtRelay → side_at (node_at c AtRelay) port ≡ Some row → new.name ≡ row.name
    → new.size ≡ row.size → view (set_node c (set_side (node_at c AtRelay) new))
    ≡ record (view c) {
      entity = put_at is_side is_port (entity_on c) at port new.entity;
      slot = put is_port (slot_at (node_at c AtRelay)) port new.slot;
      queue =
          put is_port (queue_at (node_at c AtRelay)) port new.queue;
    }
relay_set c at port row new relay here same_name same_size =
    view_is (view (set_node c (set_side (node_at c AtRelay) new)))
    (record (view c) {
      entity = put_at is_side is_port (entity_on c) at port new.entity;
      slot = put is_port (slot_at (node_at c AtRelay)) port new.slot;
      queue =
          put is_port (queue_at (node_at c AtRelay)) port new.queue;
    }) refl
    (fun_ext (λ b. fun_ext (λ q. entities b q)))
    (fun_ext (λ q. part_set c AtRelay port row new here same_name (option_and_then slot_of) new.slot refl q))
    (fun_ext (λ q. part_set c AtRelay port row new here same_name (λ (o : Option PortSide). unwrap_or (option_map queue_of o) []) new.queue refl q))
    (fun_ext (λ m. rest_kept c AtRelay port row new here same_name (λ (n : Node). n.attached) refl m))
    (fun_ext (λ m. rest_kept c AtRelay port row new here same_name outgoing_at refl m))
    (fun_ext (λ m. rest_kept c AtRelay port row new here same_name incoming_at refl m))
    refl refl (fun_ext (λ b. fun_ext (λ q. part_kept c AtRelay port row new here same_name (option_map side_size) (ap
    (λ (z : SnSize). Some z) same_size) (owner b q) q))) (fun_ext (λ m. there_kept c (set_side (node_at c AtRelay) new) m))
  where
    there : side_at (node_at c (owner at port)) port ≡ Some row
    there = ap (λ (m : NodeName). side_at (node_at c m) port) relay ∙ here

    entities : (b : Side) (q : PortName) → entity_on (set_node c (set_side (node_at c AtRelay) new)) b q ≡ put_at is_side is_port (entity_on c) at port new.entity b q
    entities b q = ap (λ (m : NodeName). entity_on (set_node c (set_side (node_at c m) new)) b q) (sym relay) ∙ entities_set c at port row new there same_name b q

-- a node with an end of a key is in the chain
out_there : (c : Chain) (name : NodeName) (key : Key) (o : Outgoing) → outgoing_at (node_at c name) key ≡ Some o → (n : Node) × (find_node c name ≡ Some n)
out_there c name key o e = elim (cases_found (find_node c name)) [
  | inl found ↦ found
  | inr none ↦ absurd (none-some o (sym (ap (λ (x : Option Node). outgoing_at (unwrap_or x (no_node name)) key) none) ∙ e))
]

in_there : (c : Chain) (name : NodeName) (key : Key) (i : Incoming) → incoming_at (node_at c name) key ≡ Some i → (n : Node) × (find_node c name ≡ Some n)
in_there c name key i e = elim (cases_found (find_node c name)) [
  | inl found ↦ found
  | inr none ↦ absurd (none-some i (sym (ap (λ (x : Option Node). incoming_at (unwrap_or x (no_node name)) key) none) ∙ e))
]

module _ (c : Chain) (name : NodeName) (o was : Outgoing) (here : outgoing_at (node_at c name) o.key ≡ Some was) where
  abbrev new_out : Node
  new_out = set_outgoing (node_at c name) o

  pub outgoing_set : view (set_node c new_out) ≡ record (view c) { outgoing = put_at is_node is_key (view c).outgoing name o.key (Some o) }
  outgoing_set =
      view_is (view (set_node c new_out)) (record (view c) { outgoing = put_at is_node is_key (view c).outgoing name o.key (Some o) }) refl
      (fun_ext (λ b. fun_ext (λ q. with_row c name (λ (n : Node). entity_at n q) new_out refl refl (owner b q))))
      (fun_ext (λ q. with_row c name (λ (n : Node). slot_at n q) new_out refl refl AtRelay))
      (fun_ext (λ q. with_row c name (λ (n : Node). queue_at n q) new_out refl refl AtRelay))
      (fun_ext (λ m. with_row c name (λ (n : Node). n.attached) new_out refl refl m))
      (fun_ext (λ m. fun_ext (λ k. sym (at_all of_node of_key (view c).outgoing name o.key (Some o)
      (λ m k x. x ≡ outgoing_at (node_at (set_node c new_out) m) k) new others m k))))
      (fun_ext (λ m. with_row c name incoming_at new_out refl refl m))
      refl refl (fun_ext (λ b. fun_ext (λ q. with_row c name (λ (n : Node). option_map side_size (side_at n q)) new_out refl refl (owner b q))))
      (fun_ext (λ m. there_kept c new_out m))
    where
      there : (n : Node) × (find_node c name ≡ Some n)
      there = out_there c name o.key was here

      set_there : node_at (set_node c new_out) name ≡ new_out
      set_there = set_here c name new_out there.0 refl there.1

      new : Some o ≡ outgoing_at (node_at (set_node c new_out) name) o.key
      new = sym (ap (λ (n : Node). outgoing_at n o.key) set_there ∙ out_own (node_at c name) o was o.key refl here)

      others : (m : NodeName) (k : Key) → ((m ≡ name) × (k ≡ o.key) → ⊥) → outgoing_at (node_at c m) k ≡ outgoing_at (node_at (set_node c new_out) m) k
      others m k ne = elim (cases_same of_key k o.key) [
        | inr apart ↦ sym (with_row c name (λ (n : Node). outgoing_at n k) new_out refl (out_others (node_at c name) o k (λ e. apart (sym e))) m)
        | inl same ↦ sym (ap (λ (n : Node). outgoing_at n k) (node_kept c name new_out (node_name c name) m (λ e. ne (e, same))))
      ]

module _ (c : Chain) (name : NodeName) (i was : Incoming) (here : incoming_at (node_at c name) i.key ≡ Some was) where
  abbrev new_in : Node
  new_in = set_incoming (node_at c name) i

  pub incoming_set : view (set_node c new_in) ≡ record (view c) { incoming = put_at is_node is_key (view c).incoming name i.key (Some i) }
  incoming_set =
      view_is (view (set_node c new_in)) (record (view c) { incoming = put_at is_node is_key (view c).incoming name i.key (Some i) }) refl
      (fun_ext (λ b. fun_ext (λ q. with_row c name (λ (n : Node). entity_at n q) new_in refl refl (owner b q))))
      (fun_ext (λ q. with_row c name (λ (n : Node). slot_at n q) new_in refl refl AtRelay))
      (fun_ext (λ q. with_row c name (λ (n : Node). queue_at n q) new_in refl refl AtRelay))
      (fun_ext (λ m. with_row c name (λ (n : Node). n.attached) new_in refl refl m))
      (fun_ext (λ m. with_row c name outgoing_at new_in refl refl m))
      (fun_ext (λ m. fun_ext (λ k. sym (at_all of_node of_key (view c).incoming name i.key (Some i)
      (λ m k x. x ≡ incoming_at (node_at (set_node c new_in) m) k) new others m k))))
      refl refl (fun_ext (λ b. fun_ext (λ q. with_row c name (λ (n : Node). option_map side_size (side_at n q)) new_in refl refl (owner b q))))
      (fun_ext (λ m. there_kept c new_in m))
    where
      there : (n : Node) × (find_node c name ≡ Some n)
      there = in_there c name i.key was here

      set_there : node_at (set_node c new_in) name ≡ new_in
      set_there = set_here c name new_in there.0 refl there.1

      new : Some i ≡ incoming_at (node_at (set_node c new_in) name) i.key
      new = sym (ap (λ (n : Node). incoming_at n i.key) set_there ∙ in_own (node_at c name) i was i.key refl here)

      others : (m : NodeName) (k : Key) → ((m ≡ name) × (k ≡ i.key) → ⊥) → incoming_at (node_at c m) k ≡ incoming_at (node_at (set_node c new_in) m) k
      others m k ne = elim (cases_same of_key k i.key) [
        | inr apart ↦ sym (with_row c name (λ (n : Node). incoming_at n k) new_in refl (in_others (node_at c name) i k (λ e. apart (sym e))) m)
        | inl same ↦ sym (ap (λ (n : Node). incoming_at n k) (node_kept c name new_in (node_name c name) m (λ e. ne (e, same))))
      ]

pub same_node : (c : Chain) (name : NodeName) → view (set_node c (node_at c name)) ≡ view c
same_node c name =
    view_is (view (set_node c (node_at c name))) (view c) refl
    (fun_ext (λ b. fun_ext (λ q. with_row c name (λ (n : Node). entity_at n q) (node_at c name) refl refl (owner b q))))
    (fun_ext (λ q. with_row c name (λ (n : Node). slot_at n q) (node_at c name) refl refl AtRelay))
    (fun_ext (λ q. with_row c name (λ (n : Node). queue_at n q) (node_at c name) refl refl AtRelay))
    (fun_ext (λ m. with_row c name (λ (n : Node). n.attached) (node_at c name) refl refl m))
    (fun_ext (λ m. with_row c name outgoing_at (node_at c name) refl refl m))
    (fun_ext (λ m. with_row c name incoming_at (node_at c name) refl refl m))
    refl refl (fun_ext (λ b. fun_ext (λ q. with_row c name (λ (n : Node). option_map side_size (side_at n q)) (node_at c name) refl refl (owner b q))))
    (fun_ext (λ m. there_kept c (node_at c name) m))

replaced_twice : {T : Type 0} (test : T → Bool) (a b : T) → test a ≡ true → (xs : List T) → replaced test b (replaced test a xs) ≡ replaced test b xs
replaced_twice test a b is [] = refl
replaced_twice test a b is (x ∷ xs) = elim (cases_Bool (test x)) [
  | inl p ↦ ap (λ (y : _). cond (test y) b y ∷ replaced test b (replaced test a xs)) (cond-true (test x) a x p)
      ∙ ap (λ (y : _). y ∷ replaced test b (replaced test a xs)) (cond-true (test a) b a is ∙ sym (cond-true (test x) b x p))
      ∙ ap (λ ys. cond (test x) b x ∷ ys) (replaced_twice test a b is xs)
  | inr n ↦ ap (λ (y : _). cond (test y) b y ∷ replaced test b (replaced test a xs)) (cond-false (test x) a x n) ∙ ap (λ ys. cond (test x) b x ∷ ys) (replaced_twice test a b is xs)
]

pub set_twice : (c : Chain) (a b : Node) → a.name ≡ b.name → set_node (set_node c a) b ≡ set_node c b
set_twice c a b same = ap (λ (ns : List Node). record c { nodes = ns })
    (ap (λ (m : NodeName). replaced (λ (x : Node). is_node b.name x.name) b (replaced (λ (x : Node). is_node m x.name) a c.nodes)) same
    ∙ replaced_twice (λ (x : Node). is_node b.name x.name) a b (ap (is_node b.name) same ∙ node_refl b.name) c.nodes)

pub side_twice : (n : Node) (a b : PortSide) → a.name ≡ b.name → set_side (set_side n a) b ≡ set_side n b
side_twice n a b same = ap (λ (ps : List PortSide). record n { ports = ps })
    (ap (λ (m : PortName). replaced (λ (x : PortSide). is_port b.name x.name) b (replaced (λ (x : PortSide). is_port m x.name) a n.ports)) same
    ∙ replaced_twice (λ (x : PortSide). is_port b.name x.name) a b (ap (is_port b.name) same ∙ port_refl b.name) n.ports)

-- a node with a side of a port is found again behind it is set
pub node_behind : (c : Chain) (name : NodeName) (n : Node) (port : PortName) (row : PortSide) → side_at (node_at c name) port ≡ Some row → n.name ≡ name
    → node_at (set_node c n) name ≡ n
node_behind c name n port row here is = node_set c name n is (node_at c name) (node_there c name port row here)

module _ (c : Chain) (at : Side) (port : PortName) (side : PortSide) (here : side_at (node_at c (owner at port)) port ≡ Some side) (x : Entity) where
  abbrev its_node : Node
  its_node = node_at c (owner at port)

  abbrev opened : Node
  opened = set_entity its_node side x

  abbrev once : Chain
  once = set_node c opened

  is_opened : node_at once (owner at port) ≡ opened
  is_opened = node_behind c (owner at port) opened port side here (node_name c (owner at port))

  pub both_in : (i was : Incoming) → incoming_at its_node i.key ≡ Some was
      → view (set_node c (set_incoming opened i))
      ≡ record (view c) { entity = put_at is_side is_port (entity_on c) at port (Some x); incoming = put_at is_node is_key (view c).incoming (owner at port) i.key (Some i) }
  both_in i was has =
      ap view (sym (set_twice c opened (set_incoming opened i) refl))
      ∙ ap (λ (n : Node). view (set_node once (set_incoming n i))) (sym is_opened)
      ∙ incoming_set once (owner at port) i was (ap (λ (n : Node). incoming_at n i.key) is_opened ∙ has)
      ∙ ap (λ (w : View). record w { incoming = put_at is_node is_key w.incoming (owner at port) i.key (Some i) }) (entity_set c at port side here x)

  pub both_out : (o was : Outgoing) → outgoing_at its_node o.key ≡ Some was
      → view (set_node c (set_outgoing opened o))
      ≡ record (view c) { entity = put_at is_side is_port (entity_on c) at port (Some x); outgoing = put_at is_node is_key (view c).outgoing (owner at port) o.key (Some o) }
  both_out o was has =
      ap view (sym (set_twice c opened (set_outgoing opened o) refl))
      ∙ ap (λ (n : Node). view (set_node once (set_outgoing n o))) (sym is_opened)
      ∙ outgoing_set once (owner at port) o was (ap (λ (n : Node). outgoing_at n o.key) is_opened ∙ has)
      ∙ ap (λ (w : View). record w { outgoing = put_at is_node is_key w.outgoing (owner at port) o.key (Some o) }) (entity_set c at port side here x)
