-- What a chain shows once a node has applied a plan.
use Rattle.std.proofs.Common.{◌≡◌, inl, inr, ◌&&◌, Bool, true, false, cond, List, map, find, Option, Some, None, is_some, option_map, refl, sym, ◌∙◌, ap}
use Rattle.std.specs.Option.{unwrap_or, option_and_then}
use Rattle.std.proofs.lemmas.Bool.{cases_Bool, cond-true, cond-false, and_from, false≢true, true≢false}
use Rattle.std.proofs.lemmas.Option.{none-some, same_Some}
use Rattle.link_base.specs.declared.names.Key.{Key}
use Rattle.link_base.specs.declared.names.Node.{Node as NodeKind}
use Rattle.link_base.specs.declared.names.PortName.{PortName}
use Rattle.link_base.specs.declared.names.Remote.{Remote}
use Rattle.link_base.specs.declared.names.Side.{Side}
use Rattle.link_base.specs.declared.names.SnSize.{SnSize}
use Rattle.rlc_model.specs.Sides.{Entity}
use Rattle.pdcp_model.specs.Sender.{begins_wait}
use Rattle.node_model.specs.Names.{NodeName, is_key, is_node, is_of, is_port, is_remote, node_of, owner}
use Rattle.node_model.specs.Opening.{new_entity}
use Rattle.node_model.specs.State.{PortSide, Outgoing, Incoming, Node, side_at, entity_of, outgoing_at, incoming_at, no_node}
use Rattle.node_model.specs.Switching.{side_after, outgoing_after, incoming_after, attached_after, node_after, wanting, node_closed}
use Rattle.node_model.specs.Tables.{settings, is_open_on}
use Rattle.node_model.proofs.Finding.{find_map, find_same}
use Rattle.node_model.proofs.Names.{cases_node, node_apart, node_refl}
use Rattle.chain_model.specs.declared.plan.Plan.{Plan}
use Rattle.chain_model.specs.Lines.{closed}
use Rattle.chain_model.specs.Places.{find_node}
use Rattle.chain_model.specs.Plans.{marks}
use Rattle.chain_model.specs.State.{Chain, node_at, set_node, set_plan}
use Rattle.chain_law.proofs.Applying.{start_is}
use Rattle.chain_law.proofs.Chains.{node_name, node_set, node_kept}
use Rattle.chain_law.proofs.Nodes.{side_name}
use Rattle.item_chain.specs.View.{side_size, view}
use Rattle.item_chain.specs.Stands.{Ghost, Stands}
use Rattle.item_chain.proofs.Receives.{some_is}
use Rattle.item_chain.proofs.Reopened.{is_turned, EntityWas, reopened, kept}
use Rattle.item_chain.proofs.Views.{there_kept}

-- what is found of items that were changed, but for what the test sees
find_changed : {T : Type 0} (change : T → T) (test : T → Bool) → ((x : T) → test (change x) ≡ test x) → (xs : List T) → find test (map change xs) ≡ option_map change (find test xs)
find_changed change test same xs = find_map change test xs ∙ ap (option_map change) (find_same (λ x. test (change x)) test same xs)

option_id : {T : Type 0} (o : Option T) → o ≡ option_map (λ (x : T). x) o
option_id None = refl
option_id (Some x) = refl

and_false : (b : Bool) → (b && false) ≡ false
and_false true = refl
and_false false = refl

same_out : (remote : Remote) (o : Outgoing) → (outgoing_after remote o).key ≡ o.key
same_out remote o = by (is_remote remote o.key.remote)
  where
    by : (b : Bool) → (cond b (record o { sender = begins_wait o.sender }) o).key ≡ o.key
    by true = refl
    by false = refl

same_in : (remote : Remote) (i : Incoming) → (incoming_after remote i).key ≡ i.key
same_in remote i = by (is_remote remote i.key.remote)
  where
    by : (b : Bool) → (cond b (record i { wanted = false; held_back = true }) i).key ≡ i.key
    by true = refl
    by false = refl

same_wanting : (remote : Remote) (i : Incoming) → (wanting remote i).key ≡ i.key
same_wanting remote i = by (is_remote remote i.key.remote)
  where
    by : (b : Bool) → (cond b (record i { wanted = true; held_back = false }) i).key ≡ i.key
    by true = refl
    by false = refl

-- a receiving end as the plan closes, or stays open
abbrev pub closing_in : Remote → Bool → Incoming → Incoming
closing_in remote true i = i
closing_in remote false i = wanting remote i

module _ (old : Chain) (remote : Remote) (kind : NodeKind) (plan : Plan) (there : is_some (find_node old (node_of kind remote)) ≡ true) (still : Bool) where
  abbrev pub x : NodeName
  x = node_of kind remote

  abbrev n : Node
  n = node_at old x

  abbrev pub applied : Node
  applied = node_after (settings old.tables) remote plan.goal plan.epoch n

  abbrev pub turned : PortSide → PortSide
  turned = side_after (settings old.tables) remote plan.goal plan.epoch

  abbrev set : Chain
  set = set_plan (set_node old applied) (marks plan kind)

  abbrev pub new : Chain
  new = closed remote still set

  ---- nodes

  abbrev closing : Bool → Node → Node
  closing true y = y
  closing false y = node_closed remote y

  node_new : (y : NodeName) → node_at new y ≡ closing still (node_at set y)
  node_new y = by still
    where
      none_or_some : (o : Option Node) → unwrap_or (option_map (node_closed remote) o) (no_node y) ≡ node_closed remote (unwrap_or o (no_node y))
      none_or_some None = refl
      none_or_some (Some n) = refl

      by : (b : Bool) → node_at (closed remote b set) y ≡ closing b (node_at set y)
      by true = refl
      by false = ap (λ (o : Option Node). unwrap_or o (no_node y)) (find_map (node_closed remote) (λ (n : Node). is_node y n.name) set.nodes)
          ∙ none_or_some (find (λ (n : Node). is_node y n.name) set.nodes)

  node_here : (y : NodeName) → y ≡ x → node_at set y ≡ applied
  node_here y same = let was = some_is (find_node old x) there in ap (node_at set) same ∙ node_set old x applied (node_name old x) was.0 was.1

  node_there : (y : NodeName) → (y ≡ x → ⊥) → node_at set y ≡ node_at old y
  node_there y ne = node_kept old x applied (node_name old x) y ne

  -- what closing doesn't change
  part_new : {T : Type 0} (part : Node → T) → ((n : Node) → part (node_closed remote n) ≡ part n) → (y : NodeName) → part (node_at new y) ≡ part (node_at set y)
  part_new part same y = ap part (node_new y) ∙ by still
    where
      by : (b : Bool) → part (closing b (node_at set y)) ≡ part (node_at set y)
      by true = refl
      by false = same (node_at set y)

  ---- sides

  pub sides_here : (y : NodeName) (q : PortName) → y ≡ x → side_at (node_at new y) q ≡ option_map turned (side_at (node_at old y) q)
  sides_here y q same = part_new (λ (n : Node). side_at n q) (λ n. refl) y ∙ ap (λ (n : Node). side_at n q) (node_here y same)
      ∙ find_map turned (λ (s : PortSide). is_port q s.name) n.ports ∙ ap (λ (y : NodeName). option_map turned (side_at (node_at old y) q)) (sym same)

  pub sides_there : (y : NodeName) (q : PortName) → (y ≡ x → ⊥) → side_at (node_at new y) q ≡ side_at (node_at old y) q
  sides_there y q ne = part_new (λ (n : Node). side_at n q) (λ n. refl) y ∙ ap (λ (n : Node). side_at n q) (node_there y ne)

  -- what of a side is told alike once it is turned, is told of all as before
  pub sides_alike : {T : Type 0} (part : Option PortSide → T) (y : NodeName) (q : PortName) → ((o : Option PortSide) → side_at (node_at old y) q ≡ o
      → part (option_map turned o) ≡ part o)
      → part (side_at (node_at new y) q) ≡ part (side_at (node_at old y) q)
  sides_alike part y q same = elim (cases_node y x) [
    | inl here ↦ ap part (sides_here y q here) ∙ same (side_at (node_at old y) q) refl
    | inr ne ↦ ap part (sides_there y q ne)
  ]

  pub same_size : (at : Side) (name : PortName) → (view new).size at name ≡ (view old).size at name
  same_size at name = sides_alike (option_map side_size) (owner at name) name by
    where
      by : (o : Option PortSide) → side_at (node_at old (owner at name)) name ≡ o → option_map side_size (option_map turned o) ≡ option_map side_size o
      by None is = refl
      by (Some s) is = refl

  -- a side of another port than the remote's own
  pub same_entity : (at : Side) (name : PortName) → is_of remote name ≡ false → (view new).entity at name ≡ (view old).entity at name
  same_entity at name of = sides_alike (option_and_then entity_of) (owner at name) name by
    where
      by : (o : Option PortSide) → side_at (node_at old (owner at name)) name ≡ o → option_and_then entity_of (option_map turned o) ≡ option_and_then entity_of o
      by None is = refl
      by (Some s) is = cond-false (is_of remote s.name) _ s.entity (ap (is_of remote) (sym (side_name (node_at old (owner at name)) name s is)) ∙ of)

  -- so is one at another node
  pub same_unturned : (at : Side) (name : PortName) → is_turned remote x at name ≡ false → (view new).entity at name ≡ (view old).entity at name
  same_unturned at name other = elim (cases_node (owner at name) x) [
    | inr ne ↦ ap (option_and_then entity_of) (sides_there (owner at name) name ne)
    | inl here ↦ same_entity at name (by (is_of remote name) (ap (is_node x) here ∙ node_refl x) other)
  ]
    where
      by : (b : Bool) → is_node x (owner at name) ≡ true → (b && is_node x (owner at name)) ≡ false → b ≡ false
      by true own e = absurd (true≢false (sym own ∙ e))
      by false own e = refl

  -- a side of the remote that is on the plan's path is open
  pub turned_open : (at : Side) (name : PortName) → owner at name ≡ x → is_of remote name ≡ true → is_open_on plan.goal name ≡ true
      → is_some ((view new).size at name) ≡ true
      → is_some ((view new).entity at name) ≡ true
  turned_open at name here of on there = by (side_at (node_at old (owner at name)) name) refl
    where
      row : (view new).entity at name ≡ option_and_then entity_of (option_map turned (side_at (node_at old (owner at name)) name))
      row = ap (option_and_then entity_of) (sides_here (owner at name) name here)

      by : (o : Option PortSide) → side_at (node_at old (owner at name)) name ≡ o → is_some ((view new).entity at name) ≡ true
      by None is = absurd (false≢true (ap (λ (o : Option PortSide). is_some (option_map side_size o)) (sym is)
          ∙ ap (λ (o : Option SnSize). is_some o) (sym (same_size at name)) ∙ there))
      by (Some s) is =
          let its_name : name ≡ s.name = side_name (node_at old (owner at name)) name s is in
          ap (λ (o : Option Entity). is_some o) (row ∙ ap (λ (o : Option PortSide). option_and_then entity_of (option_map turned o)) is
          ∙ cond-true (is_of remote s.name) _ s.entity (ap (is_of remote) (sym its_name) ∙ of)
          ∙ cond-true (is_open_on plan.goal s.name) _ None (ap (is_open_on plan.goal) (sym its_name) ∙ on))

  pub same_there : (y : NodeName) → (view new).there y ≡ (view old).there y
  same_there y = by still ∙ there_kept old applied y
    where
      still_some : (o : Option Node) → is_some (option_map (node_closed remote) o) ≡ is_some o
      still_some None = refl
      still_some (Some n) = refl

      by : (b : Bool) → is_some (find_node (closed remote b set) y) ≡ is_some (find_node set y)
      by true = refl
      by false = ap (λ (o : Option Node). is_some o) (find_map (node_closed remote) (λ (n : Node). is_node y n.name) set.nodes) ∙ still_some (find_node set y)

  -- an open side was opened anew, or is as before
  pub entity_was : (g : Ghost) (st : Stands g (view old)) (at : Side) (name : PortName) (e : Entity) → (view new).entity at name ≡ Some e
      → EntityWas g (view old) st remote x plan.epoch (is_open_on plan.goal) (view new).entity at name e
  entity_was g st at name e is = elim (cases_node (owner at name) x) [
    | inr ne ↦ kept (ap (λ (b : Bool). is_of remote name && b) (node_apart x (owner at name) (λ same. ne (sym same))) ∙ and_false (is_of remote name))
        (sym (ap (option_and_then entity_of) (sides_there (owner at name) name ne)) ∙ is)
    | inl here ↦ go here (side_at (node_at old (owner at name)) name) refl (sym (ap (option_and_then entity_of) (sides_here (owner at name) name here)) ∙ is)
  ]
    where
      Was : Type 0
      Was = EntityWas g (view old) st remote x plan.epoch (is_open_on plan.goal) (view new).entity at name e

      go : owner at name ≡ x → (o : Option PortSide) → side_at (node_at old (owner at name)) name ≡ o → option_and_then entity_of (option_map turned o) ≡ Some e
          → EntityWas g (view old) st remote x plan.epoch (is_open_on plan.goal) (view new).entity at name e
      go here None row is = absurd (none-some e is)
      go here (Some s) row is =
          let its_name : name ≡ s.name = side_name (node_at old (owner at name)) name s row in
          elim (cases_Bool (is_of remote name)) [
            | inr other ↦ kept (ap (λ (b : Bool). b && is_node x (owner at name)) other)
                (ap (option_and_then entity_of) row ∙ sym (cond-false (is_of remote s.name) _ s.entity (ap (is_of remote) (sym its_name) ∙ other)) ∙ is)
            | inl of ↦
                let now : cond (is_open_on plan.goal s.name) (Some (new_entity (settings old.tables) s.size plan.epoch)) None ≡ Some e =
                sym (cond-true (is_of remote s.name) _ s.entity (ap (is_of remote) (sym its_name) ∙ of)) ∙ is in
                elim (cases_Bool (is_open_on plan.goal name)) [
                  | inr shut ↦ absurd (none-some e (sym (cond-false (is_open_on plan.goal s.name) _ None (ap (is_open_on plan.goal) (sym its_name) ∙ shut)) ∙ now))
                  | inl opens ↦ reopened (and_from _ _ of (ap (is_node x) here ∙ node_refl x)) opens
                      (sym (same_Some _ e (sym (cond-true (is_open_on plan.goal s.name) _ None (ap (is_open_on plan.goal) (sym its_name) ∙ opens)) ∙ now))
                      ∙ ap (λ (size : SnSize). new_entity (settings old.tables) size plan.epoch) (st.openings.sizes at name s.size (ap (option_map side_size) row))
                      ∙ start_is old.tables name at plan.epoch)
                ]
          ]

  ---- attachments and ends of keys

  pub attached_here : (y : NodeName) → y ≡ x → (view new).attached y ≡ attached_after remote plan.goal ((view old).attached y)
  attached_here y same = part_new (λ (n : Node). n.attached) (λ n. refl) y ∙ ap (λ (n : Node). n.attached) (node_here y same)
      ∙ ap (λ (y : NodeName). attached_after remote plan.goal (node_at old y).attached) (sym same)

  pub attached_there : (y : NodeName) → (y ≡ x → ⊥) → (view new).attached y ≡ (view old).attached y
  attached_there y ne = part_new (λ (n : Node). n.attached) (λ n. refl) y ∙ ap (λ (n : Node). n.attached) (node_there y ne)

  pub outs_here : (y : NodeName) (key : Key) → y ≡ x → (view new).outgoing y key ≡ option_map (outgoing_after remote) ((view old).outgoing y key)
  outs_here y key same = part_new (λ (n : Node). outgoing_at n key) (λ n. refl) y ∙ ap (λ (n : Node). outgoing_at n key) (node_here y same)
      ∙ find_changed (outgoing_after remote) (λ (o : Outgoing). is_key key o.key) (λ o. ap (is_key key) (same_out remote o)) n.outgoing
      ∙ ap (λ (y : NodeName). option_map (outgoing_after remote) (outgoing_at (node_at old y) key)) (sym same)

  pub outs_there : (y : NodeName) (key : Key) → (y ≡ x → ⊥) → (view new).outgoing y key ≡ (view old).outgoing y key
  outs_there y key ne = part_new (λ (n : Node). outgoing_at n key) (λ n. refl) y ∙ ap (λ (n : Node). outgoing_at n key) (node_there y ne)

  ins_new : (y : NodeName) (key : Key) → (view new).incoming y key ≡ option_map (closing_in remote still) (incoming_at (node_at set y) key)
  ins_new y key = ap (λ (n : Node). incoming_at n key) (node_new y) ∙ by still
    where
      by : (b : Bool) → incoming_at (closing b (node_at set y)) key ≡ option_map (closing_in remote b) (incoming_at (node_at set y) key)
      by true = option_id (incoming_at (node_at set y) key)
      by false = find_changed (wanting remote) (λ (i : Incoming). is_key key i.key) (λ i. ap (is_key key) (same_wanting remote i)) (node_at set y).incoming

  pub ins_here : (y : NodeName) (key : Key) → y ≡ x → (view new).incoming y key ≡ option_map (closing_in remote still) (option_map (incoming_after remote)
      ((view old).incoming y key))
  ins_here y key same = ins_new y key ∙ ap (λ (n : Node). option_map (closing_in remote still) (incoming_at n key)) (node_here y same)
      ∙ ap (option_map (closing_in remote still)) (find_changed (incoming_after remote) (λ (i : Incoming). is_key key i.key) (λ i. ap (is_key key) (same_in remote i)) n.incoming)
      ∙ ap (λ (y : NodeName). option_map (closing_in remote still) (option_map (incoming_after remote) (incoming_at (node_at old y) key))) (sym same)

  pub ins_there : (y : NodeName) (key : Key) → (y ≡ x → ⊥) → (view new).incoming y key ≡ option_map (closing_in remote still) ((view old).incoming y key)
  ins_there y key ne = ins_new y key ∙ ap (λ (n : Node). option_map (closing_in remote still) (incoming_at n key)) (node_there y ne)
