-- Each line but an apply leaves each node standing as it was.
use Rattle.std.proofs.Common.{◌≡◌, inl, inr, ℕ, Bool, true, false, cond, List, [], ◌∷◌, map, find, Option, Some, None, option_map, option_and_then, refl, sym, ◌∙◌, ap, subst}
use Rattle.std.specs.List.{AllZip}
use Rattle.std.specs.Option.{unwrap_or}
use Rattle.std.proofs.lemmas.Bool.{cases_Bool, cond-true, cond-false, true≢false}
use Rattle.std.proofs.lemmas.Option.{none-some}
use Rattle.link_base.specs.declared.names.Key.{Key}
use Rattle.link_base.specs.declared.names.PortName.{PortName}
use Rattle.link_base.specs.declared.names.Way.{Way}
use Rattle.rlc_model.specs.declared.hop.Pdu.{Pdu}
use Rattle.rlc_model.specs.declared.hop.HopGrant.{HopGrant}
use Rattle.rlc_model.specs.declared.hop.HopGrant.TheVariants as grants
use Rattle.rlc_model.specs.Hop.{on_air}
use Rattle.rlc_model.specs.Sides.{Entity, hearer_of, sender_of}
use Rattle.pdcp_model.specs.declared.answers.SubmitFault.{SubmitFault}
use Rattle.pdcp_model.specs.Sender.{submit_fault}
use Rattle.script_text.specs.declared.line.Line.{Line}
use Rattle.script_text.specs.declared.line.Line.TheVariants.{Submit, Grant, Deliver, Repeat, Lose, Stage, Expire, Push, Pull, Burst, Report, Plan as PlanLine, Apply}
use Rattle.script_text.specs.declared.event.Event.{Event}
use Rattle.script_text.specs.declared.reply.Reply.{Reply}
use Rattle.node_model.specs.declared.parcel.Parcel.{Parcel}
use Rattle.node_model.specs.Names.{NodeName, AtRelay, is_node, is_port, owner, source, sink}
use Rattle.node_model.specs.State.{PortSide, Node, side_at, entity_of, no_node, set_side}
use Rattle.node_model.proofs.ByName.{sides_set}
use Rattle.node_model.proofs.Names.{port_refl}
use Rattle.chain_model.specs.State.{Chain, node_at, set_node, sender_at}
use Rattle.chain_model.specs.Bursts.{inbox, with_side, Treats, Ingests, ends, stops, pushes, hears, Ingress, Egress, GivesAll, Emits, behind_ingress, behind_egress, all_put, Bursts}
use Rattle.chain_model.specs.Lines.{Unless, submit_refusal, Submits, grant_refusal, Sends, Granted, is_handed_over, Comes, Delivers, without, Loses, stage_refusal, Stages, expire_refusal, Expires, report_refusal, Wants, plan_refusal, Plans, queue_capacity}
use Rattle.chain_model.specs.Places.{find_node}
use Rattle.chain_model.specs.Steps.{Does, FeedsAll}
use Rattle.chain_model.proofs.Lookups.{cases_found, sets_nodes, view_same, set_here}
use Rattle.heard_law.proofs.Standing.{Standing, standing, epoch_of, Stays, ends_stay, SameSide, sides_stay, hears_stays, grants_stays, expires_stays, push_stays, pull_stays, feeds_stays}

abbrev pub nodes_of : Chain → List Node
nodes_of c = c.nodes

-- each node stands as before
abbrev pub Still : Chain → Chain → Type 0
Still old new = (q : PortName) (x : NodeName) → standing q (node_at new x) ≡ standing q (node_at old x)

pub still_same : (old new : Chain) → new.nodes ≡ old.nodes → Still old new
still_same old new nodes q x = ap (λ (ns : List Node). standing q (unwrap_or (find (λ (n : Node). is_node x n.name) ns) (no_node x))) nodes

pub still_on : (a b c : Chain) → Still a b → Still b c → Still a c
still_on a b c first second q x = second q x ∙ first q x

-- a node is set that stands as before
pub still_set : (c : Chain) (name : NodeName) (m : Node) → Stays (node_at c name) m → Still c (set_node c m)
still_set c name m s q x = view_same (standing q) c m (s.stands q ∙ ap (λ (y : NodeName). standing q (node_at c y)) (sym (s.name ∙ sets_nodes.named c name))) x

-- nodes that were changed but for their standing
pub still_map : (c : Chain) (change : Node → Node) → ((n : Node) → Stays n (change n)) → Still c (record c { nodes = map change c.nodes })
still_map c change stays q x = by c.nodes
  where
    by : (ns : List Node) → standing q (unwrap_or (find (λ (n : Node). is_node x n.name) (map change ns)) (no_node x)) ≡ standing q (unwrap_or (find (λ (n : Node). is_node x n.name) ns) (no_node x))
    by [] = refl
    by (n ∷ ns) = elim (cases_Bool (is_node x n.name)) [
      | inl p ↦ ap (λ (o : Option Node). standing q (unwrap_or o (no_node x))) (cond-true (is_node x (change n).name) (Some (change n)) _ (ap (is_node x) (stays n).name ∙ p))
          ∙ (stays n).stands q ∙ sym (ap (λ (o : Option Node). standing q (unwrap_or o (no_node x))) (cond-true (is_node x n.name) (Some n) _ p))
      | inr f ↦ ap (λ (o : Option Node). standing q (unwrap_or o (no_node x))) (cond-false (is_node x (change n).name) (Some (change n)) _ (ap (is_node x) (stays n).name ∙ f))
          ∙ by ns ∙ sym (ap (λ (o : Option Node). standing q (unwrap_or o (no_node x))) (cond-false (is_node x n.name) (Some n) _ f))
    ]

-- all nodes feed
pub still_fed : (c : Chain) (given : List Key) (nodes : List Node) → FeedsAll c.tables c.nodes given nodes → Still c (record c { nodes = nodes })
still_fed c given nodes f q x = by c.nodes given nodes f
  where
    by : (ns : List Node) (given : List Key) (ms : List Node) → FeedsAll c.tables ns given ms
        → standing q (unwrap_or (find (λ (n : Node). is_node x n.name) ms) (no_node x)) ≡ standing q (unwrap_or (find (λ (n : Node). is_node x n.name) ns) (no_node x))
    by [] given ms f = ap (λ (l : List Node). standing q (unwrap_or (find (λ (n : Node). is_node x n.name) l) (no_node x))) f.1
    by (n ∷ ns) given ms (m, rest, first, more, one, others, are, is) =
        ap (λ (l : List Node). standing q (unwrap_or (find (λ (n : Node). is_node x n.name) l) (no_node x))) is ∙ elim (cases_Bool (is_node x n.name)) [
          | inl p ↦ ap (λ (o : Option Node). standing q (unwrap_or o (no_node x))) (cond-true (is_node x m.name) (Some m) _ (ap (is_node x) s.name ∙ p))
              ∙ s.stands q ∙ sym (ap (λ (o : Option Node). standing q (unwrap_or o (no_node x))) (cond-true (is_node x n.name) (Some n) _ p))
          | inr no_match ↦ ap (λ (o : Option Node). standing q (unwrap_or o (no_node x))) (cond-false (is_node x m.name) (Some m) _ (ap (is_node x) s.name ∙ no_match))
              ∙ by ns more rest others ∙ sym (ap (λ (o : Option Node). standing q (unwrap_or o (no_node x))) (cond-false (is_node x n.name) (Some n) _ no_match))
        ]
      where
        s : Stays n m
        s = feeds_stays c.tables n first m one

-- a PDU comes to its node
pub comes_still : (old : Chain) (pdu : Pdu) (events : List Event) (reply : Reply) (new : Chain) (behind : Chain → Chain) → ((c : Chain) → (behind c).nodes ≡ c.nodes)
    → Comes old pdu events reply new behind → Still old new
comes_still old pdu events reply new behind nodes c = subst (Still old) (sym c.is) (by (is_handed_over c.answer))
  where
    name : NodeName
    name = owner (hearer_of pdu.way) pdu.port

    by : (b : Bool) → Still old (cond b (behind (set_node old c.node)) old)
    by true = still_on old (set_node old c.node) (behind (set_node old c.node)) (still_set old name c.node (hears_stays old.tables (node_at old name) (hearer_of pdu.way) pdu c.answer c.node c.hears))
        (still_same (set_node old c.node) (behind (set_node old c.node)) (nodes (set_node old c.node)))
    by false = still_same old old refl

-- a burst: each port of the relay keeps its name, and is open in the epoch in which it was
module _ (c : Chain) where
  abbrev relay : Node
  relay = node_at c AtRelay

  -- the relay has a side of this name
  abbrev Has : PortSide → Type 0
  Has s = (was : PortSide) × (side_at relay s.name ≡ Some was)

  -- the relay with this side is found with it
  with_side_found : (side : PortSide) → Has side → side_at (node_at (with_side c side) AtRelay) side.name ≡ Some side
  with_side_found side has = elim (cases_found (find_node c AtRelay)) [
    | inl found ↦ ap (λ (n : Node). side_at n side.name) (set_here c AtRelay (set_side relay side) found.0 refl found.1) ∙ sides_set.own relay.ports side has.0 has.1
    | inr none ↦ absurd (none-some has.0 (sym (ap (λ (o : Option Node). side_at (unwrap_or o (no_node AtRelay)) side.name) none) ∙ has.1))
  ]

  treats_same : (pdu : Pdu) (side : PortSide) (reply : Reply) (new : PortSide) → Has side → Treats c pdu side reply new → SameSide side new
  treats_same pdu side reply new has t = record {
    name = sides_set.named (node_at t.1 AtRelay).ports side.name new t.3;
    epoch = ap (λ (o : Option PortSide). option_map epoch_of (option_and_then entity_of o)) (sym t.3)
        ∙ ap (λ (s : Standing). s.epoch) (comes_still (with_side c side) pdu t.0 reply t.1 (λ d. d) (λ d. refl) t.2 side.name AtRelay)
        ∙ ap (λ (o : Option PortSide). option_map epoch_of (option_and_then entity_of o)) (with_side_found side has);
  }

  ingests_same : {side new : PortSide} {tickets left : List ℕ} {heard : List Event} {put : List Parcel} → Has side → Ingests c side tickets heard put left new → SameSide side new
  ingests_same has (ends none) = record { name = refl; epoch = refl }
  ingests_same has (stops full) = record { name = refl; epoch = refl }
  ingests_same {side} {new} has (pushes parcel full more) = let s = ingests_same {side = record side { slot = None }} {new = new} has more in record { name = s.name; epoch = s.epoch }
  ingests_same {side} {new} has (hears {mid = mid} ticket pdu reply none on treats more) =
      let first = treats_same pdu side reply mid has treats in
      let rest = ingests_same {side = mid} {new = new} (has.0, ap (side_at relay) first.name ∙ has.1) more in
      record { name = rest.name ∙ first.name; epoch = rest.epoch ∙ first.epoch }

  emits_same : (cap : ℕ) (put : List Parcel) (side : PortSide) (e : Egress) → Emits cap put side e → SameSide side e.behind
  emits_same cap put side e x = record { name = ap (λ (s : PortSide). s.name) x.is; epoch = by side.entity x.gives }
    where
      by : (o : Option Entity) → GivesAll o e.taken e.behind.entity → option_map epoch_of e.behind.entity ≡ option_map epoch_of o
      by None g = ap (option_map epoch_of) g.1
      by (Some entity) g = ap (option_map epoch_of) g.2

  -- each port of a list is found under its name
  abbrev AllFound : List PortSide → Type 0
  AllFound [] = Unit {0}
  AllFound (s ∷ ss) = Has s × AllFound ss

  found_more : (s : PortSide) (ss : List PortSide) (q : PortName) → (was : PortSide) × (find (λ (x : PortSide). is_port q x.name) ss ≡ Some was)
      → (was : PortSide) × (find (λ (x : PortSide). is_port q x.name) (s ∷ ss) ≡ Some was)
  found_more s ss q found = elim (cases_Bool (is_port q s.name)) [
    | inl p ↦ (s, cond-true (is_port q s.name) (Some s) _ p)
    | inr f ↦ (found.0, cond-false (is_port q s.name) (Some s) _ f ∙ found.1)
  ]

  -- what is found in the ports of the relay
  all_found : (ports : List PortSide) → ((q : PortName) → (was : PortSide) × (find (λ (x : PortSide). is_port q x.name) ports ≡ Some was) → (was : PortSide) × (side_at relay q ≡ Some was)) → AllFound ports
  all_found [] up = tt
  all_found (s ∷ ss) up = (up s.name (s, cond-true (is_port s.name s.name) (Some s) _ (port_refl s.name)), all_found ss (λ q found. up q (found_more s ss q found)))

  bursts_same : (cap : ℕ) (put : List Parcel) (ports : List PortSide) (ingresses : List Ingress) (egresses : List Egress) → AllFound ports
      → AllZip (λ (side : PortSide) (i : Ingress). Ingests c side (inbox c side.name) i.heard i.put i.left i.behind) ports ingresses
      → AllZip (Emits cap put) (map behind_ingress ingresses) egresses → AllZip SameSide ports (map behind_egress egresses)
  bursts_same cap put [] [] [] all first second = tt
  bursts_same cap put (s ∷ ss) (i ∷ is) (e ∷ es) all first second =
      let a = ingests_same {side = s} {new = i.behind} all.0 first.0 in
      let b = emits_same cap put i.behind e second.0 in
      (record { name = b.name ∙ a.name; epoch = b.epoch ∙ a.epoch }, bursts_same cap put ss is es all.1 first.1 second.1)
  bursts_same cap put [] [] (e ∷ es) all first second = absurd second
  bursts_same cap put [] (i ∷ is) es all first second = absurd first
  bursts_same cap put (s ∷ ss) [] es all first second = absurd first
  bursts_same cap put (s ∷ ss) (i ∷ is) [] all first second = absurd second

  pub bursts_still : (events : List Event) (reply : Reply) (new : Chain) → Bursts c events reply new → Still c new
  bursts_still events reply new b =
      let m = record relay { ports = map behind_egress b.egresses } in
      still_on c (set_node c m) new (still_set c AtRelay m (sides_stay relay (map behind_egress b.egresses)
      (bursts_same (queue_capacity c) (all_put b.ingresses) relay.ports b.ingresses b.egresses (all_found relay.ports (λ q found. found)) b.ingest b.emit)))
      (still_same (set_node c m) new (ap nodes_of b.is))

module _ (old mid : Chain) where
  by_is : (c : Chain) → mid ≡ c → Still old c → Still old mid
  by_is c is still = subst (Still old) (sym is) still

  unless : (refusal : Option Reply) (own : List Event) (reply : Reply) (done : Type 0) → (done → Still old mid) → Unless refusal old own reply mid done → Still old mid
  unless (Some r) own reply done does (shows, says, is) = by_is old is (still_same old old refl)
  unless None own reply done does x = does x

  sends : (port : PortName) (way : Way) (octets epoch : ℕ) (node : Node) → Stays (node_at old (owner (sender_of way) port)) node → (answer : HopGrant) (reply : Reply)
      → Sends old node port way epoch answer reply mid → Still old mid
  sends port way octets epoch node stays (grants.Sent status number bytes) reply s =
      still_on old (set_node old node) mid (still_set old (owner (sender_of way) port) node stays) (still_same (set_node old node) mid (ap nodes_of s.1))
  sends port way octets epoch node stays grants.Idle reply s = by_is old s.1 (still_same old old refl)
  sends port way octets epoch node stays (grants.Small need) reply s = by_is old s.1 (still_same old old refl)

  submits : (fault : Option SubmitFault) (key : Key) (sdu : List ℕ) (own : List Event) (reply : Reply) → Submits fault old key sdu own reply mid → Still old mid
  submits (Some fault) key sdu own reply s = by_is old s.2 (still_same old old refl)
  submits None key sdu own reply s = by_is _ s.2 (still_set old (source key) _ (ends_stay _ _ refl refl refl))

  delivers : (o : Option Pdu) (own : List Event) (reply : Reply) (behind : Chain → Chain) → ((c : Chain) → (behind c).nodes ≡ c.nodes) → Delivers old o own reply mid behind
      → Still old mid
  delivers None own reply behind nodes d = by_is old d.2 (still_same old old refl)
  delivers (Some pdu) own reply behind nodes d = comes_still old pdu own reply mid behind nodes d

  loses : (o : Option Pdu) (ticket : ℕ) (own : List Event) (reply : Reply) → Loses old o ticket own reply mid → Still old mid
  loses None ticket own reply d = by_is old d.2 (still_same old old refl)
  loses (Some pdu) ticket own reply d = by_is (without ticket old) d.2 (still_same old (without ticket old) refl)

  -- a line that isn't an apply
  abbrev pub is_apply : Line → Bool
  is_apply (Apply remote kind) = true
  is_apply line = false

  pub does_still : (line : Line) (own : List Event) (reply : Reply) → is_apply line ≡ false → Does old line own reply mid → Still old mid
  does_still (Submit key sdu) own reply it d = unless (submit_refusal old key) own reply _ (submits (submit_fault (sender_at old key) sdu) key sdu own reply) d
  does_still (Grant port way octets) own reply it d = unless (grant_refusal old port way) own reply (Granted old port way octets own reply mid)
      (λ g. sends port way octets g.epoch g.node (grants_stays (node_at old (owner (sender_of way) port)) port octets g.epoch g.answer g.node g.grants) g.answer reply g.sends) d
  does_still (Deliver ticket) own reply it d = delivers (on_air old.air ticket) own reply (without ticket) (λ c. refl) d
  does_still (Repeat ticket) own reply it d = delivers (on_air old.air ticket) own reply (λ c. c) (λ c. refl) d
  does_still (Lose ticket) own reply it d = loses (on_air old.air ticket) ticket own reply d
  does_still (Stage ticket) own reply it d = unless (stage_refusal (on_air old.air ticket)) own reply (Stages old ticket own reply mid) (λ x. still_same old mid (ap nodes_of x.2)) d
  does_still (Expire port at timer) own reply it d = unless (expire_refusal old port at) own reply (Expires old port at timer own reply mid)
      (λ x. by_is (set_node old x.node) x.is (still_set old (owner at port) x.node (expires_stays (node_at old (owner at port)) port timer x.expired x.node x.expires))) d
  does_still (Push port) own reply it d = by_is (set_node old d.node) d.is (still_set old AtRelay d.node (push_stays (queue_capacity old) (node_at old AtRelay) port d.answer d.node d.pushes))
  does_still (Pull port) own reply it d = by_is (set_node old d.node) d.is (still_set old AtRelay d.node (pull_stays (node_at old AtRelay) port d.answer d.node d.pulls))
  does_still Burst own reply it d = bursts_still old own reply mid d
  does_still (Report key) own reply it d = unless (report_refusal old key) own reply (Wants old key own reply mid) (λ x. by_is _ x.2 (still_set old (sink key) _ (ends_stay _ _ refl refl refl))) d
  does_still (PlanLine remote goal) own reply it d = unless (plan_refusal old remote goal) own reply (Plans old remote goal own reply mid) (λ x. still_same old mid (ap nodes_of x.is)) d
  does_still (Apply remote kind) own reply it d = absurd (true≢false it)
  does_still line own reply it d = absurd d
