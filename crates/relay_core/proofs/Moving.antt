-- What a step of a port at its place is for the node.
use Rattle.std.proofs.Common.{◌≡◌, ◌≢◌, ℕ, ◌<◌, ◌≤◌, ◌==◌, Bool, true, false, cond, List, [], ◌∷◌, ◌++◌, length, get_or, set, map, nat_le, Option, Some, None, is_some, Result, Ok, Err, refl, sym, ◌∙◌, ap, subst, arith, inl, inr}
use Rattle.std.specs.List.{AllByRecursion}
use Rattle.std.specs.Prelude.{◌^◌, IfSome, is_none, option_and_then, option_map, unwrap_or}
use Rattle.std.proofs.lemmas.Bool.{cond-true, cond-false, true≢false, eq-eqb, ne_eqb, le-leb, leb-false}
use Rattle.std.proofs.lemmas.List.{get_or_default, get_or-set_same}
use Rattle.link_base.specs.declared.discard.Discard.{Discard}
use Rattle.link_base.specs.declared.names.PortName.{PortName}
use Rattle.bearer_map.specs.declared.routes.Route.{Route}
use Rattle.bearer_map.specs.Contents.{Contents}
use Rattle.link_base.specs.declared.names.Side.{Side}
use Rattle.link_base.specs.declared.names.Timer.{Timer}
use Rattle.link_base.specs.declared.rlc_words.Expired.{Expired}
use Rattle.rlc_model.specs.Rx.{Rx, rx_next}
use Rattle.rlc_model.specs.Tx.{Tx, tx_next, room}
use Rattle.rlc_model.specs.Sides.{Entity}
use Rattle.rlc_model.specs.declared.hop.HopHeard.{HopHeard}
use Rattle.rlc_model.specs.declared.hop.Pdu.{Pdu}
use Rattle.node_model.specs.declared.answers.NodeHeard.{NodeHeard}
use Rattle.node_model.specs.declared.answers.NodeHeard.TheVariants.{Slot, Discard as Discarded}
use Rattle.node_model.specs.declared.answers.PortGrant.{PortGrant}
use Rattle.node_model.specs.declared.answers.PullReply.{PullReply}
use Rattle.node_model.specs.declared.answers.PullReply.TheVariants as pulled
use Rattle.node_model.specs.declared.answers.PushReply.{PushReply}
use Rattle.node_model.specs.declared.answers.PushReply.TheVariants as pushed
use Rattle.node_model.specs.declared.parcel.Parcel.{Parcel}
use Rattle.node_model.specs.State.{PortSide, Node, side_at, entity_at, entity_of as its_entity, queue_at, queue_of, set_side}
use Rattle.node_model.specs.Hearing.{HearsPdu, HearsUnless, Follows, hear_refusal, side_refusal, entity_fault}
use Rattle.node_model.specs.Routing.{Onward, Leads}
use Rattle.node_model.specs.Sides.{GrantsPort, ExpiresPort}
use Rattle.node_model.specs.Relaying.{PullsPort, PushesPort, Pushes, pull_refusal, push_refusal, slot_refusal, entity_refusal, queue_refusal}
use Rattle.node_model.proofs.Finding.{each_append}
use Rattle.node_ports.specs.Sides.{GrantsAt, ExpiresAt, HearsAt, is_sent}
use Rattle.node_ports.specs.Table.{rx_of, tx_of}
use Rattle.node_ports.proofs.Steps.{in_epoch, grants, still}
use Rattle.relay_core.specs.declared.ports.IngressPort.{IngressPort}
use Rattle.relay_core.specs.declared.ports.EgressPort.{EgressPort}
use Rattle.relay_core.specs.Ports.{ArePort, ArePorts, GoesOnAs, IsQueued, IsHeardOver, entity_by, entity_of, side_of, sides_of, ingress_name, is_among, relay_side}
use Rattle.relay_core.specs.Calls.{ChangesEntity, PullsAt, CanPull}
use Rattle.relay_core.specs.Routing.{PassesOn}
use Rattle.relay_core.proofs.AtPlace as at
use Rattle.relay_core.proofs.AtPlace.{StandsAt}

-- an entity is there where its transmitting side is
is_there : (rx : Option Rx) (tx : Option Tx) (t : Tx) (epoch : ℕ) → is_some tx ≡ is_some rx → tx ≡ Some t → (r : Rx) × ((u : Tx) → entity_by rx (Some u) epoch ≡ Some (record { tx = u; rx = r; epoch = epoch }))
is_there (Some r) tx t epoch opens is = (r, λ u. refl)
is_there None tx t epoch opens is = absurd (true≢false (sym (ap (λ (x : Option Tx). is_some x) is) ∙ opens))

-- none is there without it
is_closed : (rx : Option Rx) (epoch : ℕ) → entity_by rx None epoch ≡ None
is_closed (Some rx) epoch = refl
is_closed None epoch = refl

-- the halves of an entity
rx_by : (rx : Option Rx) (tx : Option Tx) (epoch : ℕ) → is_some tx ≡ is_some rx → option_map rx_of (entity_by rx tx epoch) ≡ rx
rx_by (Some rx) (Some tx) epoch both = refl
rx_by (Some rx) None epoch both = absurd (true≢false (sym both))
rx_by None tx epoch both = refl

tx_by : (rx : Option Rx) (tx : Option Tx) (epoch : ℕ) → is_some tx ≡ is_some rx → option_map tx_of (entity_by rx tx epoch) ≡ tx
tx_by (Some rx) (Some tx) epoch both = refl
tx_by None (Some tx) epoch both = absurd (true≢false both)
tx_by rx None epoch both = ap (option_map tx_of) (is_closed rx epoch)

pub none_is_none : {T : Type 0} (o : Option T) → is_some o ≡ false → is_none o ≡ true
none_is_none (Some x) is = absurd (true≢false is)
none_is_none None is = refl

pub some_is_not_none : {T : Type 0} (o : Option T) → is_some o ≡ true → is_none o ≡ false
some_is_not_none (Some x) is = refl
some_is_not_none None is = absurd (true≢false (sym is))

-- an entity is there where its receiving side is
pub there_by_rx : (rx : Option Rx) (tx : Option Tx) (epoch : ℕ) → is_some tx ≡ is_some rx → is_none (entity_by rx tx epoch) ≡ is_none rx
there_by_rx (Some rx) (Some tx) epoch opens = refl
there_by_rx (Some rx) None epoch opens = absurd (true≢false (sym opens))
there_by_rx None tx epoch opens = refl

some_is : {T : Type 0} (o : Option T) → is_some o ≡ true → (x : T) × (o ≡ Some x)
some_is (Some x) is = (x, refl)
some_is None is = absurd (true≢false (sym is))

-- a transmitter without room is told where an SDU waits
stalled : (entity : Entity) (parcels : List Parcel) → parcels ≢ [] → room entity.tx ≡ 0 → queue_refusal entity parcels ≡ Some pulled.Stalled
stalled entity [] waits full = absurd (waits refl)
stalled entity (parcel ∷ parcels) waits full = cond-true (room entity.tx == 0) (Some pulled.Stalled) None (eq-eqb (room entity.tx) 0 full)

-- else nothing refuses the pull
not_stalled : (entity : Entity) (parcels : List Parcel) → parcels ≢ [] → 0 < room entity.tx → queue_refusal entity parcels ≡ None
not_stalled entity [] waits has_room = absurd (waits refl)
not_stalled entity (parcel ∷ parcels) waits has_room = cond-false (room entity.tx == 0) (Some pulled.Stalled) None (ne_eqb (room entity.tx) 0 (λ e. omega (arith, e, has_room)))

cons_some : {T : Type 0} (x : T) (xs : List T) → ◌≡◌ {A = List T} (x ∷ xs) [] → ⊥
cons_some x xs e = absurd (omega (arith, ap length e))

module _ {capacity : ℕ} {is : List IngressPort} {es : List EgressPort} {port : PortName} {place : ℕ} {i : IngressPort} {e : EgressPort} (a : StandsAt capacity is es port place i e)
    (n : Node) (same : n.ports ≡ sides_of is es) where
  abbrev side : PortSide
  side = side_of i e

  -- the node with this ingress and this egress at the place
  abbrev with_port : IngressPort → EgressPort → Node
  with_port i' e' = record n { ports = sides_of (set is place i') (set es place e') }

  abbrev with_egress : EgressPort → Node
  with_egress e' = record n { ports = sides_of is (set es place e') }

  found : side_at n port ≡ Some side
  found = at.found a n same

  -- its entity, where it is open
  pub entity_is : entity_at n port ≡ entity_of i e
  entity_is = ap (λ (s : Option PortSide). option_and_then its_entity s) found

  pub rx_is : option_map rx_of (entity_at n port) ≡ i.rx
  rx_is = ap (option_map rx_of) entity_is ∙ rx_by i.rx e.tx i.epoch (at.its_pair a).opens

  pub tx_is : option_map tx_of (entity_at n port) ≡ e.tx
  tx_is = ap (option_map tx_of) entity_is ∙ tx_by i.rx e.tx i.epoch (at.its_pair a).opens

  -- why it doesn't hear a PDU
  pub refusal_is : (pdu : Pdu) → hear_refusal pdu (side_at n port) ≡ side_refusal pdu side (entity_fault pdu (entity_of i e))
  refusal_is pdu = ap (hear_refusal pdu) found

  moved : (i' : IngressPort) (e' : EgressPort) → record n { ports = set (sides_of is es) place (side_of i' e') } ≡ with_port i' e'
  moved i' e' = ap (λ (xs : List PortSide). let m : Node = record n { ports = xs } in m) (sym (at.sets a i' e'))

  -- where the same are set nothing changes
  pub unmoved : with_port i e ≡ n
  unmoved = ap (λ (xs : List IngressPort). let m : Node = record n { ports = sides_of xs (set es place e) } in m) (at.same_ingress a)
      ∙ ap (λ (xs : List EgressPort). let m : Node = record n { ports = sides_of is xs } in m) (at.same_egress a) ∙ ap (λ (xs : List PortSide). let m : Node = record n { ports = xs } in m) (sym same)

  pub grants_port : (octets : ℕ) (answer : PortGrant) (i' : IngressPort) (e' : EgressPort) → GrantsAt side octets answer (side_of i' e') → GrantsPort n port octets answer (with_port i' e')
  grants_port octets answer i' e' g = subst (GrantsPort n port octets answer) (moved i' e')
      (grants n (sides_of is es) port place (at.its_place a) same side (at.side_here a) octets answer (side_of i' e') g)

  pub grants_nothing : (octets : ℕ) (answer : PortGrant) (i' : IngressPort) (e' : EgressPort) → GrantsAt side octets answer (side_of i' e') → is_sent answer ≡ false
      → sides_of (set is place i') (set es place e') ≡ sides_of is es
  grants_nothing octets answer i' e' g none = at.sets a i' e' ∙ still n (sides_of is es) port place (at.its_place a) same side (at.side_here a) octets answer (side_of i' e') g none

  pub expires_port : (timer : Timer) (expired : Option Expired) (i' : IngressPort) (e' : EgressPort) → i'.name ≡ i.name → ExpiresAt side timer expired (side_of i' e') → ExpiresPort n port timer expired (with_port i' e')
  expires_port timer None i' e' kept x =
      (entity_is ∙ x.0, at.sets_side a n same i' e' kept ∙ ap (set_side n) x.1 ∙ sym (at.sets_side a n same i e refl) ∙ unmoved)
  expires_port timer (Some expired) i' e' kept x = record {
    side = side;
    entity = x.entity;
    its = record { here = found; is_open = x.is_open };
    tx = x.behind.tx;
    rx = x.behind.rx;
    expires = x.steps.0;
    is = at.sets_side a n same i' e' kept ∙ ap (set_side n) x.is ∙ ap (λ (y : Entity). set_side n (record side { entity = Some y })) (in_epoch x.entity x.behind x.steps.1);
  }

  -- a PDU that isn't refused is heard
  pub hears_here : (t : Contents) (way : Side) (pdu : Pdu) → pdu.port ≡ port → hear_refusal pdu (side_at n pdu.port) ≡ None → (hop : HopHeard) (i' : IngressPort) (e' : EgressPort) → i'.name ≡ i.name
      → HearsAt side pdu.bytes hop (side_of i' e') → (answer : NodeHeard) (new : Node) → ((s : PortSide) → s ≡ get_or (sides_of (set is place i') (set es place e')) place s → Follows t (with_port i' e') way s hop answer new)
      → HearsPdu t n way pdu answer new
  hears_here t way pdu its none hop i' e' kept x answer new follows =
      let behind : PortSide = record side { entity = Some x.behind } in
      let here' : side_of i' e' ≡ get_or (sides_of (set is place i') (set es place e')) place (side_of i' e') =
      sym (ap (λ (xs : List PortSide). get_or xs place (side_of i' e')) (at.sets a i' e') ∙ get_or-set_same (sides_of is es) place (side_of i' e') (side_of i' e') (at.its_place a).within) in
      let mid : with_port i' e' ≡ set_side n behind = at.sets_side a n same i' e' kept ∙ ap (set_side n) x.is in
      subst (λ (r : Option NodeHeard). HearsUnless r t n way pdu answer new) (sym none) (record {
        side = side;
        entity = x.entity;
        its = record { here = ap (side_at n) its ∙ found; is_open = x.is_open };
        hop = hop;
        tx = x.behind.tx;
        rx = x.behind.rx;
        hears = x.steps.0;
        behind = x.behind;
        its_entity = in_epoch x.entity x.behind x.steps.1;
        follows = subst (λ (m : Node). Follows t m way behind hop answer new) mid (subst (λ (s : PortSide). Follows t (with_port i' e') way s hop answer new) x.is (follows (side_of i' e') here'));
      })

  -- the side at the place is this one
  side_is : (s : PortSide) → s ≡ get_or n.ports place s → s ≡ side
  side_is s at_place = at_place ∙ ap (λ (xs : List PortSide). get_or xs place s) same ∙ get_or_default (sides_of is es) place s side (at.its_place a).within ∙ sym (at.side_here a)

  -- the ingress with an SDU in its slot that came over its port
  abbrev pub with_sdu : Route → List ℕ → IngressPort
  with_sdu route sdu = record i { slot = Some (record { from = port; route = route; sdu = sdu }) }

  pub keeps : (t : Contents) (sdu : List ℕ) (route : Route) → Leads t n (relay_side port) port sdu (Ok (Onward route)) → (s : PortSide) → s ≡ get_or n.ports place s
      → PassesOn t n (relay_side port) s sdu (Slot route.egress) (with_port (with_sdu route sdu) e)
  keeps t sdu route leads s at_place = subst (λ (x : PortSide). PassesOn t n (relay_side port) x sdu (Slot route.egress) (with_port (with_sdu route sdu) e)) (sym (side_is s at_place)) (
    Ok (Onward route),
    subst (λ (q : PortName). Leads t n (relay_side port) q sdu (Ok (Onward route))) (sym (at.its_name a)) leads,
    (refl, at.sets_side a n same (with_sdu route sdu) e refl ∙ ap (λ (q : PortName). set_side n (record side { slot = Some (record { from = q; route = route; sdu = sdu }) })) (sym (at.its_name a))),
  )

  pub keeps_slot : (t : Contents) (sdu : List ℕ) (route : Route) → Leads t n (relay_side port) port sdu (Ok (Onward route)) → (s : PortSide) → s ≡ get_or n.ports place s
      → PassesOn t n (relay_side port) s sdu (Slot route.egress) (record n { ports = sides_of (set is place (with_sdu route sdu)) es })
  keeps_slot t sdu route leads s at_place = subst (λ (xs : List EgressPort). PassesOn t n (relay_side port) s sdu (Slot route.egress) (record n { ports = sides_of (set is place (with_sdu route sdu)) xs })) (at.same_egress a)
      (keeps t sdu route leads s at_place)

  pub drops : (t : Contents) (sdu : List ℕ) (discard : Discard) → Leads t n (relay_side port) port sdu (Err discard) → (s : PortSide) → s ≡ get_or n.ports place s
      → PassesOn t n (relay_side port) s sdu (Discarded discard) n
  drops t sdu discard leads s at_place = subst (λ (x : PortSide). PassesOn t n (relay_side port) x sdu (Discarded discard) n) (sym (side_is s at_place))
      (Err discard, subst (λ (q : PortName). Leads t n (relay_side port) q sdu (Err discard)) (sym (at.its_name a)) leads, (refl, refl))

  -- the port's ingress and egress stay a port's with such an SDU
  pub keeps_pair : (route : Route) (sdu : List ℕ) → GoesOnAs sdu → is_among (map ingress_name is) route.egress ≡ true → ArePort capacity (map ingress_name is) (with_sdu route sdu) e
  keeps_pair route sdu goes leads =
      let p = at.its_pair a in
      record { of_relay = p.of_relay; name = p.name; opens = p.opens; capacity_is = p.capacity_is; in_slot = record { sdu = goes; its = sym (at.its_name a); leads = leads }; in_queue = p.in_queue }

  -- the same where only the entity changes
  pub entity_pair : (i' : IngressPort) (e' : EgressPort) → ChangesEntity i e i' e' → ArePort capacity (map ingress_name is) i' e'
  entity_pair i' e' c =
      let p = at.its_pair a in
      let names = map ingress_name is in
      let are : ArePort capacity names (record i { rx = i'.rx }) (record e { tx = e'.tx }) =
      record { of_relay = p.of_relay; name = p.name; opens = c.tx ∙ (p.opens ∙ sym c.rx); capacity_is = p.capacity_is; in_slot = p.in_slot; in_queue = p.in_queue } in
      subst (λ (x : IngressPort). ArePort capacity names x e') (sym c.ingress) (subst (ArePort capacity names (record i { rx = i'.rx })) (sym c.egress) are)

  pub entity_name : (i' : IngressPort) (e' : EgressPort) → ChangesEntity i e i' e' → i'.name ≡ i.name
  entity_name i' e' c = ap ingress_name c.ingress

  -- nothing refuses a pull that can be made
  pub can_pull : CanPull e → pull_refusal (side_at n port) ≡ None
  can_pull c =
      let r = is_there i.rx e.tx c.tx i.epoch (at.its_pair a).opens c.is_open in
      let entity : Entity = record { tx = c.tx; rx = r.0; epoch = i.epoch } in
      let is : entity_of i e ≡ Some entity = ap (λ (x : Option Tx). entity_by i.rx x i.epoch) c.is_open ∙ r.1 c.tx in
      ap pull_refusal found ∙ ap (λ (x : Option Entity). entity_refusal x e.queue.parcels) is ∙ not_stalled entity e.queue.parcels c.waits c.has_room

  pulls : (reply : PullReply) (e' : EgressPort) → PullsAt e reply e' → PullsPort n port reply (with_port i e')
  pulls pulled.NoPort e' p = (
    ap pull_refusal found ∙ ap (λ (x : Option Entity). entity_refusal x e.queue.parcels) (ap (λ (x : Option Tx). entity_by i.rx x i.epoch) p.0 ∙ is_closed i.rx i.epoch),
    ap (with_port i) p.1 ∙ unmoved,
  )
  pulls pulled.Empty e' p =
      let t = some_is e.tx p.0 in
      let r = is_there i.rx e.tx t.0 i.epoch (at.its_pair a).opens t.1 in (
        ap pull_refusal found ∙ ap (λ (x : Option Entity). entity_refusal x e.queue.parcels) (ap (λ (x : Option Tx). entity_by i.rx x i.epoch) t.1 ∙ r.1 t.0)
            ∙ ap (queue_refusal (record { tx = t.0; rx = r.0; epoch = i.epoch })) p.1,
        ap (with_port i) p.2 ∙ unmoved,
      )
  pulls pulled.Stalled e' p =
      let r = is_there i.rx e.tx p.0 i.epoch (at.its_pair a).opens p.1 in (
        ap pull_refusal found ∙ ap (λ (x : Option Entity). entity_refusal x e.queue.parcels) (ap (λ (x : Option Tx). entity_by i.rx x i.epoch) p.1 ∙ r.1 p.0)
            ∙ stalled (record { tx = p.0; rx = r.0; epoch = i.epoch }) e.queue.parcels p.2 p.3,
        ap (with_port i) p.4 ∙ unmoved,
      )
  pulls (pulled.Done number) e' p =
      let r = is_there i.rx e.tx p.tx i.epoch (at.its_pair a).opens p.is_open in
      let entity : Entity = record { tx = p.tx; rx = r.0; epoch = i.epoch } in
      let is_open : entity_of i e ≡ Some entity = ap (λ (x : Option Tx). entity_by i.rx x i.epoch) p.is_open ∙ r.1 p.tx in
      let behind : side_of i e' ≡ record side { entity = Some (record entity { tx = p.behind }); queue = p.parcels } =
      ap (side_of i) p.is ∙ ap (λ (x : Option Entity). let s : PortSide = record side { entity = x; queue = p.parcels } in s) (r.1 p.behind) in (
        can_pull (record { tx = p.tx; is_open = p.is_open; waits = λ none. cons_some p.parcel p.parcels (sym p.waits ∙ none); has_room = p.gives.has_room }),
        record {
          side = side;
          entity = entity;
          its = record { here = found; is_open = is_open };
          parcel = p.parcel;
          parcels = p.parcels;
          waits = p.waits;
          tx = p.behind;
          gives = p.gives;
          is = at.sets_side a n same i e' refl ∙ ap (set_side n) behind;
        },
      )

  pub pulls_port : (reply : PullReply) (e' : EgressPort) → PullsAt e reply e' → PullsPort n port reply (with_egress e')
  pulls_port reply e' p = subst (PullsPort n port reply) (ap (λ (xs : List IngressPort). let m : Node = record n { ports = sides_of xs (set es place e') } in m) (at.same_ingress a)) (pulls reply e' p)

  -- what is left is a port's still
  pub pulls_pair : (reply : PullReply) (e' : EgressPort) → PullsAt e reply e' → ArePort capacity (map ingress_name is) i e'
  pulls_pair pulled.NoPort e' p = subst (ArePort capacity (map ingress_name is) i) (sym p.1) (at.its_pair a)
  pulls_pair pulled.Empty e' p = subst (ArePort capacity (map ingress_name is) i) (sym p.2) (at.its_pair a)
  pulls_pair pulled.Stalled e' p = subst (ArePort capacity (map ingress_name is) i) (sym p.4) (at.its_pair a)
  pulls_pair (pulled.Done number) e' p =
      let q = at.its_pair a in
      let waits : AllByRecursion IsQueued (p.parcel ∷ p.parcels) = subst (AllByRecursion IsQueued) p.waits q.in_queue in
      let are : ArePort capacity (map ingress_name is) i (record e { tx = Some p.behind; queue = record e.queue { parcels = p.parcels } }) =
      record { of_relay = q.of_relay; name = q.name; opens = sym (ap (λ (x : Option Tx). is_some x) p.is_open) ∙ q.opens; capacity_is = q.capacity_is; in_slot = q.in_slot; in_queue = waits.1 } in
      subst (ArePort capacity (map ingress_name is) i) (sym p.is) are

  -- where the numbers of its entity are small, so are those of its transmitter
  pub small_rx : ((entity : Entity) → entity_at n port ≡ Some entity → rx_next entity.rx ≤ 2 ^ 62) → (rx : Rx) → i.rx ≡ Some rx → rx_next rx ≤ 2 ^ 62
  small_rx small rx is =
      let t = some_is e.tx ((at.its_pair a).opens ∙ ap (λ (x : Option Rx). is_some x) is) in
      small (record { tx = t.0; rx = rx; epoch = i.epoch }) (entity_is ∙ ap (λ (x : Option Rx). entity_by x e.tx i.epoch) is ∙ ap (λ (x : Option Tx). entity_by (Some rx) x i.epoch) t.1)

  pub small_tx : ((entity : Entity) → entity_at n port ≡ Some entity → tx_next entity.tx < 2 ^ 62) → (tx : Tx) → e.tx ≡ Some tx → tx_next tx < 2 ^ 62
  small_tx small tx is =
      let r = is_there i.rx e.tx tx i.epoch (at.its_pair a).opens is in
      small (record { tx = tx; rx = r.0; epoch = i.epoch }) (entity_is ∙ ap (λ (x : Option Tx). entity_by i.rx x i.epoch) is ∙ r.1 tx)

  -- why a push is refused, by the fields of the ingress
  push_is : push_refusal capacity n (side_at n port) ≡ cond (is_none i.rx) (Some pushed.NoPort) (slot_refusal capacity n i.slot)
  push_is = ap (push_refusal capacity n) found ∙ ap (λ (b : Bool). cond b (Some pushed.NoPort) (slot_refusal capacity n i.slot)) (there_by_rx i.rx e.tx i.epoch (at.its_pair a).opens)

  pub push_closed : is_none i.rx ≡ true → PushesPort capacity n port pushed.NoPort n
  push_closed closed = (push_is ∙ cond-true (is_none i.rx) _ _ closed, refl)

  slot_is : is_none i.rx ≡ false → (slot : Option Parcel) → i.slot ≡ slot → push_refusal capacity n (side_at n port) ≡ slot_refusal capacity n slot
  slot_is open_ slot is = push_is ∙ cond-false (is_none i.rx) _ _ open_ ∙ ap (slot_refusal capacity n) is

  pub push_nothing : is_none i.rx ≡ false → i.slot ≡ None → PushesPort capacity n port pushed.Nothing n
  push_nothing open_ empty = (slot_is open_ None empty, refl)

  module _ {egress : PortName} {to : ℕ} {j : IngressPort} {f : EgressPort} (b : StandsAt capacity is es egress to j f) (parcel : Parcel) (open_ : is_none i.rx ≡ false) (full : i.slot ≡ Some parcel)
      (its_egress : parcel.route.egress ≡ egress) where
    queue_there : queue_at n parcel.route.egress ≡ f.queue.parcels
    queue_there = ap (queue_at n) its_egress ∙ ap (λ (s : Option PortSide). unwrap_or (option_map queue_of s) []) (at.found b n same)

    room_is : push_refusal capacity n (side_at n port) ≡ cond (nat_le capacity (length f.queue.parcels)) (Some pushed.QueueFull) None
    room_is = slot_is open_ (Some parcel) full ∙ ap (λ (ps : List Parcel). cond (nat_le capacity (length ps)) (Some pushed.QueueFull) None) queue_there

    pub push_full : nat_le capacity (length f.queue.parcels) ≡ true → PushesPort capacity n port pushed.QueueFull n
    push_full no_room = (room_is ∙ cond-true (nat_le capacity (length f.queue.parcels)) _ _ no_room, refl)

    -- whether the queue is full, as its egress tells
    pub room_at : (f' : EgressPort) → f' ≡ f → (full_ : Bool) → full_ ≡ nat_le f'.queue.capacity (length f'.queue.parcels) → nat_le capacity (length f.queue.parcels) ≡ full_
    room_at f' its full_ is = sym (is ∙ ap (λ (x : EgressPort). nat_le x.queue.capacity (length x.queue.parcels)) its ∙ ap (λ (most : ℕ). nat_le most (length f.queue.parcels)) (at.its_pair b).capacity_is)

    abbrev pub emptied : IngressPort
    emptied = record i { slot = None }

    abbrev filled : EgressPort
    filled = record f { queue = record f.queue { parcels = f.queue.parcels ++ parcel ∷ [] } }

    emptied_pair : ArePort capacity (map ingress_name is) emptied e
    emptied_pair =
        let p = at.its_pair a in
        record { of_relay = p.of_relay; name = p.name; opens = p.opens; capacity_is = p.capacity_is; in_slot = tt; in_queue = p.in_queue }

    abbrev mid : Node
    mid = set_side n (side_of emptied e)

    mid_is : record n { ports = sides_of (set is place emptied) es } ≡ mid
    mid_is = ap (λ (xs : List EgressPort). let m : Node = record n { ports = sides_of (set is place emptied) xs } in m) (sym (at.same_egress a)) ∙ at.sets_side a n same emptied e refl

    pub mid_ports : ArePorts capacity (set is place emptied) es
    mid_ports = subst (ArePorts capacity (set is place emptied)) (at.same_egress a) (at.stay a emptied e refl emptied_pair)

    abbrev its_ingress : IngressPort
    its_ingress = get_or (set is place emptied) to j

    pub stands_there : StandsAt capacity (set is place emptied) es egress to its_ingress f
    stands_there =
        let row = at.row_stays a emptied refl egress to b.row in
        record { ports = mid_ports; row = row; here = get_or_default (set is place emptied) to j its_ingress row.within; there = b.there }

    goes : GoesOnAs parcel.sdu
    goes = let held : IsHeardOver (map ingress_name is) i.name parcel = subst (λ (o : Option Parcel). IfSome o (IsHeardOver (map ingress_name is) i.name)) full (at.its_pair a).in_slot in held.sdu

    pub push_ports : ArePorts capacity (set is place emptied) (set es to filled)
    push_ports =
        let q = at.its_pair stands_there in
        at.stay_egress stands_there filled (record {
          of_relay = q.of_relay;
          name = q.name;
          opens = q.opens;
          capacity_is = q.capacity_is;
          in_slot = q.in_slot;
          in_queue = each_append IsQueued f.queue.parcels (parcel ∷ []) q.in_queue (goes, tt);
        })

    abbrev pushed_node : Node
    pushed_node = record n { ports = sides_of (set is place emptied) (set es to filled) }

    pub push_done : nat_le capacity (length f.queue.parcels) ≡ false → PushesPort capacity n port (pushed.Done egress) pushed_node
    push_done has_room =
        let c = stands_there in
        let ports : mid.ports ≡ sides_of (set is place emptied) es = ap (λ (m : Node). m.ports) (sym mid_is) in (
          room_is ∙ cond-false (nat_le capacity (length f.queue.parcels)) _ _ has_room,
          record {
            from = side;
            here = found;
            parcel = parcel;
            full = full;
            its_egress = sym its_egress;
            mid = mid;
            empties = refl;
            to = side_of its_ingress f;
            there = at.found c mid ports;
            is = ap (λ (xs : List IngressPort). let m : Node = record n { ports = sides_of xs (set es to filled) } in m) (sym (at.same_ingress c)) ∙ at.sets_side c mid ports its_ingress filled refl;
          },
        )
