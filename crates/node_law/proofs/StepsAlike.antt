-- Nodes that nothing tells apart send, have timers run out, push, pull and apply plans alike.
use Rattle.std.proofs.Common.{◌≡◌, inl, inr, ℕ, ◌+◌, ◌==◌, Bool, true, false, cond, nat_le, ◌&&◌, ◌||◌, not, List, [], ◌∷◌, ◌++◌, length, map, sum_by, Option, Some, None, is_some, is_none, refl, sym, ◌∙◌, ap, subst}
use Rattle.std.proofs.lemmas.List.Sums.{sum_by-cons}
use Rattle.link_base.specs.declared.names.Goal.{Goal}
use Rattle.link_base.specs.declared.names.PortName.{PortName}
use Rattle.link_base.specs.declared.names.Remote.{Remote}
use Rattle.link_base.specs.declared.names.SnSize.{SnSize}
use Rattle.link_base.specs.declared.names.Timer.{Timer}
use Rattle.link_base.specs.declared.names.Timer.TheVariants.{Poll, Reasm, Prohibit}
use Rattle.link_base.specs.declared.rlc_words.Expired.{Expired}
use Rattle.link_base.specs.declared.rlc_words.Expired.TheVariants as expiry
use Rattle.bearer_map.specs.declared.settings.Settings.{Settings}
use Rattle.rlc_status.specs.Format.{status_bytes}
use Rattle.rlc_model.specs.declared.hop.HopGrant.{HopGrant}
use Rattle.rlc_model.specs.declared.hop.HopGrant.TheVariants as hop
use Rattle.rlc_model.specs.Tx.{Tx, room, unconfirmed, Gives}
use Rattle.rlc_model.specs.Rx.{Rx, status_due}
use Rattle.rlc_model.specs.Sides.{Entity}
use Rattle.rlc_model.specs.Hop.{GrantsHop, ExpiresHop}
use Rattle.rlc_law.specs.OneOutcome.{SameReceiver}
use Rattle.node_model.specs.declared.answers.PushReply.{PushReply}
use Rattle.node_model.specs.declared.answers.PushReply.TheVariants as pushed
use Rattle.node_model.specs.declared.answers.PullReply.{PullReply}
use Rattle.node_model.specs.declared.answers.PullReply.TheVariants as pulled
use Rattle.node_model.specs.declared.parcel.Parcel.{Parcel}
use Rattle.node_model.specs.Names.{is_of}
use Rattle.node_model.specs.Opening.{new_entity}
use Rattle.node_model.specs.State.{PortSide, Node, side_at, set_side, set_entity}
use Rattle.node_model.specs.Sides.{GrantsSide, ExpiresSide}
use Rattle.node_model.specs.Relaying.{slot_refusal, push_refusal, PushesPort, queue_refusal, entity_refusal, pull_refusal, parcel_tag, PullsPort}
use Rattle.node_model.specs.Switching.{leads_to, is_purged, side_after, one_if, unconfirmed_in, dropped_at, outgoing_after, incoming_after, attached_after, node_after, dropped, wanting, node_closed}
use Rattle.node_model.specs.Tables.{is_open_on}
use Rattle.node_law.specs.Alike.{SameEntity, SameOpen, SameSide, SameSides, SameNode}
use Rattle.node_law.specs.OneOutcome.{AreSound}
use Rattle.node_law.proofs.Alike.{same_open, closed_alike, SameFound, found_too, there_too, is_open_too, both_open, queue_too, side_set}
use Rattle.node_law.proofs.AtPorts.{one_hop_grant, one_hop_expiry}
use Rattle.node_law.proofs.Receivers.{status_too, reassembly_too, prohibit_too}
use Rattle.node_law.proofs.Relaying.{one_push, one_pull}

-- a STATUS is due alike
due_too : (rx other : Rx) → SameReceiver rx other → status_due other ≡ status_due rx
due_too rx other e = ap (λ (b : Bool). b && not other.status_prohibit_runs) (sym e.triggered) ∙ ap (λ (b : Bool). rx.status_triggered && not b) (sym e.prohibit)

-- what a side sends, one sends that nothing tells apart from it
grant_too : (tx : Tx) (rx other : Rx) → SameReceiver rx other → (n : ℕ) (a : HopGrant) (t : Tx) (r : Rx) → GrantsHop tx rx n a t r
    → (s : Rx) × GrantsHop tx other n a t s × SameReceiver r s
grant_too tx rx other e n (hop.Sent true number bytes) t r p =
    let too = status_too rx other e n number p.0 r p.1 in
    (too.0, (p.0, too.1, p.2 ∙ ap (λ (z : SnSize). status_bytes z p.0) e.size, p.3), too.2)
grant_too tx rx other e n (hop.Sent false number bytes) t r p = (other, (due_too rx other e ∙ p.0, p.1, refl), subst (λ (z : Rx). SameReceiver z other) (sym p.2) e)
grant_too tx rx other e n hop.Idle t r p = (other, (due_too rx other e ∙ p.0, p.1, refl), subst (λ (z : Rx). SameReceiver z other) (sym p.2) e)
grant_too tx rx other e n (hop.Small need) t r (inl p) =
    (other, inl (due_too rx other e ∙ p.0, (p.1.0, p.1.1, refl), p.2), subst (λ (z : Rx). SameReceiver z other) (sym p.1.2) e)
grant_too tx rx other e n (hop.Small need) t r (inr p) = (other, inr (due_too rx other e ∙ p.0, p.1, refl), subst (λ (z : Rx). SameReceiver z other) (sym p.2) e)

-- and what is left where a timer runs out
expiry_too : (timer : Timer) (tx : Tx) (rx other : Rx) → SameReceiver rx other → (a : Expired) (t : Tx) (r : Rx) → ExpiresHop tx rx timer a t r
    → (s : Rx) × ExpiresHop tx other timer a t s × SameReceiver r s
expiry_too Poll tx rx other e a t r p = (other, (p.0, refl), subst (λ (z : Rx). SameReceiver z other) (sym p.1) e)
expiry_too Reasm tx rx other e expiry.Done t r p = let too = reassembly_too rx other e r p.0 in (too.0, (too.1, p.1), too.2)
expiry_too Reasm tx rx other e (expiry.Marked n) t r p = absurd p.0
expiry_too Reasm tx rx other e expiry.Stopped t r p = (other, ((sym e.trigger ∙ p.0.0, refl), p.1), subst (λ (z : Rx). SameReceiver z other) (sym p.0.1) e)
expiry_too Prohibit tx rx other e expiry.Done t r p = let too = prohibit_too rx other e r p.0 in (too.0, (too.1, p.1), too.2)
expiry_too Prohibit tx rx other e (expiry.Marked n) t r p = absurd p.0
expiry_too Prohibit tx rx other e expiry.Stopped t r p = (other, ((sym e.prohibit ∙ p.0.0, refl), p.1), subst (λ (z : Rx). SameReceiver z other) (sym p.0.1) e)

module _ (old other : Node) (e : SameNode old other) where
  -- entities of one port are called alike
  called : (s r : PortSide) → SameSide s r → (x y : Entity) → SameEntity x y → (t u : Tx) → t ≡ u → (v w : Rx) → SameReceiver v w → (m n : Node)
      → m ≡ set_entity old s (record x { tx = t; rx = v }) → n ≡ set_entity other r (record y { tx = u; rx = w }) → SameNode m n
  called s r same x y both t u tx v w rx m n p q =
      subst (λ (z : Node). SameNode z n) (sym p) (subst (SameNode (set_entity old s (record x { tx = t; rx = v }))) (sym q)
      (side_set old other e (record s { entity = Some (record x { tx = t; rx = v }) }) (record r { entity = Some (record y { tx = u; rx = w }) })
      (record { name = same.name; size = same.size; slot = same.slot; queue = same.queue; entity = record { epoch = both.epoch; tx = tx; rx = rx } })))

  -- a port is granted a PDU alike, where receivers are sound
  pub grants_alike : AreSound other → (port : PortName) (octets epoch epoch' : ℕ) (a b : HopGrant) (m n : Node) → GrantsSide old port octets epoch a m
      → GrantsSide other port octets epoch' b n → (epoch ≡ epoch') × (a ≡ b) × SameNode m n
  grants_alike sound port octets epoch epoch' a b m n p q =
      let both = both_open old other e port p.side q.side p.entity q.entity p.its q.its in
      let too = grant_too p.entity.tx p.entity.rx q.entity.rx both.1.rx octets a p.tx p.rx p.grants in
      let one = one_hop_grant q.entity.tx q.entity.rx (sound port q.side q.entity q.its) octets a b p.tx q.tx too.0 q.rx
      (subst (λ (z : Tx). GrantsHop z q.entity.rx octets a p.tx too.0) both.1.tx too.1) q.grants in (
        p.its_epoch ∙ both.1.epoch ∙ sym q.its_epoch,
        one.0,
        called p.side q.side both.0 p.entity q.entity both.1 p.tx q.tx one.1 p.rx q.rx (subst (SameReceiver p.rx) one.2 too.2) m n p.is q.is,
      )

  -- a timer runs out alike
  pub expires_alike : (port : PortName) (timer : Timer) (a b : Expired) (m n : Node) → ExpiresSide old port timer a m → ExpiresSide other port timer b n → (a ≡ b) × SameNode m n
  expires_alike port timer a b m n p q =
      let both = both_open old other e port p.side q.side p.entity q.entity p.its q.its in
      let too = expiry_too timer p.entity.tx p.entity.rx q.entity.rx both.1.rx a p.tx p.rx p.expires in
      let one = one_hop_expiry timer q.entity.tx q.entity.rx a b p.tx q.tx too.0 q.rx
      (subst (λ (z : Tx). ExpiresHop z q.entity.rx timer a p.tx too.0) both.1.tx too.1) q.expires in
      (one.0, called p.side q.side both.0 p.entity q.entity both.1 p.tx q.tx one.1 p.rx q.rx (subst (SameReceiver p.rx) one.2 too.2) m n p.is q.is)

  -- a push is refused alike
  slot_refused : (capacity : ℕ) (slot : Option Parcel) → slot_refusal capacity old slot ≡ slot_refusal capacity other slot
  slot_refused capacity None = refl
  slot_refused capacity (Some parcel) =
      ap (λ (parcels : List Parcel). cond (nat_le capacity (length parcels)) (Some pushed.QueueFull) None) (queue_too old other e parcel.route.egress)

  push_refused : (capacity : ℕ) (x y : Option PortSide) → SameFound x y → push_refusal capacity old x ≡ push_refusal capacity other y
  push_refused capacity None None same = refl
  push_refused capacity None (Some r) same = absurd same
  push_refused capacity (Some s) None same = absurd same
  push_refused capacity (Some s) (Some r) same =
      ap (λ (b : Bool). cond b (Some pushed.NoPort) (slot_refusal capacity old s.slot)) (closed_alike s.entity r.entity same.entity)
      ∙ ap (λ (o : Option PushReply). cond (is_none r.entity) (Some pushed.NoPort) o) (ap (slot_refusal capacity old) same.slot ∙ slot_refused capacity r.slot)

  push_stays : (capacity : ℕ) (port : PortName) (a : PushReply) (m : Node) → (push_refusal capacity old (side_at old port) ≡ Some a) × (m ≡ old)
      → (n : Node) × ((push_refusal capacity other (side_at other port) ≡ Some a) × (n ≡ other)) × SameNode m n
  push_stays capacity port a m p =
      (other, (sym (push_refused capacity (side_at old port) (side_at other port) (found_too old other e port)) ∙ p.0, refl), subst (λ (z : Node). SameNode z other) (sym p.1) e)

  push_too : (capacity : ℕ) (port : PortName) (a : PushReply) (m : Node) → PushesPort capacity old port a m → (n : Node) × PushesPort capacity other port a n × SameNode m n
  push_too capacity port (pushed.Done egress) m p =
      let from = there_too old other e port p.1.from p.1.here in
      let mid = set_side other (record from.0 { slot = None }) in
      let same : SameNode p.1.mid mid = subst (λ (z : Node). SameNode z mid) (sym p.1.empties)
      (side_set old other e (record p.1.from { slot = None }) (record from.0 { slot = None })
      (record { name = from.2.name; size = from.2.size; slot = refl; queue = from.2.queue; entity = from.2.entity })) in
      let to = there_too p.1.mid mid same egress p.1.to p.1.there in
      let n = set_side mid (record to.0 { queue = to.0.queue ++ p.1.parcel ∷ [] }) in (
        n,
        (
          sym (push_refused capacity (side_at old port) (side_at other port) (found_too old other e port)) ∙ p.0,
          record {
            from = from.0;
            here = from.1;
            parcel = p.1.parcel;
            full = sym from.2.slot ∙ p.1.full;
            its_egress = p.1.its_egress;
            mid = mid;
            empties = refl;
            to = to.0;
            there = to.1;
            is = refl;
          },
        ),
        subst (λ (z : Node). SameNode z n) (sym p.1.is) (side_set p.1.mid mid same (record p.1.to { queue = p.1.to.queue ++ p.1.parcel ∷ [] })
            (record to.0 { queue = to.0.queue ++ p.1.parcel ∷ [] })
            (record { name = to.2.name; size = to.2.size; slot = to.2.slot; queue = ap (λ (l : List Parcel). l ++ p.1.parcel ∷ []) to.2.queue; entity = to.2.entity })),
      )
  push_too capacity port pushed.NoPort m p = push_stays capacity port pushed.NoPort m p
  push_too capacity port pushed.Nothing m p = push_stays capacity port pushed.Nothing m p
  push_too capacity port pushed.QueueFull m p = push_stays capacity port pushed.QueueFull m p

  pub pushes_alike : (capacity : ℕ) (port : PortName) (a b : PushReply) (m n : Node) → PushesPort capacity old port a m → PushesPort capacity other port b n → (a ≡ b) × SameNode m n
  pushes_alike capacity port a b m n p q =
      let too = push_too capacity port a m p in
      let one = one_push capacity other port a b too.0 n too.1 q in
      (one.0, subst (SameNode m) one.1 too.2)

  -- so is a pull
  queue_refused : (x y : Entity) → SameEntity x y → (parcels : List Parcel) → queue_refusal x parcels ≡ queue_refusal y parcels
  queue_refused x y same [] = refl
  queue_refused x y same (parcel ∷ parcels) = ap (λ (t : Tx). cond (room t == 0) (Some pulled.Stalled) None) same.tx

  entity_refused : (x y : Option Entity) → SameOpen x y → (parcels : List Parcel) → entity_refusal x parcels ≡ entity_refusal y parcels
  entity_refused None None same parcels = refl
  entity_refused None (Some y) same parcels = absurd same
  entity_refused (Some x) None same parcels = absurd same
  entity_refused (Some x) (Some y) same parcels = queue_refused x y same parcels

  pull_refused : (x y : Option PortSide) → SameFound x y → pull_refusal x ≡ pull_refusal y
  pull_refused None None same = refl
  pull_refused None (Some r) same = absurd same
  pull_refused (Some s) None same = absurd same
  pull_refused (Some s) (Some r) same = ap (entity_refusal s.entity) same.queue ∙ entity_refused s.entity r.entity same.entity r.queue

  pull_stays : (port : PortName) (a : PullReply) (m : Node) → (pull_refusal (side_at old port) ≡ Some a) × (m ≡ old)
      → (n : Node) × ((pull_refusal (side_at other port) ≡ Some a) × (n ≡ other)) × SameNode m n
  pull_stays port a m p =
      (other, (sym (pull_refused (side_at old port) (side_at other port) (found_too old other e port)) ∙ p.0, refl), subst (λ (z : Node). SameNode z other) (sym p.1) e)

  pull_too : (port : PortName) (a : PullReply) (m : Node) → PullsPort old port a m → (n : Node) × PullsPort other port a n × SameNode m n
  pull_too port (pulled.Done number) m p =
      let its = is_open_too old other e port p.1.side p.1.entity p.1.its in
      let n = set_side other (record its.0 { entity = Some (record its.1 { tx = p.1.tx }); queue = p.1.parcels }) in (
        n,
        (
          sym (pull_refused (side_at old port) (side_at other port) (found_too old other e port)) ∙ p.0,
          record {
            side = its.0;
            entity = its.1;
            its = its.2;
            parcel = p.1.parcel;
            parcels = p.1.parcels;
            waits = sym its.3.queue ∙ p.1.waits;
            tx = p.1.tx;
            gives = subst (λ (z : Tx). Gives z (parcel_tag p.1.parcel) p.1.parcel.sdu number p.1.tx) its.4.tx p.1.gives;
            is = refl;
          },
        ),
        subst (λ (z : Node). SameNode z n) (sym p.1.is)
            (side_set old other e (record p.1.side { entity = Some (record p.1.entity { tx = p.1.tx }); queue = p.1.parcels })
            (record its.0 { entity = Some (record its.1 { tx = p.1.tx }); queue = p.1.parcels })
            (record { name = its.3.name; size = its.3.size; slot = its.3.slot; queue = refl; entity = record { epoch = its.4.epoch; tx = refl; rx = its.4.rx } })),
      )
  pull_too port pulled.NoPort m p = pull_stays port pulled.NoPort m p
  pull_too port pulled.Empty m p = pull_stays port pulled.Empty m p
  pull_too port pulled.Stalled m p = pull_stays port pulled.Stalled m p

  pub pulls_alike : (port : PortName) (a b : PullReply) (m n : Node) → PullsPort old port a m → PullsPort other port b n → (a ≡ b) × SameNode m n
  pulls_alike port a b m n p q =
      let too = pull_too port a m p in
      let one = one_pull other port a b too.0 n too.1 q in
      (one.0, subst (SameNode m) one.1 too.2)

-- a side whose node has applied a plan
module _ (s : Settings) (remote : Remote) (goal : Goal) (epoch : ℕ) where
  purged_too : (a b : PortSide) → SameSide a b → is_purged remote a ≡ is_purged remote b
  purged_too a b same = ap (λ (p : PortName). is_of remote p || leads_to remote a.slot) same.name ∙ ap (λ (o : Option Parcel). is_of remote b.name || leads_to remote o) same.slot

  -- the entity that a side of this name and size has then
  abbrev entity_after : PortName → SnSize → Option Entity → Option Entity
  entity_after name size entity = cond (is_of remote name) (cond (is_open_on goal name) (Some (new_entity s size epoch)) None) entity

  side_too : (a b : PortSide) → SameSide a b → SameSide (side_after s remote goal epoch a) (side_after s remote goal epoch b)
  side_too a b same = record {
    name = same.name;
    size = same.size;
    slot = ap (λ (z : Bool). cond z None a.slot) (purged_too a b same) ∙ ap (λ (o : Option Parcel). cond (is_purged remote b) None o) same.slot;
    queue = ap (λ (p : PortName). cond (is_of remote p) [] a.queue) same.name ∙ ap (λ (l : List Parcel). cond (is_of remote b.name) [] l) same.queue;
    entity = subst (λ (p : PortName). SameOpen (entity_after a.name a.size a.entity) (entity_after p b.size b.entity)) same.name
        (subst (λ (z : SnSize). SameOpen (entity_after a.name a.size a.entity) (entity_after a.name z b.entity)) same.size (by (is_of remote a.name)));
  }
    where
      by : (own : Bool) → SameOpen (cond own (cond (is_open_on goal a.name) (Some (new_entity s a.size epoch)) None) a.entity)
          (cond own (cond (is_open_on goal a.name) (Some (new_entity s a.size epoch)) None) b.entity)
      by true = same_open (cond (is_open_on goal a.name) (Some (new_entity s a.size epoch)) None)
      by false = same.entity

  sides_too : (xs ys : List PortSide) → SameSides xs ys → SameSides (map (side_after s remote goal epoch) xs) (map (side_after s remote goal epoch) ys)
  sides_too [] [] e = tt
  sides_too [] (y ∷ ys) e = absurd e
  sides_too (x ∷ xs) [] e = absurd e
  sides_too (x ∷ xs) (y ∷ ys) e = (side_too x y e.0, sides_too xs ys e.1)

  -- nodes that nothing tells apart apply a plan alike
  pub applies_alike : (m n : Node) → SameNode m n → SameNode (node_after s remote goal epoch m) (node_after s remote goal epoch n)
  applies_alike m n e = record {
    name = e.name;
    ports = sides_too m.ports n.ports e.ports;
    attached = ap (attached_after remote goal) e.attached;
    outgoing = ap (map (outgoing_after remote)) e.outgoing;
    incoming = ap (map (incoming_after remote)) e.incoming;
  }

-- and learn alike that all have
pub closes_alike : (remote : Remote) (m n : Node) → SameNode m n → SameNode (node_closed remote m) (node_closed remote n)
closes_alike remote m n e = record { name = e.name; ports = e.ports; attached = e.attached; outgoing = e.outgoing; incoming = ap (map (wanting remote)) e.incoming }

-- they drop as many SDUs
module _ (remote : Remote) where
  unconfirmed_too : (x y : Option Entity) → SameOpen x y → unconfirmed_in x ≡ unconfirmed_in y
  unconfirmed_too None None same = refl
  unconfirmed_too None (Some y) same = absurd same
  unconfirmed_too (Some x) None same = absurd same
  unconfirmed_too (Some x) (Some y) same = ap unconfirmed same.tx

  -- what is dropped of a side by its name, slot, queue and number of unconfirmed SDUs
  abbrev drops : PortName → Option Parcel → List Parcel → ℕ → ℕ
  drops name slot queue count = one_if ((is_of remote name || leads_to remote slot) && is_some slot) + cond (is_of remote name) (length queue + count) 0

  drop_too : (a b : PortSide) → SameSide a b → dropped_at remote a ≡ dropped_at remote b
  drop_too a b same = ap (λ (p : PortName). drops p a.slot a.queue (unconfirmed_in a.entity)) same.name
      ∙ ap (λ (o : Option Parcel). drops b.name o a.queue (unconfirmed_in a.entity)) same.slot
      ∙ ap (λ (l : List Parcel). drops b.name b.slot l (unconfirmed_in a.entity)) same.queue ∙ ap (drops b.name b.slot b.queue) (unconfirmed_too a.entity b.entity same.entity)

  drops_too : (xs ys : List PortSide) → SameSides xs ys → sum_by (dropped_at remote) xs ≡ sum_by (dropped_at remote) ys
  drops_too [] [] e = refl
  drops_too [] (y ∷ ys) e = absurd e
  drops_too (x ∷ xs) [] e = absurd e
  drops_too (x ∷ xs) (y ∷ ys) e = sum_by-cons (dropped_at remote) x xs ∙ ap (λ (n : ℕ). n + sum_by (dropped_at remote) xs) (drop_too x y e.0)
      ∙ ap (λ (n : ℕ). dropped_at remote y + n) (drops_too xs ys e.1) ∙ sym (sum_by-cons (dropped_at remote) y ys)

  pub dropped_alike : (m n : Node) → SameNode m n → dropped remote m ≡ dropped remote n
  dropped_alike m n e = drops_too m.ports n.ports e.ports
