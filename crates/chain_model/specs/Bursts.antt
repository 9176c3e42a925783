-- A burst: the relay works on all tickets that are staged, and on its slots and queues.
use Rattle.std.specs.Prelude.{◌≡◌, ◌⊎◌, ℕ, ◌+◌, ◌/◌, ◌<◌, ◌≤◌, Bool, true, false, ◌&&◌, List, [], ◌∷◌, ◌++◌, length, map, filter, flat_map, fold, take, drop, slice_index_or, sum_by, count_by, Option, Some, None, is_some, unwrap_or, option_map, if◌then◌else◌}
use Rattle.std.specs.List.{AllZip}
use Rattle.link_base.specs.declared.names.PortName.{PortName}
use Rattle.link_base.specs.declared.names.PortName.TheVariants.{Direct, Pc5, Uu}
use Rattle.link_base.specs.declared.names.Way.{Way}
use Rattle.link_base.specs.declared.names.Way.TheVariants.{Ul, Dl}
use Rattle.rlc_model.specs.declared.hop.Pdu.{Pdu}
use Rattle.rlc_model.specs.Tx.{Tx, Gives, room}
use Rattle.rlc_model.specs.Hop.{on_air, off_air}
use Rattle.script_text.specs.declared.event.Event.{Event}
use Rattle.script_text.specs.declared.event.Event.TheVariants.{Heard as HeardTicket, Left}
use Rattle.script_text.specs.declared.reply.Reply.{Reply}
use Rattle.script_text.specs.declared.reply.Reply.TheVariants.{OkTwo, Gone, Stale}
use Rattle.node_model.specs.declared.parcel.Parcel.{Parcel}
use Rattle.node_model.specs.Names.{AtRelay, is_port, is_way}
use Rattle.rlc_model.specs.Sides.{Entity}
use Rattle.node_model.specs.State.{PortSide, side_at, set_side}
use Rattle.chain_model.specs.State.{Chain, node_at, set_node}
use Rattle.node_model.specs.Relaying.{parcel_tag}
use Rattle.chain_model.specs.Lines.{Comes, queue_capacity}

-- the way in which SDUs go that come over an ingress port of the relay
abbrev pub way_in : PortName → Way
way_in (Direct remote drb) = Ul
way_in (Pc5 remote chan) = Ul
way_in (Uu chan) = Dl

-- the way in which SDUs go that leave over an egress port of the relay
abbrev pub way_out : PortName → Way
way_out (Direct remote drb) = Dl
way_out (Pc5 remote chan) = Dl
way_out (Uu chan) = Ul

-- a PDU goes over this port
abbrev pub goes_over : PortName → Option Pdu → Bool
goes_over port None = false
goes_over port (Some pdu) = is_port port pdu.port

-- the tickets staged for an ingress port whose PDUs are still on the air, in order
abbrev pub inbox : Chain → PortName → List ℕ
inbox c port = filter (λ ticket. goes_over port (on_air c.air ticket)) c.staged

-- the chain whose relay has this side of a port
abbrev pub with_side : Chain → PortSide → Chain
with_side c side = set_node c (set_side (node_at c AtRelay) side)

-- the PDU of a ticket is treated as by deliver, and leaves its ingress port so
abbrev pub Treats : Chain → Pdu → PortSide → Reply → PortSide → Type 0
Treats c pdu old reply new = (events : List Event) × (mid : Chain) × Comes (with_side c old) pdu events reply mid (λ x. x) × (side_at (node_at mid AtRelay) old.name ≡ Some new)

-- an ingress port works on its slot and its inbox: it pushes what is in the slot, and hears a ticket when the slot is empty; it may end with a
-- full slot, and else ends when its inbox is empty. heard has the events of the tickets treated, put the SDUs pushed, left the tickets left
pub data Ingests (c : Chain) : PortSide → List ℕ → List Event → List Parcel → List ℕ → PortSide → Type 0 where
  ends : {side : PortSide} → side.slot ≡ None → Ingests c side [] [] [] [] side
  stops : {side : PortSide} {tickets : List ℕ} → is_some side.slot ≡ true → Ingests c side tickets [] [] tickets side
  pushes : {side new : PortSide} {tickets left : List ℕ} {heard : List Event} {put : List Parcel} (parcel : Parcel) → side.slot ≡ Some parcel
      → Ingests c (record side { slot = None }) tickets heard put left new → Ingests c side tickets heard (parcel ∷ put) left new
  hears : {side mid new : PortSide} {tickets left : List ℕ} {heard : List Event} {put : List Parcel} (ticket : ℕ) (pdu : Pdu) (reply : Reply) → side.slot ≡ None → on_air c.air ticket ≡ Some pdu
      → Treats c pdu side reply mid → Ingests c mid tickets heard put left new → Ingests c side (ticket ∷ tickets) (HeardTicket ticket reply ∷ heard) put left new

-- what an ingress port did in a burst
pub record Ingress : Type 0 where
  pub heard : List Event
  pub put : List Parcel
  pub left : List ℕ
  pub behind : PortSide

-- what an egress port did: the SDUs given to its transmitter, those that came into its queue, in the order in which they stood there, and how it
-- ended
pub record Egress : Type 0 where
  pub taken : List Parcel
  pub came : List Parcel
  pub behind : PortSide

-- the SDUs that an ingress port put
abbrev pub put_by : Ingress → List Parcel
put_by i = i.put

-- what all ingress ports put, by port order
abbrev pub all_put : List Ingress → List Parcel
all_put ingresses = flat_map put_by ingresses

-- the SDU came over this port
abbrev pub is_from : PortName → Parcel → Bool
is_from port parcel = is_port port parcel.from

-- the SDU goes on over this port
abbrev pub goes_to : PortName → Parcel → Bool
goes_to port parcel = is_port port parcel.route.egress

-- a transmitter is given SDUs in their order
abbrev pub GivesEach : Tx → List Parcel → Tx → Type 0
GivesEach old [] new = new ≡ old
GivesEach old (parcel ∷ parcels) new = (number : ℕ) × (mid : Tx) × Gives old (parcel_tag parcel) parcel.sdu number mid × GivesEach mid parcels new

-- an entity is given SDUs; none where the side is closed
abbrev pub GivesAll : Option Entity → List Parcel → Option Entity → Type 0
GivesAll None parcels new = (parcels ≡ []) × (new ≡ None)
GivesAll (Some entity) parcels new = (tx : Tx) × GivesEach entity.tx parcels tx × (new ≡ Some (record entity { tx = tx }))

-- its transmitter has no room
abbrev pub IsStalled : Option Entity → Type 0
IsStalled None = Unit {0}
IsStalled (Some entity) = room entity.tx ≡ 0

-- an egress port empties its queue into its transmitter. What stood in the queue comes first and in order; of what came, the SDUs of each
-- ingress port are in the order in which that port put them. At last the queue is empty or the transmitter has no room
pub record Emits (capacity : ℕ) (put : List Parcel) (old : PortSide) (e : Egress) : Type 0 where
  pub queued : old.queue ++ e.came ≡ e.taken ++ e.behind.queue
  pub each : (port : PortName) → filter (is_from port) e.came ≡ filter (λ parcel. is_from port parcel && goes_to old.name parcel) put
  pub gives : GivesAll old.entity e.taken e.behind.entity
  pub is : e.behind ≡ record old { entity = e.behind.entity; queue = e.behind.queue }
  pub rests : (e.behind.queue ≡ []) ⊎ IsStalled e.behind.entity
  pub within : length e.behind.queue ≤ capacity

-- how many SDUs the transmitter of a side takes
abbrev pub room_in : Option Entity → ℕ
room_in None = 0
room_in (Some entity) = room entity.tx

-- how many SDUs a queue still holds once as many are taken from its front as its transmitter has room for
abbrev pub still_queued : PortSide → ℕ
still_queued side = length (drop (room_in side.entity) side.queue)

-- the same of the queue of a port of the relay
abbrev pub queued_at : Chain → PortName → ℕ
queued_at c port = unwrap_or (option_map still_queued (side_at (node_at c AtRelay) port)) 0

-- the ports of an ingress worker: worker 0 has the first half of them
abbrev pub of_worker : {T : Type 0} → Bool → List T → List T
of_worker false ports = take (length ports / 2) ports
of_worker true ports = drop (length ports / 2) ports

-- 1 where the SDU in a slot goes on over this port
abbrev pub slot_leads : PortName → Option Parcel → ℕ
slot_leads port None = 0
slot_leads port (Some parcel) = if goes_to port parcel then 1 else 0

-- how many SDUs an ingress port can put into a queue, as far as its slot and its inbox tell before the burst
abbrev pub may_put : Chain → PortName → PortSide → ℕ
may_put c port side = slot_leads port side.slot + (if is_way (way_in side.name) (way_out port) then length (inbox c side.name) else 0)

-- an ingress port of a worker has ended with a full slot only where the queue of its SDU was full: what the queue still holds, what the worker
-- itself put there and what the other worker could put there come to its capacity
abbrev pub IsFilled : Chain → Bool → List Ingress → Option Parcel → Type 0
IsFilled c worker ingresses None = Unit {0}
IsFilled c worker ingresses (Some parcel) =
    queue_capacity c ≤ queued_at c parcel.route.egress + count_by (goes_to parcel.route.egress) (all_put (of_worker worker ingresses))
    + sum_by (may_put c parcel.route.egress) (of_worker (if worker then false else true) (node_at c AtRelay).ports)

-- the same of each ingress port of a worker
abbrev pub StopsWhenFull : Chain → Bool → List Ingress → List Ingress → Type 0
StopsWhenFull c worker all [] = Unit {0}
StopsWhenFull c worker all (i ∷ is) = IsFilled c worker all i.behind.slot × StopsWhenFull c worker all is

-- the events of an ingress port
abbrev pub told_by : Ingress → List Event
told_by i = i.heard ++ map (λ ticket. Left ticket) i.left

-- the PDU was heard, and is on the air no more; one that is gone or stale stays
abbrev pub air_after : List (Option Pdu) → Event → List (Option Pdu)
air_after air (HeardTicket ticket Gone) = air
air_after air (HeardTicket ticket (Stale number next)) = air
air_after air (HeardTicket ticket reply) = off_air air ticket
air_after air event = air

-- how an ingress port ended
abbrev pub behind_ingress : Ingress → PortSide
behind_ingress i = i.behind

-- how an egress port ended
abbrev pub behind_egress : Egress → PortSide
behind_egress e = e.behind

-- how many SDUs an egress port gave to its transmitter
abbrev pub taken_by : Egress → ℕ
taken_by e = length e.taken

-- a burst: each ingress port works, each egress port works, and what is staged is forgotten
pub record Bursts (old : Chain) (events : List Event) (reply : Reply) (new : Chain) : Type 0 where
  pub ingresses : List Ingress
  pub egresses : List Egress
  pub ingest : AllZip (λ (side : PortSide) (i : Ingress). Ingests old side (inbox old side.name) i.heard i.put i.left i.behind) (node_at old AtRelay).ports ingresses
  pub emit : AllZip (Emits (queue_capacity old) (all_put ingresses)) (map behind_ingress ingresses) egresses
  pub first_stops : StopsWhenFull old false ingresses (of_worker false ingresses)
  pub second_stops : StopsWhenFull old true ingresses (of_worker true ingresses)
  pub shows : events ≡ flat_map told_by ingresses
  pub says : reply ≡ OkTwo (length (all_put ingresses)) (sum_by taken_by egresses)
  pub is : new ≡ record (set_node old (record (node_at old AtRelay) { ports = map behind_egress egresses })) { air = fold air_after old.air events; staged = [] }

-- in the plain order a slot is full at the end only where its queue's old and new SDUs came to its capacity
abbrev pub IsPlainSlot : Chain → List Parcel → Option Parcel → Type 0
IsPlainSlot c put None = Unit {0}
IsPlainSlot c put (Some parcel) = queued_at c parcel.route.egress + count_by (goes_to parcel.route.egress) put ≡ queue_capacity c

-- the burst is in the plain order: what came into a queue stands there as the ingress ports put it, port by port
pub record IsPlain (old : Chain) (ingresses : List Ingress) (egresses : List Egress) : Type 0 where
  pub order : AllZip (λ (side : PortSide) (e : Egress). e.came ≡ filter (goes_to side.name) (all_put ingresses)) (node_at old AtRelay).ports egresses
  pub slots : (i : Ingress) (at : ℕ) → at < length ingresses → IsPlainSlot old (all_put ingresses) (slice_index_or ingresses at i).behind.slot
