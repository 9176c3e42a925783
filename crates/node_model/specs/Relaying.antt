-- What the relay does with the SDUs in its slots and queues (TS 38.351 clause 5.3).
use Rattle.std.specs.Prelude.{◌≡◌, ℕ, ◌==◌, List, [], ◌∷◌, ◌++◌, length, slice_index, nat_le, Option, Some, None, is_none, if◌then◌else◌}
use Rattle.link_base.specs.declared.names.LocalId.{LocalId}
use Rattle.link_base.specs.declared.names.PortName.{PortName}
use Rattle.link_base.specs.declared.rlc_words.Tag.{Tag}
use Rattle.rlc_model.specs.Tx.{Tx, Gives, room}
use Rattle.rlc_model.specs.Sides.{Entity}
use Rattle.node_model.specs.declared.answers.PushReply.{PushReply}
use Rattle.node_model.specs.declared.answers.PushReply.TheVariants as pushed
use Rattle.node_model.specs.declared.answers.PullReply.{PullReply}
use Rattle.node_model.specs.declared.answers.PullReply.TheVariants as pulled
use Rattle.node_model.specs.declared.parcel.Parcel.{Parcel}
use Rattle.node_model.specs.State.{PortSide, Node, side_at, queue_at, set_side}
use Rattle.node_model.specs.Sides.{IsOpen}

-- the local identity in the SRAP header of an SDU of the relay: its second octet (TS 38.351 clause 6.2.2)
abbrev pub ue_of : Parcel → LocalId
ue_of parcel = record { 0 = slice_index parcel.sdu 1 }

-- a slot can't be pushed: it is empty, or the queue of its SDU's egress holds as many as it may
abbrev pub slot_refusal : ℕ → Node → Option Parcel → Option PushReply
slot_refusal capacity n None = Some pushed.Nothing
slot_refusal capacity n (Some parcel) = if nat_le capacity (length (queue_at n parcel.route.egress)) then Some pushed.QueueFull else None

-- a push is refused: the side isn't there or isn't open, or its slot can't be pushed
abbrev pub push_refusal : ℕ → Node → Option PortSide → Option PushReply
push_refusal capacity n None = Some pushed.NoPort
push_refusal capacity n (Some side) = if is_none side.entity then Some pushed.NoPort else slot_refusal capacity n side.slot

-- the SDU in the slot of an ingress goes to the back of its queue
pub record Pushes (old : Node) (port egress : PortName) (new : Node) : Type 0 where
  pub from : PortSide
  pub here : side_at old port ≡ Some from
  pub parcel : Parcel
  pub full : from.slot ≡ Some parcel
  pub its_egress : egress ≡ parcel.route.egress
  pub mid : Node
  pub empties : mid ≡ set_side old (record from { slot = None })
  pub to : PortSide
  pub there : side_at mid egress ≡ Some to
  pub is : new ≡ set_side mid (record to { queue = to.queue ++ parcel ∷ [] })

-- a push is answered so
abbrev pub PushesPort : ℕ → Node → PortName → PushReply → Node → Type 0
PushesPort capacity old port (pushed.Done egress) new = (push_refusal capacity old (side_at old port) ≡ None) × Pushes old port egress new
PushesPort capacity old port reply new = (push_refusal capacity old (side_at old port) ≡ Some reply) × (new ≡ old)

-- nothing can be pulled: the queue is empty, or the transmitter has no room
abbrev pub queue_refusal : Entity → List Parcel → Option PullReply
queue_refusal entity [] = Some pulled.Empty
queue_refusal entity (parcel ∷ parcels) = if room entity.tx == 0 then Some pulled.Stalled else None

-- the same of a side that may be closed
abbrev pub entity_refusal : Option Entity → List Parcel → Option PullReply
entity_refusal None parcels = Some pulled.NoPort
entity_refusal (Some entity) parcels = queue_refusal entity parcels

-- a pull is refused: the side isn't there or isn't open, or nothing can be pulled
abbrev pub pull_refusal : Option PortSide → Option PullReply
pull_refusal None = Some pulled.NoPort
pull_refusal (Some side) = entity_refusal side.entity side.queue

-- what a transmitter of the relay keeps beside an SDU
abbrev pub parcel_tag : Parcel → Tag
parcel_tag parcel = record { key = parcel.route.key; count = None; ue = Some (ue_of parcel) }

-- the SDU at the front of the queue of an egress is given to its transmitter
pub record Pulls (old : Node) (port : PortName) (number : ℕ) (new : Node) : Type 0 where
  pub side : PortSide
  pub entity : Entity
  pub its : IsOpen old port side entity
  pub parcel : Parcel
  pub parcels : List Parcel
  pub waits : side.queue ≡ parcel ∷ parcels
  pub tx : Tx
  pub gives : Gives entity.tx (parcel_tag parcel) parcel.sdu number tx
  pub is : new ≡ set_side old (record side { entity = Some (record entity { tx = tx }); queue = parcels })

-- a pull is answered so
abbrev pub PullsPort : Node → PortName → PullReply → Node → Type 0
PullsPort old port (pulled.Done number) new = (pull_refusal (side_at old port) ≡ None) × Pulls old port number new
PullsPort old port reply new = (pull_refusal (side_at old port) ≡ Some reply) × (new ≡ old)
