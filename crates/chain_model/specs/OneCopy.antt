-- Which SDUs are live, that is, may still come to the receiving end of their key; and that of each COUNT there is one copy.
use Rattle.std.specs.Prelude.{◌≡◌, ◌≢◌, ◌⊎◌, ℕ, ◌+◌, ◌<◌, true, false, List, length, slice_get, Some, None, Contains}
use Rattle.link_base.specs.declared.names.LocalId.{LocalId}
use Rattle.link_base.specs.declared.names.Remote.{Remote}
use Rattle.link_base.specs.declared.names.Key.{Key}
use Rattle.link_base.specs.declared.names.PortName.{PortName}
use Rattle.link_base.specs.declared.names.PortName.TheVariants.{Direct, Pc5, Uu}
use Rattle.link_base.specs.declared.names.Side.TheVariants.{Low, High}
use Rattle.link_base.specs.declared.names.Way.{Way}
use Rattle.link_base.specs.declared.names.Way.TheVariants.{Ul, Dl}
use Rattle.link_base.specs.SequenceNumbers.{Near}
use Rattle.bearer_map.specs.declared.rows.BearerRow.{BearerRow}
use Rattle.bearer_map.specs.declared.rows.MapRow.{MapRow}
use Rattle.srap_header.specs.Srap.{Srap, IsSrap}
use Rattle.pdcp_pdu.specs.Pdcp.{Sdu, Report, IsPdcp}
use Rattle.pdcp_pdu.specs.Reports.{Reports}
use Rattle.pdcp_model.specs.Sender.{kept_at}
use Rattle.pdcp_model.specs.Receiver.{rx_deliv}
use Rattle.rlc_model.specs.Tx.{Kept, kept_at as rlc_kept_at}
use Rattle.rlc_model.specs.Rx.{Done, got}
use Rattle.script_text.specs.History.{Entry}
use Rattle.node_model.specs.declared.parcel.Parcel.{Parcel}
use Rattle.chain_model.specs.declared.plan.Plan.{Plan}
use Rattle.rlc_model.specs.Sides.{Entity, flip, sender_of, hearer_of}
use Rattle.node_model.specs.Names.{NodeName, AtRemote, AtRelay, AtGnb, source, sink}
use Rattle.node_model.specs.State.{id_at, slot_at, queue_at}
use Rattle.chain_model.specs.State.{Chain, node_at, plan_at, entity_on, sender_at, receiving_at}
use Rattle.node_model.specs.Tables.{map_row, first_count}
use Rattle.chain_model.specs.Plans.{is_open}
use Rattle.chain_model.specs.Bursts.{way_in, way_out}
use Rattle.chain_model.specs.Told.{epoch_at, kind_of}
use Rattle.chain_model.specs.Heard.{IsHeard}

-- where an SDU can be: under a number of a hop, which stands for the SDU in the transmitter and all its PDUs together; in the slot of an ingress
-- port of the relay; or at a position of the queue of an egress port
pub data Spot : Type 0 where
  OnHop : (port : PortName) (way : Way) (number : ℕ) → Spot
  InSlot : (port : PortName) → Spot
  InQueue : (port : PortName) (position : ℕ) → Spot

-- some chain of a run, of which past has all so far, had this SDU under a number of the hop in this epoch
pub record WasKept (past : List Chain) (port : PortName) (way : Way) (epoch number : ℕ) (sdu : List ℕ) : Type 0 where
  pub chain : Chain
  pub among : Contains past chain
  pub entity : Entity
  pub its : entity_on chain (sender_of way) port ≡ Some entity
  pub its_epoch : entity.epoch ≡ epoch
  pub kept : Kept
  pub there : rlc_kept_at entity.tx number ≡ Some kept
  pub is : kept.sdu ≡ sdu

-- on a hop an SDU was given, isn't complete at the receiver, and that receiver is open in the hop's epoch
pub record WaitsOnHop (past : List Chain) (c : Chain) (port : PortName) (way : Way) (number : ℕ) (sdu : List ℕ) : Type 0 where
  pub receiver : Entity
  pub is_open : entity_on c (hearer_of way) port ≡ Some receiver
  pub given : WasKept past port way receiver.epoch number sdu
  pub open_number : got receiver.rx number ≢ Done

-- an SDU is at a spot, on its way so
abbrev pub IsAt : List Chain → Chain → Spot → Way → List ℕ → Type 0
IsAt past c (OnHop port way number) going sdu = (going ≡ way) × WaitsOnHop past c port way number sdu
IsAt past c (InSlot port) going sdu = (going ≡ way_in port) × (parcel : Parcel) × (slot_at (node_at c AtRelay) port ≡ Some parcel) × (parcel.sdu ≡ sdu)
IsAt past c (InQueue port position) going sdu = (going ≡ way_out port) × (parcel : Parcel) × (slice_get (queue_at (node_at c AtRelay) port) position ≡ Some parcel) × (parcel.sdu ≡ sdu)

-- a node attaches the local identity to the remote
abbrev pub Attaches : Chain → NodeName → Remote → LocalId → Type 0
Attaches c name remote id = id_at (node_at c name) remote ≡ Some id

-- both sides of a port are open in one epoch
pub record IsJoined (c : Chain) (port : PortName) : Type 0 where
  pub low : Entity
  pub high : Entity
  pub low_open : entity_on c Low port ≡ Some low
  pub high_open : entity_on c High port ≡ Some high
  pub same : low.epoch ≡ high.epoch

-- ahead of the relay: in the way up the gNB attaches the identity, and the Uu port is joined; in the way down the remote does, and the PC5 port is
abbrev pub OpenBehindRelay : Chain → Remote → MapRow → LocalId → Way → Type 0
OpenBehindRelay c remote row id Ul = IsJoined c (Uu row.uu) × Attaches c AtGnb remote id
OpenBehindRelay c remote row id Dl = IsJoined c (Pc5 remote row.pc5) × Attaches c (AtRemote remote) remote id

-- each node ahead of a spot attaches the identity to the remote, and each hop ahead is joined
abbrev pub IsOpenAhead : Chain → Remote → MapRow → LocalId → Way → Spot → Type 0
IsOpenAhead c remote row id Ul (OnHop (Pc5 r chan) way number) = Attaches c AtRelay remote id × OpenBehindRelay c remote row id Ul
IsOpenAhead c remote row id Dl (OnHop (Uu chan) way number) = Attaches c AtRelay remote id × OpenBehindRelay c remote row id Dl
IsOpenAhead c remote row id Ul (OnHop (Uu chan) way number) = Attaches c AtGnb remote id
IsOpenAhead c remote row id Dl (OnHop (Pc5 r chan) way number) = Attaches c (AtRemote remote) remote id
IsOpenAhead c remote row id going (OnHop (Direct r drb) way number) = ⊥
IsOpenAhead c remote row id going (InSlot port) = OpenBehindRelay c remote row id going
IsOpenAhead c remote row id going (InQueue port position) = OpenBehindRelay c remote row id going

-- over the relay an SDU at a spot is a SRAP PDU with this PDCP PDU of a bearer, and the way ahead is open for its identity
pub record IsLiveOver (c : Chain) (key : Key) (going : Way) (spot : Spot) (sdu pdu : List ℕ) : Type 0 where
  pub header : Srap
  pub reads : IsSrap header sdu
  pub body : header.body ≡ pdu
  pub bearer : key.drb.0 ≡ header.bearer + 1
  pub row : MapRow
  pub its_row : map_row c.tables key.remote key.drb ≡ Some row
  pub ahead : IsOpenAhead c key.remote row (record { 0 = header.ue }) going spot

-- a PDCP PDU of a bearer goes so from a spot, live
pub data IsLivePdu (past : List Chain) (c : Chain) (key : Key) (going : Way) (spot : Spot) (pdu : List ℕ) : Type 0 where
  direct : (number : ℕ) → spot ≡ OnHop (Direct key.remote key.drb) going number → IsAt past c spot going pdu → IsLivePdu past c key going spot pdu
  over_relay : (sdu : List ℕ) → IsAt past c spot going sdu → IsLiveOver c key going spot sdu pdu → IsLivePdu past c key going spot pdu

-- an SDU of a key is live at a spot, under the COUNT for which the receiving end would take it (TS 38.323 clause 7.1)
pub record IsLive (past : List Chain) (c : Chain) (key : Key) (spot : Spot) (count : ℕ) : Type 0 where
  pub pdu : List ℕ
  pub live : IsLivePdu past c key key.way spot pdu
  pub sn : ℕ
  pub sdu : List ℕ
  pub reads : IsPdcp (receiving_at c key).receiver.size (Sdu sn sdu) pdu
  pub near : Near (receiving_at c key).receiver.size sn (rx_deliv (receiving_at c key).receiver) count

-- a status report about a key is live at a spot, on its way back
pub record IsLiveReport (past : List Chain) (c : Chain) (key : Key) (spot : Spot) (fmc : ℕ) (map : List ℕ) : Type 0 where
  pub pdu : List ℕ
  pub live : IsLivePdu past c key (flip key.way) spot pdu
  pub reads : IsPdcp (receiving_at c key).receiver.size (Report fmc map) pdu

-- both ends of the key stand in one epoch
abbrev pub InOneEpoch : List Entry → Key → Type 0
InOneEpoch h key = epoch_at (kind_of (source key)) key.remote h ≡ epoch_at (kind_of (sink key)) key.remote h

-- no plan of the remote is open
abbrev pub HasNoPlan : Chain → Remote → Type 0
HasNoPlan c remote = (p : Plan) → plan_at c remote ≡ Some p → is_open p ≡ false

-- of a key, delivered PDUs complete the SDU of this COUNT, with the tables of the chain
abbrev pub IsHeardNow : Chain → List Entry → BearerRow → Key → ℕ → Type 0
IsHeardNow c h row key count = IsHeard c.tables row key h count

-- of a key: (a) what its sender doesn't keep any more is heard; (b) no COUNT is live at two spots, and none that is heard; (c) while the sender waits
-- and both ends stand in one epoch no COUNT is live, and each live report names all that is heard; (d) while no plan of the remote is open, a report is
-- wanted or live if the sender waits, and if it doesn't each COUNT that it gave is heard or live
pub record OneCopy (past : List Chain) (c : Chain) (h : List Entry) (row : BearerRow) (key : Key) : Type 0 where
  pub heard_or_kept : (n : ℕ) → n < length (sender_at c key).kept → kept_at (sender_at c key) n ≡ None → IsHeardNow c h row key (first_count row key.way + n)
  pub live_once : (spot other : Spot) (count : ℕ) → IsLive past c key spot count → IsLive past c key other count → spot ≡ other
  pub live_unheard : (spot : Spot) (count : ℕ) → IsLive past c key spot count → IsHeardNow c h row key count → ⊥
  pub none_in_wait : (sender_at c key).waits ≡ true → InOneEpoch h key → (spot : Spot) (count : ℕ) → IsLive past c key spot count → ⊥
  pub names_heard : (sender_at c key).waits ≡ true → InOneEpoch h key → (spot : Spot) (fmc : ℕ) (map : List ℕ) → IsLiveReport past c key spot fmc map
      → (count : ℕ) → IsHeardNow c h row key count → Reports fmc map count
  pub wait_ends : HasNoPlan c key.remote → (sender_at c key).waits ≡ true → ((receiving_at c key).wanted ≡ true) ⊎ ((spot : Spot) × (fmc : ℕ) × (map : List ℕ) × IsLiveReport past c key spot fmc map)
  pub given_arrives : HasNoPlan c key.remote → (sender_at c key).waits ≡ false → (n : ℕ) → n < (sender_at c key).place
      → IsHeardNow c h row key (first_count row key.way + n) ⊎ ((spot : Spot) × IsLive past c key spot (first_count row key.way + n))
