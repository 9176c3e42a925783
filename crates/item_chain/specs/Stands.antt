-- What a chain of items has to do with a chain whose view is this: its items are the SDUs there.
use Rattle.std.specs.Prelude.{◌≡◌, ◌↔◌, ℕ, ◌+◌, ◌%◌, ◌<◌, ◌≤◌, ◌==◌, ◌&&◌, Bool, true, false, List}
use Rattle.std.specs.Prelude.{[], ◌∷◌, ◌++◌, length, slice_get, slice_index_or, find, Option, Some, None, is_some, option_map, Contains}
use Rattle.std.specs.List.{list_any}
use Rattle.link_base.specs.declared.limits.TheConstants.{COUNT_END, LONGEST_RLC_SDU}
use Rattle.link_base.specs.declared.names.Chan.{Chan}
use Rattle.link_base.specs.declared.names.Drb.{Drb}
use Rattle.link_base.specs.declared.names.Goal.{Goal}
use Rattle.link_base.specs.declared.names.Goal.TheVariants.{Direct as ToDirect, Relay as ToRelay}
use Rattle.link_base.specs.declared.names.Key.{Key}
use Rattle.link_base.specs.declared.names.LocalId.{LocalId}
use Rattle.link_base.specs.declared.names.Node.{Node as NodeKind}
use Rattle.link_base.specs.declared.names.PortName.{PortName}
use Rattle.link_base.specs.declared.names.PortName.TheVariants.{Direct, Pc5, Uu}
use Rattle.link_base.specs.declared.names.Remote.{Remote}
use Rattle.link_base.specs.declared.names.Side.{Side}
use Rattle.link_base.specs.declared.names.SnSize.{SnSize}
use Rattle.link_base.specs.declared.names.Way.{Way}
use Rattle.link_base.specs.declared.names.Way.TheVariants.{Ul, Dl}
use Rattle.link_base.specs.declared.rlc_words.Tag.{Tag}
use Rattle.link_base.specs.SequenceNumbers.{modulus, most_unconfirmed}
use Rattle.bearer_map.specs.declared.ids.Attachment.{Attachment}
use Rattle.bearer_map.specs.declared.rows.BearerRow.{BearerRow}
use Rattle.bearer_map.specs.declared.rows.MapRow.{MapRow}
use Rattle.bearer_map.specs.declared.rows.Pc5Row.{Pc5Row}
use Rattle.bearer_map.specs.declared.rows.UuRow.{UuRow}
use Rattle.bearer_map.specs.Contents.{Contents}
use Rattle.bearer_map.specs.Ids.{IsAttached}
use Rattle.pdcp_pdu.specs.Pdcp.{Pdcp, Sdu as SduPdu, Report as ReportPdu, IsBody, PdcpFits, pdcp_bytes}
use Rattle.pdcp_model.specs.Sender.{Sender, kept_at, is_reported}
use Rattle.pdcp_model.specs.Receiver.{Receiver, stored_at}
use Rattle.rlc_model.specs.declared.hop.Pdu.{Pdu}
use Rattle.rlc_model.specs.Hop.{on_air}
use Rattle.rlc_model.specs.Sides.{Entity}
use Rattle.rlc_model.specs.Tx.{Tx, Kept, kept_at as tx_kept_at}
use Rattle.rlc_law.specs.Ports.{Port, Ports, hop_of, PortsFit}
use Rattle.rlc_law.specs.Sides.{Epochs, SidesFit}
use Rattle.node_model.specs.declared.parcel.Parcel.{Parcel}
use Rattle.node_model.specs.Names.{NodeName, is_remote, is_of, node_of, owner, source, sink}
use Rattle.node_model.specs.State.{Incoming, Outgoing, id_in}
use Rattle.node_model.specs.Tables.{has_remote, map_row, first_count, is_open_on}
use Rattle.node_model.specs.Feeding.{under}
use Rattle.node_model.specs.Relaying.{ue_of}
use Rattle.chain_model.specs.declared.plan.Plan.{Plan}
use Rattle.chain_model.specs.Bursts.{way_in}
use Rattle.chain_model.specs.Plans.{is_open}
use Rattle.chain_model.specs.Sizes.{port_size}
use Rattle.chain_model.specs.Told.{first_goal, kind_of}
use Rattle.chain_law.specs.Entities.{port_settings}
use Rattle.item_law.specs.State.{Item, Sdu, Content, Data, Report, Spot, OnFirstHop, InSlot, InQueue, OnSecondHop}
use Rattle.item_law.specs.State.{Arrived, Lost, Path, way_of, has_applied, goal_at, epoch_at, is_over_relay, Reserves, TablesFit}
use Rattle.item_law.specs.State.{Tables as ItemTables, Chain as ItemChain, Sender as ItemSender, sink as sink_kind}
use Rattle.item_law.specs.Steps.{Step}
use Rattle.item_law.specs.World.{World, Reaches}
use Rattle.item_place.specs.Places.{Station, Link, Ingress, Egress, Box, Layout, StandsFor}
use Rattle.item_place.specs.HopFits.{HopFits}
use Rattle.item_chain.specs.View.{View}

-- the row of a bearer
abbrev pub row_of : Contents → Remote → Drb → Option BearerRow
row_of t remote drb = find (λ (row : BearerRow). is_remote remote row.remote && (drb.0 == row.drb.0)) t.bearers

-- the Uu channel of a row of channels
abbrev pub uu_of : MapRow → Chan
uu_of row = row.uu

-- how many SDUs of a bearer may be unconfirmed; none where there is no such bearer
abbrev pub row_limit : Option BearerRow → ℕ
row_limit None = 0
row_limit (Some row) = most_unconfirmed row.pdcp

-- the bearers with their limits, the Uu channels of their rows, and the paths at the start
abbrev pub item_tables : Contents → ItemTables
item_tables t = record {
  bearer = λ remote drb. is_some (row_of t remote drb);
  uu = λ remote drb. option_map uu_of (map_row t remote drb);
  goal = first_goal t;
  limit = λ remote drb. row_limit (row_of t remote drb);
}

-- the tables have this Uu channel
abbrev pub has_uu : Contents → Chan → Bool
has_uu t chan = list_any (λ (row : UuRow). chan.0 == row.chan.0) t.uus

-- the tables have this port: a direct or a PC5 port of one of their remotes, or a Uu port
abbrev pub has_port : Contents → PortName → Bool
has_port t (Direct remote drb) = has_remote t remote && is_some (row_of t remote drb)
has_port t (Pc5 remote chan) = has_remote t remote && list_any (λ (row : Pc5Row). is_remote remote row.remote && (chan.0 == row.chan.0)) t.pc5s
has_port t (Uu chan) = has_uu t chan

-- what is asked of tables: identities are of one remote, and the bearers of a remote that begins on the relay have rows; the identity of a bearer is from 1
-- to 32; a bearer has one row of channels, whose Uu channel the tables have, and rows of channels have no identities above 32
pub record TablesGood (t : Contents) : Type 0 where
  pub fit : TablesFit (item_tables t)
  pub drbs : (remote : Remote) (drb : Drb) (row : BearerRow) → row_of t remote drb ≡ Some row → (1 ≤ drb.0) × (drb.0 ≤ 32)
  pub firsts : (remote : Remote) (drb : Drb) (row : BearerRow) → row_of t remote drb ≡ Some row → (way : Way) → first_count row way ≤ COUNT_END
  pub maps : (row : MapRow) → Contains t.maps row → map_row t row.remote row.drb ≡ Some row
  pub uus : (row : MapRow) → Contains t.maps row → has_uu t row.uu ≡ true
  pub mapped : (row : MapRow) → Contains t.maps row → row.drb.0 ≤ 32

-- the path that a local identity stands for, or none
abbrev pub goal_of : Option LocalId → Goal
goal_of None = ToDirect
goal_of (Some id) = ToRelay id

-- the local identity of a path
abbrev pub id_of : Goal → Option LocalId
id_of ToDirect = None
id_of (ToRelay id) = Some id

-- the PDCP PDU of an item's content: an SDU goes with the SN of its COUNT, and a report says of each COUNT what the item does
abbrev pub IsPdu : BearerRow → Way → Content → Pdcp → Type 0
IsPdu row way (Data count sdu) pdu = pdu ≡ SduPdu ((first_count row way + count) % modulus row.pdcp) sdu
IsPdu row way (Report named) pdu = (fmc : ℕ) × (map : List ℕ) × (pdu ≡ ReportPdu fmc map) × ((count : ℕ) → named count ≡ is_reported fmc map (first_count row way + count))

-- the octets are those of an item: its PDCP PDU, which has a spelling, on the relay path under a SRAP header
pub record IsSpelt (t : Contents) (i : Item) (bytes : List ℕ) : Type 0 where
  pub row : BearerRow
  pub its_row : row_of t i.key.remote i.key.drb ≡ Some row
  pub pdu : Pdcp
  pub is_pdu : IsPdu row i.key.way i.content pdu
  pub fits : PdcpFits row.pdcp pdu
  pub its_bytes : bytes ≡ under (id_of i.goal) i.key.drb (pdcp_bytes row.pdcp pdu)

-- octets that RLC can take
abbrev pub IsLongEnough : List ℕ → Type 0
IsLongEnough bytes = (0 < length bytes) × (length bytes ≤ LONGEST_RLC_SDU)

-- the remote for which an item at a spot of the relay was routed
abbrev pub routed_for : Spot → Option Remote
routed_for (InSlot to) = Some to
routed_for (InQueue to) = Some to
routed_for OnFirstHop = None
routed_for (OnSecondHop to epoch) = None
routed_for Arrived = None
routed_for Lost = None

-- the egress of a bearer's route over the relay
abbrev pub egress_of : Way → MapRow → PortName
egress_of Ul row = Uu row.uu
egress_of Dl row = Pc5 row.remote row.pc5

-- the port is the egress of a key
abbrev pub IsEgress : Contents → Key → PortName → Type 0
IsEgress t key port = (row : MapRow) × (map_row t key.remote key.drb ≡ Some row) × (port ≡ egress_of key.way row)

-- an SDU at the relay is the item of this number
pub record IsParcel (t : Contents) (items : ℕ → Option Item) (spot : ℕ → Spot) (spell : ℕ → List ℕ) (x : Parcel) (n : ℕ) : Type 0 where
  pub item : Item
  pub is : items n ≡ Some item
  pub sdu : x.sdu ≡ spell n
  pub ue : item.goal ≡ ToRelay (ue_of x)
  pub way : way_of item ≡ x.route.key.way
  pub drb : item.key.drb ≡ x.route.key.drb
  pub routed : routed_for (spot n) ≡ Some x.route.key.remote
  pub egress : IsEgress t x.route.key x.route.egress

-- the SDUs, in their order, are what stands in the box: all before went on
pub record RowFits (P : Parcel → ℕ → Type 0) (b : Box) (xs : List Parcel) : Type 0 where
  pub from : ℕ
  pub long : length b.log ≡ from + length xs
  pub gone : (k : ℕ) → k < from → b.left k ≡ true
  pub stays : (k : ℕ) → from ≤ k → b.left k ≡ false
  pub each : (j : ℕ) (x : Parcel) → slice_get xs j ≡ Some x → (n : ℕ) × (slice_get b.log (from + j) ≡ Some n) × P x n

-- what a slot holds
abbrev pub as_list : Option Parcel → List Parcel
as_list None = []
as_list (Some x) = x ∷ []

-- an SDU in a queue has that queue's port as its egress, and stands there so
abbrev pub IsQueued : (Parcel → ℕ → Type 0) → PortName → Parcel → ℕ → Type 0
IsQueued P p x n = (x.route.egress ≡ p) × P x n

-- the SDU in a port's slot goes on in the way in which it came over the port, and in the slot of a remote's own port it was routed for this remote
abbrev pub IsOfSlot : PortName → Parcel → Type 0
IsOfSlot p x = (x.route.key.way ≡ way_in p) × ((remote : Remote) → is_of remote p ≡ true → x.route.key.remote ≡ remote)

-- slots and queues are rows of boxes, and what is in a slot is of the slot
pub record PlacesFit (P : Parcel → ℕ → Type 0) (box : Station → Box) (slot : PortName → Option Parcel) (queue : PortName → List Parcel) : Type 0 where
  pub slots : (p : PortName) → RowFits P (box (Ingress p)) (as_list (slot p))
  pub queues : (p : PortName) → RowFits (IsQueued P p) (box (Egress p)) (queue p)
  pub own : (p : PortName) (x : Parcel) → slot p ≡ Some x → IsOfSlot p x

-- the tag of a data PDU has its key and its COUNT, that of a status report no COUNT
abbrev pub IsTag : Contents → Key → Content → Tag → Type 0
IsTag t key (Data count sdu) tag = (tag.key ≡ key) × (row : BearerRow) × (row_of t key.remote key.drb ≡ Some row) × (tag.count ≡ Some (first_count row key.way + count))
IsTag t key (Report named) tag = tag.count ≡ None

-- what a direct port's hop of a way was given are direct items of the port's bearer under their tags, and what has left it has arrived
pub record DirectFits (remote : Remote) (drb : Drb) (way : Way) (t : Contents) (items : ℕ → Option Item) (spot : ℕ → Spot) (b : Box) (tx : Tx) : Type 0 where
  pub goals : (k n : ℕ) → slice_get b.log k ≡ Some n → (i : Item) × (items n ≡ Some i) × (i.goal ≡ ToDirect) × (i.key.remote ≡ remote) × (i.key.drb ≡ drb) × (way_of i ≡ way)
  pub arrived : (k n : ℕ) → slice_get b.log k ≡ Some n → b.left k ≡ true → spot n ≡ Arrived
  pub tags : (k n : ℕ) (i : Item) (kept : Kept) → slice_get b.log k ≡ Some n → items n ≡ Some i → tx_kept_at tx k ≡ Some kept → IsTag t i.key i.content kept.tag

-- what a Uu port's hop was given has the identities of its items in its tags
abbrev pub BearIds : (ℕ → Option Item) → Box → Tx → Type 0
BearIds items b tx = (k n : ℕ) (i : Item) (kept : Kept) → slice_get b.log k ≡ Some n → items n ≡ Some i → tx_kept_at tx k ≡ Some kept → kept.tag.ue ≡ id_of i.goal

-- what a port's hop was given fits it so, where the port is direct or a Uu port
abbrev pub FitsDirect : PortName → Way → Contents → (ℕ → Option Item) → (ℕ → Spot) → Box → Tx → Type 0
FitsDirect (Direct remote drb) way t items spot b tx = DirectFits remote drb way t items spot b tx
FitsDirect (Pc5 remote chan) way t items spot b tx = Unit {0}
FitsDirect (Uu chan) way t items spot b tx = BearIds items b tx

-- a side of a port at a node of this kind is open in this epoch as the paths say: a direct or a PC5 port in the epoch of the remote at the node, where the path
-- is direct or over the relay; a Uu port in epoch 0
abbrev pub IsOpenBy : (Remote → Path) → NodeKind → PortName → ℕ → Type 0
IsOpenBy path kind (Direct remote drb) epoch = (epoch ≡ epoch_at (path remote) kind) × (goal_at (path remote) kind ≡ ToDirect)
IsOpenBy path kind (Pc5 remote chan) epoch = (epoch ≡ epoch_at (path remote) kind) × (is_over_relay (goal_at (path remote) kind) ≡ true)
IsOpenBy path kind (Uu chan) epoch = epoch ≡ 0

-- the kind of the node that has a side of a port
abbrev pub kind_at : Side → PortName → NodeKind
kind_at at port = kind_of (owner at port)

-- a plan of a remote is the open one of its path, or its path
pub data PlanFits (path : Path) (p : Plan) : Type 0 where
  opened : is_open p ≡ true → path.plan ≡ Some (record { asks = p.goal; at_remote = p.at_remote; at_relay = p.at_relay; at_gnb = p.at_gnb }) → path.epoch + 1 ≡ p.epoch
      → PlanFits path p
  closed : is_open p ≡ false → path.plan ≡ None → path.epoch ≡ p.epoch → path.goal ≡ p.goal → PlanFits path p

-- open sides are open as the paths say; each node attaches as the path says, and no two identities to one remote; plans are those of the paths; and the
-- tables have each remote with an identity, and each remote of theirs has a plan
pub record PathsFit (t : Contents) (path : Remote → Path) (entity : Side → PortName → Option Entity) (attached : NodeName → List Attachment)
    (plan : Remote → Option Plan) : Type 0 where
  pub opens : (at : Side) (port : PortName) (e : Entity) → entity at port ≡ Some e → IsOpenBy path (kind_at at port) port e.epoch
  pub ids : (kind : NodeKind) (remote : Remote) → goal_of (id_in (attached (node_of kind remote)) remote) ≡ goal_at (path remote) kind
  pub agree : (name : NodeName) (remote : Remote) (id : LocalId) → IsAttached (attached name) remote id.0 → id_in (attached name) remote ≡ Some id
  pub plans : (remote : Remote) (p : Plan) → plan remote ≡ Some p → PlanFits (path remote) p
  pub listed : (remote : Remote) (id : LocalId) → Reserves (path remote) id → has_remote t remote ≡ true
  pub lasts : (remote : Remote) → has_remote t remote ≡ true → (p : Plan) × (plan remote ≡ Some p)

-- each PDU on the air is of a port that was opened; a remote's ports were opened up to its epoch; both sides of the tables' ports are there, those of Uu ports open,
-- and a side of a remote's port wherever the node has the remote on the port's path; each side has the size of its port; and the nodes of each remote of the tables
-- are there
pub record OpeningsFit (t : Contents) (path : Remote → Path) (ports : Ports) (epochs : Epochs) (air : List (Option Pdu)) (entity : Side → PortName → Option Entity)
    (size : Side → PortName → Option SnSize) (there : NodeName → Bool) : Type 0 where
  pub aired : (ticket : ℕ) (pdu : Pdu) → on_air air ticket ≡ Some pdu → (port : Port) × (ports pdu.port pdu.epoch ≡ Some port)
  pub fresh : (remote : Remote) (at : Side) (name : PortName) → is_of remote name ≡ true → epochs at name ≤ epoch_at (path remote) (kind_at at name) + 1
  pub uus : (at : Side) (chan : Chan) → has_uu t chan ≡ true → is_some (entity at (Uu chan)) ≡ true
  pub both : (at : Side) (name : PortName) → has_port t name ≡ true → is_some (size at name) ≡ true
  pub on_path : (remote : Remote) (at : Side) (name : PortName) → is_of remote name ≡ true → is_some (size at name) ≡ true
      → is_open_on (goal_at (path remote) (kind_at at name)) name ≡ true → is_some (entity at name) ≡ true
  pub sizes : (at : Side) (name : PortName) (s : SnSize) → size at name ≡ Some s → s ≡ port_size t name
  pub nodes : (remote : Remote) → has_remote t remote ≡ true → (kind : NodeKind) → there (node_of kind remote) ≡ true

-- a PDCP sender keeps the SDUs submitted that are not confirmed, each of which has 1 to 9,000 bytes
pub record SenderFits (b : ItemSender) (s : Sender) : Type 0 where
  pub long : length b.submitted ≡ length s.kept
  pub sdus : (c : ℕ) (sdu : Sdu) → kept_at s c ≡ Some sdu → slice_index_or b.submitted c [] ≡ sdu
  pub confirmed : (c : ℕ) → c < length s.kept → b.confirmed c ≡ true ↔ kept_at s c ≡ None
  pub place : b.place ≡ s.place
  pub waits : b.waits ≡ s.waits
  pub bodies : (c : ℕ) → c < length b.submitted → IsBody (slice_index_or b.submitted c [])

-- what a PDCP receiver has handed up or stores is what was heard
pub record ReceiverFits (heard : ℕ → Option Sdu) (r : Receiver) : Type 0 where
  pub up : (c : ℕ) → c < r.handed → is_some (heard c) ≡ true
  pub stored : (n : ℕ) → is_some (heard (r.handed + n)) ≡ is_some (stored_at r n)
  pub sdus : (n : ℕ) (x sdu : Sdu) → heard (r.handed + n) ≡ Some x → stored_at r n ≡ Some sdu → x ≡ sdu
  pub stops : stored_at r 0 ≡ None

-- a sending end is at the source of its key, of a bearer of the tables
pub record OutgoingFits (t : Contents) (sender : Key → ItemSender) (name : NodeName) (key : Key) (o : Outgoing) : Type 0 where
  pub home : name ≡ source key
  pub named : o.key ≡ key
  pub row : BearerRow
  pub its_row : row_of t key.remote key.drb ≡ Some row
  pub size : o.sender.size ≡ row.pdcp
  pub first : o.sender.first ≡ first_count row key.way
  pub few : o.sender.first + length o.sender.kept ≤ COUNT_END
  pub fits : SenderFits (sender key) o.sender

-- a receiving end is at the sink of its key, of a bearer of the tables; a report that is wanted of the items is wanted there; and an end that holds no report
-- back has not applied an open plan
pub record IncomingFits (t : Contents) (path : Remote → Path) (heard : Key → ℕ → Option Sdu) (wanted : Key → Bool) (name : NodeName) (key : Key) (i : Incoming) : Type 0 where
  pub home : name ≡ sink key
  pub named : i.key ≡ key
  pub row : BearerRow
  pub its_row : row_of t key.remote key.drb ≡ Some row
  pub size : i.receiver.size ≡ row.pdcp
  pub first : i.receiver.first ≡ first_count row key.way
  pub fits : ReceiverFits (heard key) i.receiver
  pub wants : wanted key ≡ true → i.wanted ≡ true
  pub ready : i.held_back ≡ false → has_applied (path key.remote) (sink_kind key.way) ≡ false

-- each end that a node has fits, and each key of the tables has both its ends
pub record EndsFit (t : Contents) (path : Remote → Path) (sender : Key → ItemSender) (heard : Key → ℕ → Option Sdu) (wanted : Key → Bool)
    (outgoing : NodeName → Key → Option Outgoing) (incoming : NodeName → Key → Option Incoming) : Type 0 where
  pub outgoings : (name : NodeName) (key : Key) (o : Outgoing) → outgoing name key ≡ Some o → OutgoingFits t sender name key o
  pub incomings : (name : NodeName) (key : Key) (i : Incoming) → incoming name key ≡ Some i → IncomingFits t path heard wanted name key i
  pub sends : (key : Key) (row : BearerRow) → row_of t key.remote key.drb ≡ Some row → (o : Outgoing) × (outgoing (source key) key ≡ Some o)
  pub receives : (key : Key) (row : BearerRow) → row_of t key.remote key.drb ≡ Some row → (i : Incoming) × (incoming (sink key) key ≡ Some i)

-- a world in which nothing was injected and no channel failed
abbrev pub calm : ItemChain → World
calm chain = record { chain = chain; tainted = λ remote. false; broken = λ remote. false }

-- what stands for a chain: a chain of items, where its items stand, the ports that were opened with the epochs to which their sides have come, and the octets of items
pub record Ghost : Type 0 where
  pub chain : ItemChain
  pub layout : Layout
  pub ports : Ports
  pub epochs : Epochs
  pub spell : ℕ → List ℕ

-- a ghost stands for a chain of this view: its chain of items can be reached; each item has its octets, which stand where the layout says; the open entities
-- are sides of ports that can be reached, whose SDUs are items, direct and Uu ports with their tags, and the air has what ports have made; slots, queues, paths
-- and ends are those of the items; and ports can be opened anew
pub record Stands (g : Ghost) (v : View) : Type 0 where
  pub good : TablesGood v.tables
  pub reaches : Reaches (item_tables v.tables) (calm g.chain)
  pub layout : StandsFor v.tables g.layout g.chain.items g.chain.spot
  pub spelt : (n : ℕ) (i : Item) → g.chain.items n ≡ Some i → IsSpelt v.tables i (g.spell n)
  pub lengths : (n : ℕ) (i : Item) → g.chain.items n ≡ Some i → IsLongEnough (g.spell n)
  pub ports : PortsFit g.ports v.air
  pub sides : SidesFit (port_settings v.tables) g.ports g.epochs v.entity
  pub hops : (name : PortName) (epoch : ℕ) (port : Port) → g.ports name epoch ≡ Some port → (way : Way) → HopFits g.spell (hop_of port way) (g.layout.box (Link name way epoch))
  pub directs : (name : PortName) (epoch : ℕ) (port : Port) → g.ports name epoch ≡ Some port → (way : Way)
      → FitsDirect name way v.tables g.chain.items g.chain.spot (g.layout.box (Link name way epoch)) (hop_of port way).tx
  pub unopened : (name : PortName) (epoch : ℕ) → g.ports name epoch ≡ None → (way : Way) → (g.layout.box (Link name way epoch)).log ≡ []
  pub places : PlacesFit (IsParcel v.tables g.chain.items g.chain.spot g.spell) g.layout.box v.slot v.queue
  pub paths : PathsFit v.tables g.chain.path v.entity v.attached v.plan
  pub openings : OpeningsFit v.tables g.chain.path g.ports g.epochs v.air v.entity v.size v.there
  pub ends : EndsFit v.tables g.chain.path g.chain.sender g.chain.heard g.chain.wanted v.outgoing v.incoming

-- the items go on by steps
pub data Goes (t : ItemTables) (s : ItemChain) : ItemChain → Type 0 where
  rests : Goes t s s
  steps : {mid new : ItemChain} → Goes t s mid → Step t mid new → Goes t s new

-- the ports that were opened are there, and their hops have at the front what they were given before
abbrev pub KeepGiven : Ports → Ports → Type 0
KeepGiven old new = (name : PortName) (epoch : ℕ) (port : Port) → old name epoch ≡ Some port
    → (now : Port) × (new name epoch ≡ Some now) × ((way : Way) → (more : List (List ℕ)) × ((hop_of now way).given ≡ (hop_of port way).given ++ more))

-- a ghost goes on by steps of its items, and keeps what its hops were given, to one that stands for a chain of this view
pub record Refines (t : Contents) (g : Ghost) (v : View) : Type 0 where
  pub ghost : Ghost
  pub goes : Goes (item_tables t) g.chain ghost.chain
  pub given : KeepGiven g.ports ghost.ports
  pub stands : Stands ghost v
