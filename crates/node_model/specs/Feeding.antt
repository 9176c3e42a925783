-- What an end gives to its RLC transmitters after each line: first the status reports that are wanted, then data PDUs, in key order, as long as
-- there is room (TS 38.323 clauses 5.2.1 and 5.4.1, TS 38.351 clause 5.3).
use Rattle.std.specs.Prelude.{◌≡◌, ℕ, ◌+◌, ◌-◌, Bool, true, false, not, ◌&&◌, ◌||◌, nat_lt, nat_le, List, [], ◌∷◌, ◌++◌, map, Option, Some, None, is_some, option_map}
use Rattle.link_base.specs.declared.names.Drb.{Drb}
use Rattle.link_base.specs.declared.names.LocalId.{LocalId}
use Rattle.link_base.specs.declared.names.Key.{Key}
use Rattle.link_base.specs.declared.names.PortName.{PortName}
use Rattle.link_base.specs.declared.names.PortName.TheVariants.{Direct}
use Rattle.link_base.specs.declared.rlc_words.Tag.{Tag}
use Rattle.bearer_map.specs.Contents.{Contents}
use Rattle.srap_header.specs.Srap.{srap, srap_bytes}
use Rattle.pdcp_pdu.specs.Pdcp.{Report, pdcp_bytes}
use Rattle.rlc_model.specs.Tx.{Tx, Gives, room}
use Rattle.rlc_model.specs.Sides.{Entity}
use Rattle.pdcp_model.specs.Sender.{kept_at, next, has_next, data_pdu, gave_next}
use Rattle.pdcp_model.specs.Receiver.{IsReport, can_report}
use Rattle.node_model.specs.Names.{back}
use Rattle.node_model.specs.State.{PortSide, Outgoing, Incoming, Node, entity_at, id_at, outgoing, incoming, set_entity, set_outgoing, set_incoming}
use Rattle.node_model.specs.Tables.{settings, map_row, relay_port}
use Rattle.node_model.specs.Sides.{IsOpen}

-- the port over which a node that attaches this identity to a key's remote, or none, sends PDUs of the key
abbrev pub port_on : Contents → Option LocalId → Key → Option PortName
port_on t None key = Some (Direct key.remote key.drb)
port_on t (Some id) key = option_map (relay_port key.way) (map_row t key.remote key.drb)

-- the port over which a node sends PDUs of a key
abbrev pub first_hop : Contents → Node → Key → Option PortName
first_hop t n key = port_on t (id_at n key.remote) key

-- on the relay path a SRAP header stands before a PDCP PDU. BEARER ID is the bearer's identity minus 1
abbrev pub under : Option LocalId → Drb → List ℕ → List ℕ
under None drb pdu = pdu
under (Some id) drb pdu = srap_bytes (srap (drb.0 - 1) id.0 pdu)

-- how many SDUs the transmitter of an entity takes; none where there is none
abbrev pub room_of : Option Entity → ℕ
room_of None = 0
room_of (Some entity) = room entity.tx

-- how many SDUs the transmitter of a port takes
abbrev pub room_at : Node → Option PortName → ℕ
room_at n None = 0
room_at n (Some port) = room_of (entity_at n port)

-- the transmitter takes an SDU that sends PDUs of a key
abbrev pub has_room : Contents → Node → Key → Bool
has_room t n key = nat_lt 0 (room_at n (first_hop t n key))

-- what a transmitter of an end keeps beside a PDU of a key: of a data PDU the COUNT
abbrev pub tag_of : Node → Key → Option ℕ → Tag
tag_of n key count = record { key = key; count = count; ue = id_at n key.remote }

-- a PDCP PDU that goes in the way of a key is given to its first hop; its tag tells the key that it is about
pub record GivesPdu (t : Contents) (old : Node) (key : Key) (tag : Tag) (pdu : List ℕ) (new : Node) : Type 0 where
  pub port : PortName
  pub its_port : first_hop t old key ≡ Some port
  pub side : PortSide
  pub entity : Entity
  pub its : IsOpen old port side entity
  pub tx : Tx
  pub number : ℕ
  pub gives : Gives entity.tx tag (under (id_at old key.remote) key.drb pdu) number tx
  pub is : new ≡ set_entity old side (record entity { tx = tx })

-- as many SDUs as the setting says were handed up since the last report, over the relay
abbrev pub is_enough : ℕ → Bool → Incoming → Bool
is_enough report on_relay i = nat_lt 0 report && (on_relay && nat_le (i.reported + report) i.receiver.handed)

-- a status report about a key is to be given
abbrev pub wants_report : Contents → Node → Incoming → Bool
wants_report t n i = not i.held_back && (i.wanted || is_enough (settings t).report (is_some (id_at n i.key.remote)) i)

-- a status report about a key goes the other way, over the bearer's ports
pub record GivesReport (t : Contents) (old : Node) (i : Incoming) (new : Node) : Type 0 where
  pub fmc : ℕ
  pub map : List ℕ
  pub its : IsReport i.receiver fmc map
  pub mid : Node
  pub gives : GivesPdu t old (back i.key) (tag_of old i.key None) (pdcp_bytes i.receiver.size (Report fmc map)) mid
  pub is : new ≡ set_incoming mid (record i { wanted = false; reported = i.receiver.handed })

-- the status report about a key: none is wanted; or it can't tell of all that is stored, and is wanted no more; or there is no room for it; or
-- it is given. The keys given are listed
pub data FeedsReport (t : Contents) (old : Node) (i : Incoming) (given : List Key) (new : Node) : Type 0 where
  unwanted : wants_report t old i ≡ false → given ≡ [] → new ≡ old → FeedsReport t old i given new
  dropped : wants_report t old i ≡ true → can_report i.receiver ≡ false → given ≡ [] → new ≡ set_incoming old (record i { wanted = false }) → FeedsReport t old i given new
  no_room : wants_report t old i ≡ true → can_report i.receiver ≡ true → has_room t old (back i.key) ≡ false → given ≡ [] → new ≡ old → FeedsReport t old i given new
  gives : wants_report t old i ≡ true → can_report i.receiver ≡ true → has_room t old (back i.key) ≡ true → GivesReport t old i new → given ≡ i.key ∷ [] → FeedsReport t old i given new

-- the status reports about these keys, in their order
abbrev pub FeedsReports : Contents → Node → List Key → List Key → Node → Type 0
FeedsReports t old [] given new = (given ≡ []) × (new ≡ old)
FeedsReports t old (key ∷ keys) given new =
    (first : List Key) × (more : List Key) × (mid : Node) × FeedsReport t old (incoming old key) first mid × FeedsReports t mid keys more new × (given ≡ first ++ more)

-- the next SDU of a key is given as a data PDU (5.2.1)
pub record GivesData (t : Contents) (old : Node) (o : Outgoing) (new : Node) : Type 0 where
  pub sdu : List ℕ
  pub its : kept_at o.sender (next o.sender) ≡ Some sdu
  pub mid : Node
  pub gives : GivesPdu t old o.key (tag_of old o.key (Some (o.sender.first + next o.sender))) (pdcp_bytes o.sender.size (data_pdu o.sender (next o.sender) sdu)) mid
  pub is : new ≡ set_outgoing mid (record o { sender = gave_next o.sender })

-- data PDUs of a key are given until there is none, or no room
pub data FeedsData (t : Contents) (key : Key) : Node → Node → Type 0 where
  rests : {n : Node} → (has_next (outgoing n key).sender && has_room t n key) ≡ false → FeedsData t key n n
  gives : {old mid new : Node} → (has_next (outgoing old key).sender && has_room t old key) ≡ true → GivesData t old (outgoing old key) mid → FeedsData t key mid new → FeedsData t key old new

-- data PDUs of these keys, in their order
abbrev pub FeedsEach : Contents → Node → List Key → Node → Type 0
FeedsEach t old [] new = new ≡ old
FeedsEach t old (key ∷ keys) new = (mid : Node) × FeedsData t key old mid × FeedsEach t mid keys new

-- the key of a receiving end
abbrev pub in_key : Incoming → Key
in_key i = i.key

-- the key of a sending end
abbrev pub out_key : Outgoing → Key
out_key o = o.key

-- a node feeds its transmitters, and lists the keys of the reports that it gave. The relay has no keys, and gives nothing
pub record Feeds (t : Contents) (old : Node) (given : List Key) (new : Node) : Type 0 where
  pub mid : Node
  pub reports : FeedsReports t old (map in_key old.incoming) given mid
  pub data_pdus : FeedsEach t mid (map out_key mid.outgoing) new
