-- What holds of the RLC of a chain in each run.
use Rattle.std.specs.Prelude.{◌≡◌, ℕ, ◌+◌, ◌≤◌, List, length, slice_get, Option, Some, None}
use Rattle.link_base.specs.declared.names.Key.{Key}
use Rattle.link_base.specs.declared.names.PortName.{PortName}
use Rattle.link_base.specs.declared.names.Side.{Side}
use Rattle.link_base.specs.SequenceNumbers.{window}
use Rattle.rlc_model.specs.declared.hop.HopHeard.{HopHeard}
use Rattle.rlc_model.specs.declared.hop.Pdu.{Pdu}
use Rattle.rlc_model.specs.Hop.{on_air, side_fault, HearsHop}
use Rattle.rlc_model.specs.Rx.{Rx, rx_next}
use Rattle.rlc_model.specs.Sides.{Entity, hearer_of}
use Rattle.rlc_model.specs.Tx.{Tx, tx_next, tx_next_ack}
use Rattle.rlc_law.specs.Ports.{Port, Changes}
use Rattle.rlc_law.specs.PortLaws.{HearLeaves}
use Rattle.pdcp_pdu.specs.Pdcp.{IsBody}
use Rattle.pdcp_model.specs.Sender.{kept_at}
use Rattle.script_text.specs.declared.event.Event.{Event}
use Rattle.script_text.specs.declared.line.Line.{Line}
use Rattle.script_text.specs.declared.reply.Reply.{Reply}
use Rattle.script_text.specs.declared.stage.ScriptStage.{ScriptStage}
use Rattle.node_model.specs.declared.parcel.Parcel.{Parcel}
use Rattle.node_model.specs.Names.{NodeName}
use Rattle.node_model.specs.State.{PortSide, side_at, set_side}
use Rattle.chain_model.specs.Runs.{Turn, LeadsTo}
use Rattle.chain_model.specs.State.{Chain, node_at, set_node, sender_at, entity_on}
use Rattle.chain_model.specs.Steps.{Does, Step}
use Rattle.chain_law.specs.Entities.{RlcFits, IsSdu, IsHeardWell}

-- the chains that come up in a run: behind its lines, behind lines of a drain that isn't done, and behind a line before the nodes feed
pub data ComesUp : Chain → Type 0 where
  behind : {c : Chain} (h : List Turn) (stage : ScriptStage) → LeadsTo h stage c → ComesUp c
  goes_on : {old new : Chain} (line : Line) (events : List Event) (reply : Reply) → ComesUp old → Step old line events reply new → ComesUp new
  unfed : {old mid : Chain} (line : Line) (events : List Event) (reply : Reply) → ComesUp old → Does old line events reply mid → ComesUp mid

-- in each run the entities of a chain are sides of ports that can be reached
abbrev pub EntitiesAreThoseOfPorts : Type 0
EntitiesAreThoseOfPorts = (c : Chain) → ComesUp c → RlcFits c

-- an entity has given and heard numbers up to a window above the tickets made, and at most 2^61 of these are
pub record IsWithinTickets (c : Chain) (e : Entity) : Type 0 where
  pub acked : tx_next_ack e.tx ≤ length c.air
  pub given : tx_next e.tx ≤ length c.air + window e.tx.size
  pub heard : rx_next e.rx ≤ length c.air + window e.rx.size
  pub tickets : length c.air ≤ 2305843009213693952

-- in each run that is so of each entity
abbrev pub NumbersStayWithinTickets : Type 0
NumbersStayWithinTickets = (c : Chain) → ComesUp c → (side : Side) (port : PortName) (e : Entity) → entity_on c side port ≡ Some e → IsWithinTickets c e

-- what a side hears from the air its port has made, and it is answered as it should be: an SDU that is completed was given under its number
abbrev pub HearsWhatWasGiven : Type 0
HearsWhatWasGiven = (c : Chain) (fits : RlcFits c) (ticket : ℕ) (pdu : Pdu) → on_air c.air ticket ≡ Some pdu → (e : Entity) → entity_on c (hearer_of pdu.way) pdu.port ≡ Some e
    → side_fault pdu (Some e.epoch) e.tx e.rx ≡ None
    → (answer : HopHeard) (tx : Tx) (rx : Rx) → HearsHop e.tx e.rx pdu.bytes answer tx rx
    → (port : Port) × (fits.ports pdu.port e.epoch ≡ Some port) × HearLeaves port pdu.way pdu.status pdu.number pdu.bytes answer tx rx × IsHeardWell pdu.number answer

-- in each run an SDU in the slot or the queue of a side is one that RLC can take
abbrev pub ParcelsAreSdus : Type 0
ParcelsAreSdus = (c : Chain) → ComesUp c → (node : NodeName) (port : PortName) (s : PortSide) → side_at (node_at c node) port ≡ Some s
    → ((parcel : Parcel) → s.slot ≡ Some parcel → IsSdu parcel.sdu) × ((place : ℕ) (parcel : Parcel) → slice_get s.queue place ≡ Some parcel → IsSdu parcel.sdu)

-- in each run an SDU that a sender keeps has 1 to 9,000 bytes
abbrev pub KeptAreBodies : Type 0
KeptAreBodies = (c : Chain) → ComesUp c → (key : Key) (n : ℕ) (sdu : List ℕ) → kept_at (sender_at c key) n ≡ Some sdu → IsBody sdu

-- the side of each port at each node
abbrev pub sides_at : Chain → NodeName → PortName → Option PortSide
sides_at c node port = side_at (node_at c node) port

-- a side that is set in the place of one of its name changes, and no other side of any node does
abbrev pub OneSideChanges : Type 0
OneSideChanges = (c : Chain) (node : NodeName) (port : PortName) (was now : PortSide) → sides_at c node port ≡ Some was → now.name ≡ was.name
    → Changes (sides_at c) node port (Some now) (sides_at (set_node c (set_side (node_at c node) now)))
