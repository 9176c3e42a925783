-- A port in an epoch, a hop each way between its two sides; and many of them, over one air.
use Rattle.std.specs.Prelude.{◌≡◌, ℕ, ◌≤◌, Bool, true, false, List, [], ◌∷◌, ◌++◌, Option, Some, None, Contains}
use Rattle.link_base.specs.declared.names.PortName.{PortName}
use Rattle.link_base.specs.declared.names.Side.{Side}
use Rattle.link_base.specs.declared.names.SnSize.{SnSize}
use Rattle.link_base.specs.declared.names.Way.{Way}
use Rattle.link_base.specs.declared.names.Way.TheVariants.{Ul, Dl}
use Rattle.rlc_pdu.specs.Amd.{amd_bytes}
use Rattle.rlc_status.specs.Format.{status_bytes}
use Rattle.rlc_model.specs.declared.hop.Pdu.{Pdu}
use Rattle.rlc_model.specs.Heard.{Data}
use Rattle.rlc_model.specs.Hop.{on_air, off_air, sent_from}
use Rattle.rlc_model.specs.Rx.{Rx}
use Rattle.rlc_model.specs.Sides.{flip, across, way_from}
use Rattle.rlc_model.specs.Tx.{Tx}
use Rattle.rlc_law.specs.Hop.{Hop, StatusMade, start, Event, Happens, Reaches}

-- a port in an epoch: its hops up and down
pub record Port : Type 0 where
  pub up : Hop
  pub down : Hop

-- the hop of a way
abbrev pub hop_of : Port → Way → Hop
hop_of port Ul = port.up
hop_of port Dl = port.down

-- what the entities of a port are configured with: pollPDU, pollByte and maxRetxThreshold beside the size of the SNs (TS 38.322 clause 7.4)
pub record Settings : Type 0 where
  pub size : SnSize
  pub poll_pdu : ℕ
  pub poll_byte : ℕ
  pub max_retx_threshold : ℕ

-- a hop of such entities at its start
abbrev pub start_hop : Settings → Hop
start_hop s = start s.size s.poll_pdu s.poll_byte s.max_retx_threshold

-- both hops are at their start
abbrev pub start_port : Settings → Port
start_port s = record { up = start_hop s; down = start_hop s }

-- both hops can be reached
abbrev pub ReachesPort : Port → Type 0
ReachesPort port = (way : Way) → Reaches (hop_of port way)

-- the transmitter of a side is that of the hop on which it sends
abbrev pub tx_of : Port → Side → Tx
tx_of port side = (hop_of port (way_from side)).tx

-- and its receiver is that of the other hop
abbrev pub rx_of : Port → Side → Rx
rx_of port side = (hop_of port (flip (way_from side))).rx

-- a side has this transmitter and this receiver
pub record IsSide (port : Port) (side : Side) (tx : Tx) (rx : Rx) : Type 0 where
  pub its_tx : tx ≡ tx_of port side
  pub its_rx : rx ≡ rx_of port side

-- the octets are those of a data PDU that the hop has made
pub record SpellsData (hop : Hop) (made : Data) (bytes : List ℕ) : Type 0 where
  pub among : Contains hop.pdus made
  pub octets : bytes ≡ amd_bytes hop.tx.size made.view

-- the octets are those of a STATUS that the hop has made
pub record SpellsStatus (hop : Hop) (made : StatusMade) (bytes : List ℕ) : Type 0 where
  pub among : Contains hop.statuses made
  pub octets : bytes ≡ status_bytes hop.rx.size made.status

-- a port has made a PDU that goes this way: a data PDU of this number is one of this way's hop, and a STATUS PDU whose ACK_SN stands
-- for the number is one of the other way's hop
abbrev pub HasMade : Port → Way → Bool → ℕ → List ℕ → Type 0
HasMade port way false number bytes = (made : Data) × (made.number ≡ number) × SpellsData (hop_of port way) made bytes
HasMade port way true number bytes = (made : StatusMade) × (made.ack ≡ number) × SpellsStatus (hop_of port (flip way)) made bytes

-- an event that can happen to the hop of this way happens to it, and the other hop stays
pub record Moves (old : Port) (way : Way) (event : Event) (new : Port) : Type 0 where
  pub happens : Happens (hop_of old way) event (hop_of new way)
  pub other : hop_of new (flip way) ≡ hop_of old (flip way)

-- such an event leaves this transmitter and this receiver at a side, and the other side as it was
pub record MovesSide (old : Port) (side : Side) (way : Way) (event : Event) (tx : Tx) (rx : Rx) (new : Port) : Type 0 where
  pub moves : Moves old way event new
  pub here : IsSide new side tx rx
  pub there : IsSide new (across side) (tx_of old (across side)) (rx_of old (across side))

-- the ports of each name and epoch that were opened
abbrev pub Ports : Type 0
Ports = PortName → ℕ → Option Port

-- what stands at one place of a table becomes this, and all else stays
pub record Changes {Row Column Value : Type 0} (old : Row → Column → Value) (row : Row) (column : Column) (value : Value) (new : Row → Column → Value) : Type 0 where
  pub here : new row column ≡ value
  pub others : (other : Row) (place : Column) → ((other ≡ row) × (place ≡ column) → ⊥) → new other place ≡ old other place

-- no PDU of this port and epoch is on the air
abbrev pub NoneOnAir : List (Option Pdu) → PortName → ℕ → Type 0
NoneOnAir air name epoch = (ticket : ℕ) (pdu : Pdu) → on_air air ticket ≡ Some pdu → (pdu.port ≡ name) × (pdu.epoch ≡ epoch) → ⊥

-- each port can be reached, and each PDU on the air that bears its name and epoch is one that it has made
pub record PortsFit (ports : Ports) (air : List (Option Pdu)) : Type 0 where
  pub reaches : (name : PortName) (epoch : ℕ) (port : Port) → ports name epoch ≡ Some port → ReachesPort port
  pub made : (ticket : ℕ) (pdu : Pdu) (port : Port) → on_air air ticket ≡ Some pdu → ports pdu.port pdu.epoch ≡ Some port → HasMade port pdu.way pdu.status pdu.number pdu.bytes

-- what happens to ports and the air: one port moves, and may have sent the PDU that goes on the air; a PDU goes off it, lost or heard; a
-- port opens in an epoch of which no PDU is on the air; or one closes
pub data PortsGo (old : Ports) (air : List (Option Pdu)) : Ports → List (Option Pdu) → Type 0 where
  moves : {new : Ports} (name : PortName) (epoch : ℕ) (before behind : Port) (way : Way) (event : Event) → old name epoch ≡ Some before → Moves before way event behind
      → Changes old name epoch (Some behind) new → PortsGo old air new air
  sends : {new : Ports} (name : PortName) (epoch : ℕ) (before behind : Port) (way : Way) (event : Event) (side : Side) (status : Bool) (number : ℕ) (bytes : List ℕ) → old name epoch ≡ Some before → Moves before way event behind
      → HasMade behind (way_from side) status number bytes → Changes old name epoch (Some behind) new → PortsGo old air new (air ++ Some (sent_from name side epoch status number bytes) ∷ [])
  goes_off : (ticket : ℕ) → PortsGo old air old (off_air air ticket)
  opens : {new : Ports} (name : PortName) (epoch : ℕ) (settings : Settings) → NoneOnAir air name epoch → Changes old name epoch (Some (start_port settings)) new → PortsGo old air new air
  closes : {new : Ports} (name : PortName) (epoch : ℕ) → Changes old name epoch None new → PortsGo old air new air

-- the PDUs on the air of a port are of this epoch or earlier ones
abbrev pub IsUpTo : List (Option Pdu) → PortName → ℕ → Type 0
IsUpTo air name epoch = (ticket : ℕ) (pdu : Pdu) → on_air air ticket ≡ Some pdu → pdu.port ≡ name → pdu.epoch ≤ epoch
