-- The laws of the calls of a port's sides, over every run of its hops.
use Rattle.std.specs.Prelude.{◌≡◌, ℕ, ◌<◌, ◌≤◌, Bool, true, false, List, [], ◌∷◌, ◌++◌, length, Option, Some, None}
use Rattle.link_base.specs.declared.names.PortName.{PortName}
use Rattle.link_base.specs.declared.names.Side.{Side}
use Rattle.link_base.specs.declared.names.Timer.{Timer}
use Rattle.link_base.specs.declared.names.Timer.TheVariants.{Poll, Reasm, Prohibit}
use Rattle.link_base.specs.declared.names.Way.{Way}
use Rattle.link_base.specs.declared.rlc_words.Expired.{Expired}
use Rattle.link_base.specs.declared.rlc_words.Expired.TheVariants.{Done, Marked, Stopped}
use Rattle.link_base.specs.declared.rlc_words.Tag.{Tag}
use Rattle.link_base.specs.declared.limits.TheConstants.{LONGEST_RLC_SDU}
use Rattle.rlc_model.specs.declared.hop.Pdu.{Pdu}
use Rattle.rlc_model.specs.declared.hop.HopGrant.{HopGrant}
use Rattle.rlc_model.specs.declared.hop.HopGrant.TheVariants.{Sent, Idle, Small}
use Rattle.rlc_model.specs.declared.hop.HopHeard.{HopHeard}
use Rattle.rlc_model.specs.declared.hop.HopHeard.TheVariants.{Amd, Status}
use Rattle.rlc_model.specs.declared.receiver.Heard.{Heard}
use Rattle.rlc_model.specs.declared.receiver.Heard.TheVariants.{Stored, Complete, Repeat, Outside, Conflict}
use Rattle.rlc_model.specs.declared.transmitter.StatusHeard.{StatusHeard}
use Rattle.rlc_model.specs.declared.transmitter.StatusHeard.TheVariants.{Acked, Old, Beyond}
use Rattle.rlc_model.specs.Heard.{Data}
use Rattle.rlc_model.specs.Hop.{on_air, off_air, sent_from, side_fault, GrantsHop, HearsHop, ExpiresHop}
use Rattle.rlc_model.specs.Retransmission.{HearsStatus}
use Rattle.rlc_model.specs.Rx.{Rx, Hears}
use Rattle.rlc_model.specs.Sides.{flip, across, way_from, hearer_of, Entity}
use Rattle.rlc_model.specs.Tx.{Tx, Gives}
use Rattle.rlc_law.specs.Hop.{Hop, StatusMade, Event, Give, Grant, GrantStatus, Deliver, DeliverStatus, ExpirePoll, ExpireReassembly, ExpireProhibit, given_at, completed_after}
use Rattle.rlc_law.specs.Ports.{Port, hop_of, ReachesPort, IsSide, SpellsData, SpellsStatus, HasMade, Moves, MovesSide, Settings, Ports, Changes, NoneOnAir, PortsFit, PortsGo, IsUpTo}
use Rattle.rlc_law.specs.Sides.{Sides, Epochs, SidesFit, SidesGo}

-- what happens to one hop of a port leaves a port that can be reached, which has made all that it had made
abbrev pub MovesOn : Type 0
MovesOn = (old : Port) (way : Way) (event : Event) (new : Port) → Moves old way event new
    → (ReachesPort old → ReachesPort new) × ((to : Way) (status : Bool) (number : ℕ) (bytes : List ℕ) → HasMade old to status number bytes → HasMade new to status number bytes)

-- the way of the hop that a PDU is of: a STATUS is of the other way
abbrev pub about : Bool → Way → Way
about false way = way
about true way = flip way

-- the event that a grant is to the hop of the PDU sent
abbrev pub granting : Bool → ℕ → Event
granting false n = Grant n
granting true n = GrantStatus n

-- a side has sent a PDU: one of the two hops has made it, the side's own with data, the other one with a STATUS
pub record SendsMade (port : Port) (side : Side) (n : ℕ) (status : Bool) (number : ℕ) (bytes : List ℕ) (tx : Tx) (rx : Rx) : Type 0 where
  pub behind : Port
  pub moves : MovesSide port side (about status (way_from side)) (granting status n) tx rx behind
  pub made : HasMade behind (way_from side) status number bytes

-- what a grant leaves: the PDU sent is one that was made, and without one nothing changed
abbrev pub GrantLeaves : Port → Side → ℕ → HopGrant → Tx → Rx → Type 0
GrantLeaves port side n (Sent status number bytes) tx rx = SendsMade port side n status number bytes tx rx
GrantLeaves port side n Idle tx rx = IsSide port side tx rx
GrantLeaves port side n (Small need) tx rx = IsSide port side tx rx

-- a grant at a side moves just the hop of the PDU sent, or nothing
abbrev pub GrantMoves : Type 0
GrantMoves = (port : Port) (side : Side) (tx : Tx) (rx : Rx) → IsSide port side tx rx → (n : ℕ) (answer : HopGrant) (tx' : Tx) (rx' : Rx) → GrantsHop tx rx n answer tx' rx' → GrantLeaves port side n answer tx' rx'

-- a PDU that a side has just made isn't stale at the other side, which stands in the same epoch
abbrev pub FreshWhenMade : Type 0
FreshWhenMade = (port : Port) → ReachesPort port → (side : Side) (tx : Tx) (rx : Rx) → IsSide port side tx rx → (far_tx : Tx) (far_rx : Rx) → IsSide port (across side) far_tx far_rx
    → (n : ℕ) (status : Bool) (number : ℕ) (bytes : List ℕ) (tx' : Tx) (rx' : Rx) → GrantsHop tx rx n (Sent status number bytes) tx' rx' → (name : PortName) (epoch : ℕ) → side_fault (sent_from name side epoch status number bytes) (Some epoch) far_tx far_rx ≡ None

-- what a receiver answers to a PDU of its hop: it isn't outside or in conflict, and what it completes is the SDU given under its number
abbrev pub IsAsGiven : Hop → ℕ → Heard → Type 0
IsAsGiven hop number Stored = Unit {0}
IsAsGiven hop number Repeat = Unit {0}
IsAsGiven hop number Outside = ⊥
IsAsGiven hop number Conflict = ⊥
IsAsGiven hop number (Complete own sdu) = (own ≡ number) × (number < length hop.given) × (sdu ≡ given_at hop number)

-- what a transmitter answers to a STATUS of its hop: it never speaks of what was not sent
abbrev pub IsOfSent : StatusHeard → Type 0
IsOfSent (Acked tags marks) = Unit {0}
IsOfSent (Old ack next) = Unit {0}
IsOfSent (Beyond ack sent) = ⊥

-- a data PDU that a port has made is heard, and its own hop moves
pub record HearsDataMade (port : Port) (way : Way) (number : ℕ) (bytes : List ℕ) (answer : Heard) (tx : Tx) (rx : Rx) : Type 0 where
  pub heard : Data
  pub its_number : heard.number ≡ number
  pub spells : SpellsData (hop_of port way) heard bytes
  pub hears : Hears (hop_of port way).rx heard.view answer rx
  pub behind : Port
  pub moves : MovesSide port (hearer_of way) way (Deliver heard) tx rx behind
  pub completed : (hop_of behind way).completed ≡ completed_after answer (hop_of port way).completed
  pub as_given : IsAsGiven (hop_of port way) number answer

-- a STATUS that a port has made is heard, and the other way's hop moves
pub record HearsStatusMade (port : Port) (way : Way) (number : ℕ) (bytes : List ℕ) (answer : StatusHeard) (tx : Tx) (rx : Rx) : Type 0 where
  pub heard : StatusMade
  pub its_number : heard.ack ≡ number
  pub spells : SpellsStatus (hop_of port (flip way)) heard bytes
  pub hears : HearsStatus (hop_of port (flip way)).tx heard.status answer tx
  pub behind : Port
  pub moves : MovesSide port (hearer_of way) (flip way) (DeliverStatus heard) tx rx behind
  pub of_sent : IsOfSent answer

-- what hearing a PDU leaves: a data PDU is read as one, a STATUS PDU as one
abbrev pub HearLeaves : Port → Way → Bool → ℕ → List ℕ → HopHeard → Tx → Rx → Type 0
HearLeaves port way false number bytes (Amd answer) tx rx = HearsDataMade port way number bytes answer tx rx
HearLeaves port way true number bytes (Status answer) tx rx = HearsStatusMade port way number bytes answer tx rx
HearLeaves port way status number bytes answer tx rx = ⊥

-- a side that the air hands a PDU of its port hears it as it was made, and moves just its hop
abbrev pub HearMoves : Type 0
HearMoves = (port : Port) → ReachesPort port → (pdu : Pdu) → HasMade port pdu.way pdu.status pdu.number pdu.bytes → (tx : Tx) (rx : Rx) → IsSide port (hearer_of pdu.way) tx rx → (epoch : Option ℕ) → side_fault pdu epoch tx rx ≡ None
    → (answer : HopHeard) (tx' : Tx) (rx' : Rx) → HearsHop tx rx pdu.bytes answer tx' rx' → HearLeaves port pdu.way pdu.status pdu.number pdu.bytes answer tx' rx'

-- a side that is given an SDU moves just the hop on which it sends
abbrev pub GiveMoves : Type 0
GiveMoves = (port : Port) (side : Side) (tx : Tx) (rx : Rx) → IsSide port side tx rx → (tag : Tag) (sdu : List ℕ) (number : ℕ) (tx' : Tx) → 0 < length sdu → length sdu ≤ LONGEST_RLC_SDU → Gives tx tag sdu number tx'
    → (behind : Port) × MovesSide port side (way_from side) (Give tag sdu) tx' rx behind

-- the event that the expiry of a timer is
abbrev pub expiring : Timer → Event
expiring Poll = ExpirePoll
expiring Reasm = ExpireReassembly
expiring Prohibit = ExpireProhibit

-- the way of the hop that has a timer of a side
abbrev pub timing : Timer → Side → Way
timing Poll side = way_from side
timing Reasm side = flip (way_from side)
timing Prohibit side = flip (way_from side)

-- what the expiry of a timer leaves; where it doesn't run nothing changed
abbrev pub ExpiryLeaves : Port → Side → Timer → Expired → Tx → Rx → Type 0
ExpiryLeaves port side timer Done tx rx = (behind : Port) × MovesSide port side (timing timer side) (expiring timer) tx rx behind
ExpiryLeaves port side timer (Marked number) tx rx = (behind : Port) × MovesSide port side (timing timer side) (expiring timer) tx rx behind
ExpiryLeaves port side timer Stopped tx rx = IsSide port side tx rx

-- the expiry of a timer of a side moves just the hop that has it
abbrev pub ExpireMoves : Type 0
ExpireMoves = (port : Port) (side : Side) (tx : Tx) (rx : Rx) → IsSide port side tx rx → (timer : Timer) (expired : Expired) (tx' : Tx) (rx' : Rx) → ExpiresHop tx rx timer expired tx' rx' → ExpiryLeaves port side timer expired tx' rx'

-- one port can change alone, and so can what is open at a side, and the epoch to which it has come
abbrev pub OneChanges : Type 0
OneChanges = ((old : Ports) (name : PortName) (epoch : ℕ) (port : Option Port) → (new : Ports) × Changes old name epoch port new)
    × ((old : Sides) (side : Side) (name : PortName) (entity : Option Entity) → (new : Sides) × Changes old side name entity new)
    × ((old : Epochs) (side : Side) (name : PortName) (epoch : ℕ) → (new : Epochs) × Changes old side name epoch new)

-- where ports fit the air, whatever happens to them and to the air leaves ports that fit the air
abbrev pub PortsKeep : Type 0
PortsKeep = (old new : Ports) (before behind : List (Option Pdu)) → PortsFit old before → PortsGo old before new behind → PortsFit new behind

-- PDUs on the air are of epochs up to one, whatever goes off it, and whatever goes on it of such an epoch or of another port; and no PDU
-- of a later epoch is there
abbrev pub EpochsKeep : Type 0
EpochsKeep = (air : List (Option Pdu)) (name : PortName) (epoch : ℕ) → IsUpTo air name epoch
    → ((ticket : ℕ) → IsUpTo (off_air air ticket) name epoch)
    × ((pdu : Pdu) → (pdu.port ≡ name → pdu.epoch ≤ epoch) → IsUpTo (air ++ Some pdu ∷ []) name epoch)
    × ((later : ℕ) → epoch < later → NoneOnAir air name later × IsUpTo air name later)

-- where the open sides are those of ports, whatever happens to them leaves open sides that are those of ports
abbrev pub SidesKeep : Type 0
SidesKeep = (settings : PortName → Settings) (old new : Ports) (before behind : Epochs) (were are : Sides) → SidesFit settings old before were → SidesGo settings old before were new behind are → SidesFit settings new behind are

-- a call of an open side that moves its port leaves ports and sides that fit, also with the PDU on the air that the call sends
abbrev pub CallFits : Type 0
CallFits = (settings : PortName → Settings) (ports : Ports) (epochs : Epochs) (sides : Sides) (air : List (Option Pdu)) → PortsFit ports air → SidesFit settings ports epochs sides
    → (side : Side) (name : PortName) (entity : Entity) (port : Port) → sides side name ≡ Some entity → ports name entity.epoch ≡ Some port
    → (way : Way) (event : Event) (tx : Tx) (rx : Rx) (behind : Port) → MovesSide port side way event tx rx behind → (new_sides : Sides) → Changes sides side name (Some (record entity { tx = tx; rx = rx })) new_sides
    → (new_ports : Ports) × Changes ports name entity.epoch (Some behind) new_ports × SidesFit settings new_ports epochs new_sides × PortsFit new_ports air
    × ((status : Bool) (number : ℕ) (bytes : List ℕ) → HasMade behind (way_from side) status number bytes → PortsFit new_ports (air ++ Some (sent_from name side entity.epoch status number bytes) ∷ []))

-- where nothing is open and nothing is on the air, all fits
abbrev pub NothingFits : Type 0
NothingFits = PortsFit (λ name epoch. None) [] × ((settings : PortName → Settings) (epochs : Epochs) → SidesFit settings (λ name epoch. None) epochs (λ side name. None))

-- an open side that hears a PDU from the air hears what its port has made
abbrev pub SideHears : Type 0
SideHears = (settings : PortName → Settings) (ports : Ports) (epochs : Epochs) (sides : Sides) (air : List (Option Pdu)) → PortsFit ports air → SidesFit settings ports epochs sides
    → (ticket : ℕ) (pdu : Pdu) → on_air air ticket ≡ Some pdu → (entity : Entity) → sides (hearer_of pdu.way) pdu.port ≡ Some entity → side_fault pdu (Some entity.epoch) entity.tx entity.rx ≡ None
    → (answer : HopHeard) (tx : Tx) (rx : Rx) → HearsHop entity.tx entity.rx pdu.bytes answer tx rx → (port : Port) × (ports pdu.port entity.epoch ≡ Some port) × HearLeaves port pdu.way pdu.status pdu.number pdu.bytes answer tx rx
