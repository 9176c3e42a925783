-- The moves of a port: each brings it nearer to having nothing left to do.
use Rattle.std.specs.Prelude.{◌≡◌, ◌⊎◌, ◌↔◌, ℕ, ◌+◌, ◌<◌, ◌≤◌, true, false}
use Rattle.link_base.specs.declared.names.Side.{Side}
use Rattle.link_base.specs.declared.names.Side.TheVariants.{Low, High}
use Rattle.link_base.specs.declared.names.Timer.TheVariants.{Poll, Prohibit}
use Rattle.link_base.specs.declared.names.Way.{Way}
use Rattle.link_base.specs.declared.names.Way.TheVariants.{Ul, Dl}
use Rattle.link_base.specs.declared.rlc_words.Expired.{Expired}
use Rattle.link_base.specs.declared.rlc_words.Expired.TheVariants.{Done, Marked, Stopped}
use Rattle.rlc_model.specs.declared.hop.HopGrant.{HopGrant}
use Rattle.rlc_model.specs.declared.hop.HopGrant.TheVariants.{Sent, Idle, Small}
use Rattle.rlc_model.specs.declared.hop.HopHeard.{HopHeard}
use Rattle.rlc_model.specs.declared.hop.HopHeard.TheVariants.{Amd, Status, BadAmd, BadStatus}
use Rattle.rlc_model.specs.declared.hop.Move.{Move}
use Rattle.rlc_model.specs.declared.hop.Move.TheVariants.{Grant, Expire}
use Rattle.rlc_model.specs.Hop.{GrantsHop, HearsHop, ExpiresHop}
use Rattle.rlc_model.specs.Rx.{Rx, status_due}
use Rattle.rlc_model.specs.Sides.{flip, across, sender_of, hearer_of, Entity}
use Rattle.rlc_model.specs.Tx.{Tx, unconfirmed, PendingWaits, UnsentWaits}
use Rattle.rlc_law.specs.Hop.{Hop, Reaches}
use Rattle.rlc_law.specs.Ports.{Port, ReachesPort, IsSide}
use Rattle.rlc_rest.specs.Rest.{rest}

-- no byte waits
pub record NothingWaits (t : Tx) : Type 0 where
  pub pending : PendingWaits t → ⊥
  pub unsent : UnsentWaits t → ⊥

-- the move for the SDUs of one way, by its transmitter and its receiver: the bytes that wait are sent; where none waits a STATUS that is
-- due is sent; one that is triggered and not due waits for t-StatusProhibit to run out; and where none is triggered t-PollRetransmit runs out
pub data WayMove (way : Way) (t : Tx) (r : Rx) : Move → Type 0 where
  sends : PendingWaits t ⊎ UnsentWaits t → WayMove way t r (Grant way)
  makes_status : NothingWaits t → status_due r ≡ true → WayMove way t r (Grant (flip way))
  prohibits : NothingWaits t → r.status_triggered ≡ true → status_due r ≡ false → WayMove way t r (Expire (hearer_of way) Prohibit)
  polls : NothingWaits t → r.status_triggered ≡ false → WayMove way t r (Expire (sender_of way) Poll)

-- the next move of a port with these transmitters and receivers at its two sides: for the SDUs up while one is unconfirmed, then for
-- those down
pub data NextMove (low_tx : Tx) (low_rx : Rx) (high_tx : Tx) (high_rx : Rx) (move : Move) : Type 0 where
  up : 0 < unconfirmed low_tx → WayMove Ul low_tx high_rx move → NextMove low_tx low_rx high_tx high_rx move
  down : unconfirmed low_tx ≡ 0 → 0 < unconfirmed high_tx → WayMove Dl high_tx low_rx move → NextMove low_tx low_rx high_tx high_rx move

-- what a port has still to do both ways, by the transmitter and the receiver of one side and those of the other one
abbrev pub left : Tx → Rx → Tx → Rx → ℕ
left tx rx far_tx far_rx = rest tx far_rx + rest far_tx rx

-- the two sides of a port have these entities
abbrev pub AreSides : Port → (Side → Entity) → Type 0
AreSides port entities = (side : Side) → IsSide port side (entities side).tx (entities side).rx

-- a port can be reached that has these transmitters and receivers at a side and at the other one, and less is left than of the entities
pub record Falls (entities : Side → Entity) (side : Side) (tx : Tx) (rx : Rx) (far_tx : Tx) (far_rx : Rx) : Type 0 where
  pub behind : Port
  pub reaches : ReachesPort behind
  pub here : IsSide behind side tx rx
  pub there : IsSide behind (across side) far_tx far_rx
  pub falls : left tx rx far_tx far_rx < left (entities side).tx (entities side).rx (entities (across side)).tx (entities (across side)).rx

-- octets are heard as a PDU
abbrev pub IsPdu : HopHeard → Type 0
IsPdu (Amd answer) = Unit {0}
IsPdu (Status answer) = Unit {0}
IsPdu (BadAmd fault) = ⊥
IsPdu (BadStatus fault) = ⊥

-- a grant sends a PDU, and once the other side has heard it, as a PDU, less is left
abbrev pub GrantFalls : (Side → Entity) → Side → HopGrant → Tx → Rx → Type 0
GrantFalls entities side (Sent status number bytes) tx rx = (heard : HopHeard) (far_tx : Tx) (far_rx : Rx) → HearsHop (entities (across side)).tx (entities (across side)).rx bytes heard far_tx far_rx
    → IsPdu heard × Falls entities side tx rx far_tx far_rx
GrantFalls entities side Idle tx rx = ⊥
GrantFalls entities side (Small need) tx rx = ⊥

-- a timer runs, and once it has run out less is left
abbrev pub ExpiryFalls : (Side → Entity) → Side → Expired → Tx → Rx → Type 0
ExpiryFalls entities side Done tx rx = Falls entities side tx rx (entities (across side)).tx (entities (across side)).rx
ExpiryFalls entities side (Marked number) tx rx = Falls entities side tx rx (entities (across side)).tx (entities (across side)).rx
ExpiryFalls entities side Stopped tx rx = ⊥

-- once a move is carried out, a grant with n octets, less is left
abbrev pub MoveLeaves : (Side → Entity) → ℕ → Move → Type 0
MoveLeaves entities n (Grant way) = (answer : HopGrant) (tx : Tx) (rx : Rx) → GrantsHop (entities (sender_of way)).tx (entities (sender_of way)).rx n answer tx rx → GrantFalls entities (sender_of way) answer tx rx
MoveLeaves entities n (Expire side timer) = (expired : Expired) (tx : Tx) (rx : Rx) → ExpiresHop (entities side).tx (entities side).rx timer expired tx rx → ExpiryFalls entities side expired tx rx

-- a port has a next move exactly where an SDU is unconfirmed
abbrev pub MovesWhileUnconfirmed : Type 0
MovesWhileUnconfirmed = (low_tx : Tx) (low_rx : Rx) (high_tx : Tx) (high_rx : Rx) → ((move : Move) × NextMove low_tx low_rx high_tx high_rx move) ↔ ((0 < unconfirmed low_tx) ⊎ (0 < unconfirmed high_tx))

-- with each next move less is left, where a grant has at least the 6 octets of the longest header and one byte
abbrev pub MoveFalls : Type 0
MoveFalls = (port : Port) → ReachesPort port → (entities : Side → Entity) → AreSides port entities → (n : ℕ) → 6 ≤ n → (move : Move)
    → NextMove (entities Low).tx (entities Low).rx (entities High).tx (entities High).rx move → MoveLeaves entities n move

-- while an SDU up is unconfirmed, a grant down is a next move only where a STATUS about the SDUs up is due
abbrev pub DownIsStatus : Type 0
DownIsStatus = (low_tx : Tx) (low_rx : Rx) (high_tx : Tx) (high_rx : Rx) → 0 < unconfirmed low_tx → NextMove low_tx low_rx high_tx high_rx (Grant Dl) → status_due high_rx ≡ true

-- t-PollRetransmit runs where an SDU is unconfirmed and no byte waits
abbrev pub PollRuns : Type 0
PollRuns = (h : Hop) → Reaches h → NothingWaits h.tx → 0 < unconfirmed h.tx → h.tx.poll_retransmit_runs ≡ true
