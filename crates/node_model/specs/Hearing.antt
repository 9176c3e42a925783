-- A node hears a PDU: one relation for the remotes, the relay and the gNB.
use Rattle.std.specs.Prelude.{◌≡◌, ℕ, not, ◌&&◌, List, Option, Some, None, is_some, if◌then◌else◌, Result, Ok, Err}
use Rattle.link_base.specs.declared.names.PortName.{PortName}
use Rattle.link_base.specs.declared.names.Side.{Side}
use Rattle.link_base.specs.declared.discard.Discard.{Discard}
use Rattle.bearer_map.specs.Contents.{Contents}
use Rattle.rlc_model.specs.declared.hop.Pdu.{Pdu}
use Rattle.rlc_model.specs.declared.hop.AirFault.{AirFault}
use Rattle.rlc_model.specs.declared.hop.AirFault.TheVariants.{Gone}
use Rattle.rlc_model.specs.declared.hop.HopHeard.{HopHeard}
use Rattle.rlc_model.specs.declared.hop.HopHeard.TheVariants.{Amd, Status}
use Rattle.rlc_model.specs.declared.receiver.Heard.TheVariants as heard
use Rattle.rlc_model.specs.declared.transmitter.StatusHeard.TheVariants as told
use Rattle.rlc_model.specs.Tx.{Tx}
use Rattle.rlc_model.specs.Rx.{Rx}
use Rattle.rlc_model.specs.Sides.{Entity}
use Rattle.rlc_model.specs.Hop.{HearsHop, side_fault}
use Rattle.node_model.specs.declared.answers.NodeHeard.{NodeHeard}
use Rattle.node_model.specs.declared.answers.NodeHeard.TheVariants.{NoPort, Air, Held, Slot, Discard as Discarded, Hop}
use Rattle.node_model.specs.declared.parcel.Parcel.{Parcel}
use Rattle.node_model.specs.State.{PortSide, Node, side_at, set_side, set_entity}
use Rattle.node_model.specs.Sides.{IsOpen}
use Rattle.node_model.specs.Ends.{HearsPdcp, confirm_tags}
use Rattle.node_model.specs.Routing.{Target, ToPdcp, Onward, Leads}

-- why the air doesn't hand a PDU over to a side with this entity, or to a closed one
abbrev pub entity_fault : Pdu → Option Entity → Option AirFault
entity_fault pdu None = Some Gone
entity_fault pdu (Some e) = side_fault pdu (Some e.epoch) e.tx e.rx

-- a data PDU is held while the slot is full that its SDU would go to
abbrev pub slot_fault : Pdu → Option Parcel → Option NodeHeard
slot_fault pdu slot = if is_some slot && not pdu.status then Some Held else None

-- the first reason why a side doesn't hear a PDU: the air's, or that it is held
abbrev pub side_refusal : Pdu → PortSide → Option AirFault → Option NodeHeard
side_refusal pdu side (Some fault) = Some (Air fault)
side_refusal pdu side None = slot_fault pdu side.slot

-- the same of a node, which may have no such port
abbrev pub hear_refusal : Pdu → Option PortSide → Option NodeHeard
hear_refusal pdu None = Some NoPort
hear_refusal pdu (Some side) = side_refusal pdu side (entity_fault pdu side.entity)

-- what the node does with an SDU that was completed at this side of a port, by where it leads
abbrev pub Passes : Node → PortSide → List ℕ → Result Target Discard → NodeHeard → Node → Type 0
Passes old side sdu (Ok (ToPdcp key pdu)) answer new = HearsPdcp old key pdu answer new
Passes old side sdu (Ok (Onward route)) answer new =
    (answer ≡ Slot route.egress) × (new ≡ set_side old (record side { slot = Some (record { from = side.name; route = route; sdu = sdu }) }))
Passes old side sdu (Err discard) answer new = (answer ≡ Discarded discard) × (new ≡ old)

-- what a node does with the answer of the entity of this side, which it has set already: an SDU is passed on, what was confirmed is confirmed for
-- PDCP, and each other answer is the node's
abbrev pub Follows : Contents → Node → Side → PortSide → HopHeard → NodeHeard → Node → Type 0
Follows t old at side (Amd (heard.Complete number sdu)) answer new = (target : Result Target Discard) × Leads t old at side.name sdu target × Passes old side sdu target answer new
Follows t old at side (Status (told.Acked tags marks)) answer new = (answer ≡ Hop (Status (told.Acked tags marks))) × (new ≡ confirm_tags old side.name tags)
Follows t old at side hop answer new = (answer ≡ Hop hop) × (new ≡ old)

-- the octets of a PDU are heard at an open side of a port
pub record HearsSide (t : Contents) (old : Node) (at : Side) (port : PortName) (bytes : List ℕ) (answer : NodeHeard) (new : Node) : Type 0 where
  pub side : PortSide
  pub entity : Entity
  pub its : IsOpen old port side entity
  pub hop : HopHeard
  pub tx : Tx
  pub rx : Rx
  pub hears : HearsHop entity.tx entity.rx bytes hop tx rx
  pub behind : Entity
  pub its_entity : behind ≡ record entity { tx = tx; rx = rx }
  pub follows : Follows t (set_entity old side behind) at (record side { entity = Some behind }) hop answer new

-- a PDU that isn't refused is heard
abbrev pub HearsUnless : Option NodeHeard → Contents → Node → Side → Pdu → NodeHeard → Node → Type 0
HearsUnless (Some refusal) t old at pdu answer new = (answer ≡ refusal) × (new ≡ old)
HearsUnless None t old at pdu answer new = HearsSide t old at pdu.port pdu.bytes answer new

-- a PDU comes to the node that has this side of its port
abbrev pub HearsPdu : Contents → Node → Side → Pdu → NodeHeard → Node → Type 0
HearsPdu t old at pdu answer new = HearsUnless (hear_refusal pdu (side_at old pdu.port)) t old at pdu answer new
