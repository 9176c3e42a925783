-- What is left where memory is wanting while an end hears a PDU.
use Rattle.std.specs.Prelude.{◌≡◌, ℕ, List, [], Ok}
use Rattle.link_base.specs.declared.names.Key.{Key}
use Rattle.link_base.specs.declared.names.PortName.{PortName}
use Rattle.link_base.specs.declared.names.Side.{Side}
use Rattle.link_base.specs.declared.rlc_words.Tag.{Tag}
use Rattle.bearer_map.specs.Contents.{Contents}
use Rattle.rlc_model.specs.declared.transmitter.StatusHeard.{StatusHeard}
use Rattle.rlc_model.specs.declared.transmitter.StatusHeard.TheVariants.{Acked, Old, Beyond}
use Rattle.rlc_model.specs.declared.hop.Pdu.{Pdu}
use Rattle.rlc_model.specs.declared.hop.HopHeard.{HopHeard}
use Rattle.rlc_model.specs.declared.hop.HopHeard.TheVariants.{Amd}
use Rattle.rlc_model.specs.declared.receiver.Heard.TheVariants.{Complete}
use Rattle.rlc_hop.specs.Side.{HearsNews}
use Rattle.node_model.specs.State.{Node, entity_at, incoming}
use Rattle.node_model.specs.Routing.{ToPdcp, Leads}
use Rattle.node_ports.specs.Sides.{IsThere}
use Rattle.node_ports.specs.Calls.{HearsPort}
use Rattle.node_bearers.specs.Hearing.{IsNews}

-- the tags of what a STATUS PDU confirmed
abbrev pub acked_tags : StatusHeard → List Tag
acked_tags (Acked tags marks) = tags
acked_tags (Old ack next) = []
acked_tags (Beyond ack sent) = []

-- an SDU that came over this port leads to the receiver of a bearer, which would have had to grow for it
pub record LeadsToNews (t : Contents) (n : Node) (at : Side) (port : PortName) (sdu : List ℕ) : Type 0 where
  pub key : Key
  pub pdu : List ℕ
  pub leads : Leads t n at port sdu (Ok (ToPdcp key pdu))
  pub news : IsNews (incoming n key).receiver pdu

-- such an SDU was completed
abbrev pub StopsFollowing : Contents → Node → Side → PortName → HopHeard → Type 0
StopsFollowing t n at port (Amd (Complete number sdu)) = LeadsToNews t n at port sdu
StopsFollowing t n at port hop = ⊥

-- all is as it was, and the entity of the PDU's port had to grow; or that entity has heard the PDU and completed an SDU, which leads to the
-- receiver of a bearer that would have had to grow for it and hasn't heard it
pub data StopsHearing (t : Contents) (old : Node) (at : Side) (pdu : Pdu) (new : Node) : Type 0 where
  before : IsThere (λ e. HearsNews e.tx e.rx pdu.bytes) (entity_at old pdu.port) → new ≡ old → StopsHearing t old at pdu new
  between : (number : ℕ) (sdu : List ℕ) → HearsPort old pdu.port pdu.bytes (Amd (Complete number sdu)) new → LeadsToNews t new at pdu.port sdu → StopsHearing t old at pdu new
