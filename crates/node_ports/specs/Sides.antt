-- What the calls of a side of a port do.
use Rattle.std.specs.Prelude.{◌≡◌, ℕ, ◌<◌, ◌≤◌, ◌^◌, Bool, true, false, List, Option, Some, None}
use Rattle.link_base.specs.declared.names.Timer.{Timer}
use Rattle.link_base.specs.declared.rlc_words.Tag.{Tag}
use Rattle.link_base.specs.declared.rlc_words.Expired.{Expired}
use Rattle.rlc_model.specs.declared.hop.HopHeard.{HopHeard}
use Rattle.rlc_model.specs.declared.hop.HopGrant.TheVariants.{Sent}
use Rattle.rlc_model.specs.Tx.{tx_next}
use Rattle.rlc_model.specs.Rx.{rx_next}
use Rattle.rlc_model.specs.Sides.{Entity}
use Rattle.rlc_hop.specs.Side.{IsToSend, HearsNews}
use Rattle.node_model.specs.declared.answers.PortGrant.{PortGrant}
use Rattle.node_model.specs.declared.answers.PortGrant.TheVariants.{NoPort, Hop}
use Rattle.node_model.specs.State.{PortSide}
use Rattle.node_ports.specs.Entities.{GrantsEntity, HearsEntity, ExpiresEntity, GivesEntity}

-- an open side whose entity makes a step
pub record Steps (step : Entity → Entity → Type 0) (old new : PortSide) : Type 0 where
  pub entity : Entity
  pub is_open : old.entity ≡ Some entity
  pub behind : Entity
  pub steps : step entity behind
  pub is : new ≡ record old { entity = Some behind }

-- a side sends one PDU where it is open
abbrev pub GrantsAt : PortSide → ℕ → PortGrant → PortSide → Type 0
GrantsAt old octets NoPort new = (old.entity ≡ None) × (new ≡ old)
GrantsAt old octets (Hop epoch answer) new = Steps (λ e f. GrantsEntity e octets answer f × (epoch ≡ e.epoch)) old new

-- a timer of a side is to run out, where it is open
abbrev pub ExpiresAt : PortSide → Timer → Option Expired → PortSide → Type 0
ExpiresAt old timer None new = (old.entity ≡ None) × (new ≡ old)
ExpiresAt old timer (Some expired) new = Steps (λ e f. ExpiresEntity e timer expired f) old new

-- an open side hears octets
abbrev pub HearsAt : PortSide → List ℕ → HopHeard → PortSide → Type 0
HearsAt old bytes answer new = Steps (λ e f. HearsEntity e bytes answer f) old new

-- the transmitter of an open side is given an SDU
abbrev pub GivesAt : PortSide → Tag → List ℕ → PortSide → Type 0
GivesAt old tag sdu new = Steps (λ e f. GivesEntity e tag sdu f) old new

-- the numbers of an entity are small enough for octets to be heard
pub record IsSmall (entity : Entity) : Type 0 where
  pub sent : tx_next entity.tx < 2 ^ 62
  pub heard : rx_next entity.rx ≤ 2 ^ 62

-- the entity that may be there is there, and is such a one
pub record IsThere (P : Entity → Type 0) (entity : Option Entity) : Type 0 where
  pub its : Entity
  pub is_open : entity ≡ Some its
  pub is : P its

-- an open side is to send a PDU, and so many octets are enough
abbrev pub IsToSendAt : PortSide → ℕ → Type 0
IsToSendAt side octets = IsThere (λ e. IsToSend e.tx e.rx octets) side.entity

-- octets make something grow at an open side
abbrev pub HearsNewsAt : PortSide → List ℕ → Type 0
HearsNewsAt side bytes = IsThere (λ e. HearsNews e.tx e.rx bytes) side.entity

-- a PDU is sent by this answer
abbrev pub is_sent : PortGrant → Bool
is_sent (Hop epoch (Sent status number bytes)) = true
is_sent answer = false
