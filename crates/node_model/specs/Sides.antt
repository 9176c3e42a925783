-- What a side of a port does, at whatever node: it is granted a PDU, and a timer of it runs out (TS 38.322 clauses 5.2.3.1, 5.3.3.4, 5.3.4 and 7.3).
use Rattle.std.specs.Prelude.{◌≡◌, ℕ, Option, Some, None}
use Rattle.link_base.specs.declared.names.PortName.{PortName}
use Rattle.link_base.specs.declared.names.Timer.{Timer}
use Rattle.link_base.specs.declared.rlc_words.Expired.{Expired}
use Rattle.rlc_model.specs.declared.hop.HopGrant.{HopGrant}
use Rattle.rlc_model.specs.Tx.{Tx}
use Rattle.rlc_model.specs.Rx.{Rx}
use Rattle.rlc_model.specs.Sides.{Entity}
use Rattle.rlc_model.specs.Hop.{GrantsHop, ExpiresHop}
use Rattle.node_model.specs.declared.answers.PortGrant.{PortGrant}
use Rattle.node_model.specs.declared.answers.PortGrant.TheVariants.{NoPort, Hop}
use Rattle.node_model.specs.State.{PortSide, Node, side_at, entity_at, set_entity}

-- a side of a port at a node, which is open with this entity
pub record IsOpen (n : Node) (port : PortName) (side : PortSide) (entity : Entity) : Type 0 where
  pub here : side_at n port ≡ Some side
  pub is_open : side.entity ≡ Some entity

-- an open side may send one PDU of at most so many octets
pub record GrantsSide (old : Node) (port : PortName) (octets : ℕ) (epoch : ℕ) (answer : HopGrant) (new : Node) : Type 0 where
  pub side : PortSide
  pub entity : Entity
  pub its : IsOpen old port side entity
  pub its_epoch : epoch ≡ entity.epoch
  pub tx : Tx
  pub rx : Rx
  pub grants : GrantsHop entity.tx entity.rx octets answer tx rx
  pub is : new ≡ set_entity old side (record entity { tx = tx; rx = rx })

-- a node may send one PDU over a port, where the port is open
abbrev pub GrantsPort : Node → PortName → ℕ → PortGrant → Node → Type 0
GrantsPort old port octets NoPort new = (entity_at old port ≡ None) × (new ≡ old)
GrantsPort old port octets (Hop epoch answer) new = GrantsSide old port octets epoch answer new

-- a timer of an open side is to run out
pub record ExpiresSide (old : Node) (port : PortName) (timer : Timer) (expired : Expired) (new : Node) : Type 0 where
  pub side : PortSide
  pub entity : Entity
  pub its : IsOpen old port side entity
  pub tx : Tx
  pub rx : Rx
  pub expires : ExpiresHop entity.tx entity.rx timer expired tx rx
  pub is : new ≡ set_entity old side (record entity { tx = tx; rx = rx })

-- a timer of a port is to run out, where the port is open
abbrev pub ExpiresPort : Node → PortName → Timer → Option Expired → Node → Type 0
ExpiresPort old port timer None new = (entity_at old port ≡ None) × (new ≡ old)
ExpiresPort old port timer (Some expired) new = ExpiresSide old port timer expired new
