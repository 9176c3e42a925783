-- What the calls of a table of ports do to its node.
use Rattle.std.specs.Prelude.{◌≡◌, ℕ, List}
use Rattle.link_base.specs.declared.names.PortName.{PortName}
use Rattle.link_base.specs.declared.rlc_words.Tag.{Tag}
use Rattle.rlc_model.specs.declared.hop.HopHeard.{HopHeard}
use Rattle.rlc_model.specs.Tx.{Tx, Gives}
use Rattle.rlc_model.specs.Rx.{Rx}
use Rattle.rlc_model.specs.Sides.{Entity}
use Rattle.rlc_model.specs.Hop.{HearsHop}
use Rattle.node_model.specs.State.{PortSide, Node, set_entity}
use Rattle.node_model.specs.Sides.{IsOpen}

-- an open side hears octets, and answers what its entity does
pub record HearsPort (old : Node) (port : PortName) (bytes : List ℕ) (answer : HopHeard) (new : Node) : Type 0 where
  pub side : PortSide
  pub entity : Entity
  pub its : IsOpen old port side entity
  pub tx : Tx
  pub rx : Rx
  pub hears : HearsHop entity.tx entity.rx bytes answer tx rx
  pub is : new ≡ set_entity old side (record entity { tx = tx; rx = rx })

-- the transmitter of an open side is given an SDU
pub record GivesPort (old : Node) (port : PortName) (tag : Tag) (sdu : List ℕ) (new : Node) : Type 0 where
  pub side : PortSide
  pub entity : Entity
  pub its : IsOpen old port side entity
  pub tx : Tx
  pub number : ℕ
  pub gives : Gives entity.tx tag sdu number tx
  pub is : new ≡ set_entity old side (record entity { tx = tx })
