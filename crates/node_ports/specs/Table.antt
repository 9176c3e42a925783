-- The sides of ports that a node has, as a table.
use Rattle.std.specs.Prelude.{◌≡◌, ℕ, ◌<◌, List, length, find, slice_index_or, slice_set, Option, Some, option_and_then}
use Rattle.link_base.specs.declared.names.PortName.{PortName}
use Rattle.rlc_model.specs.Tx.{Tx}
use Rattle.rlc_model.specs.Rx.{Rx}
use Rattle.rlc_model.specs.Sides.{Entity}
use Rattle.node_model.specs.Names.{is_port, replaced}
use Rattle.node_model.specs.Rows.{AreOrdered}
use Rattle.node_model.specs.State.{PortSide, entity_of}
use Rattle.node_ports.specs.Order.{side_before}

-- the side of a port, where the table has it
abbrev pub side_in : List PortSide → PortName → Option PortSide
side_in sides port = find (λ s. is_port port s.name) sides

-- the entity of a port, where its side is open
abbrev pub entity_in : List PortSide → PortName → Option Entity
entity_in sides port = option_and_then entity_of (side_in sides port)

-- the transmitter of an entity
abbrev pub tx_of : Entity → Tx
tx_of entity = entity.tx

-- the receiver of an entity
abbrev pub rx_of : Entity → Rx
rx_of entity = entity.rx

-- a table has the side of a port at this place: it is found by its name, and replaced by name where it is replaced there
pub record IsPlace (sides : List PortSide) (port : PortName) (place : ℕ) : Type 0 where
  pub side : PortSide
  pub within : place < length sides
  pub here : side ≡ slice_index_or sides place side
  pub name : side.name ≡ port
  pub found : side_in sides port ≡ Some side
  pub replaces : (new : PortSide) → replaced (λ x. is_port port x.name) new sides ≡ slice_set sides place new
  pub stays : (new : PortSide) → new.name ≡ port → AreOrdered side_before (slice_set sides place new)
