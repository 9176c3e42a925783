-- The sides of ports that are open, as nodes have them, and the ports of which they are the sides.
use Rattle.std.specs.Prelude.{◌≡◌, ℕ, ◌+◌, ◌<◌, ◌≤◌, Option, Some, None}
use Rattle.link_base.specs.declared.names.PortName.{PortName}
use Rattle.link_base.specs.declared.names.Side.{Side}
use Rattle.link_base.specs.declared.names.SnSize.{SnSize}
use Rattle.link_base.specs.declared.names.Way.{Way}
use Rattle.rlc_model.specs.Rx.{Rx}
use Rattle.rlc_model.specs.Sides.{Entity}
use Rattle.rlc_model.specs.Tx.{Tx}
use Rattle.rlc_law.specs.Hop.{Event}
use Rattle.rlc_law.specs.Ports.{Settings, Port, hop_of, start_port, tx_of, rx_of, IsSide, MovesSide, Ports, Changes}

-- the sides of each port that are open
abbrev pub Sides : Type 0
Sides = Side → PortName → Option Entity

-- the epoch from which on a side of a port was not opened yet
abbrev pub Epochs : Type 0
Epochs = Side → PortName → ℕ

-- a side of a port is as at the port's start
abbrev pub IsStart : Settings → Port → Side → Type 0
IsStart settings port side = IsSide port side (tx_of (start_port settings) side) (rx_of (start_port settings) side)

-- the entities of a side that opens in an epoch
abbrev pub start_entity : Settings → Side → ℕ → Entity
start_entity settings side epoch = record { tx = tx_of (start_port settings) side; rx = rx_of (start_port settings) side; epoch = epoch }

-- the transmitters and the receivers of a port have SNs of this size
abbrev pub HasSize : SnSize → Port → Type 0
HasSize size port = (way : Way) → ((hop_of port way).tx.size ≡ size) × ((hop_of port way).rx.size ≡ size)

-- an open side is that of the port of its epoch, a side that was not opened yet is as at the start, and ports have the size set for them
pub record SidesFit (settings : PortName → Settings) (ports : Ports) (epochs : Epochs) (sides : Sides) : Type 0 where
  pub open_port : (side : Side) (name : PortName) (entity : Entity) → sides side name ≡ Some entity → (port : Port) × (ports name entity.epoch ≡ Some port) × IsSide port side entity.tx entity.rx
  pub open_epoch : (side : Side) (name : PortName) (entity : Entity) → sides side name ≡ Some entity → entity.epoch < epochs side name
  pub not_open : (side : Side) (name : PortName) (epoch : ℕ) (port : Port) → epochs side name ≤ epoch → ports name epoch ≡ Some port → IsStart (settings name) port side
  pub sizes : (name : PortName) (epoch : ℕ) (port : Port) → ports name epoch ≡ Some port → HasSize (settings name).size port

-- what happens to sides and their ports: a call of an open side moves its port; a side opens in an epoch to which it hadn't come, in which its
-- port begins unless the other side has opened it; or a side closes
pub data SidesGo (settings : PortName → Settings) (ports : Ports) (epochs : Epochs) (sides : Sides) : Ports → Epochs → Sides → Type 0 where
  calls : {new_ports : Ports} {new_sides : Sides} (side : Side) (name : PortName) (entity : Entity) (port behind : Port) (way : Way) (event : Event) (tx : Tx) (rx : Rx) → sides side name ≡ Some entity → ports name entity.epoch ≡ Some port
      → MovesSide port side way event tx rx behind → Changes ports name entity.epoch (Some behind) new_ports → Changes sides side name (Some (record entity { tx = tx; rx = rx })) new_sides → SidesGo settings ports epochs sides new_ports epochs new_sides
  begins : {new_ports : Ports} {new_epochs : Epochs} {new_sides : Sides} (side : Side) (name : PortName) (epoch : ℕ) → epochs side name ≤ epoch → ports name epoch ≡ None → Changes ports name epoch (Some (start_port (settings name))) new_ports
      → Changes epochs side name (epoch + 1) new_epochs → Changes sides side name (Some (start_entity (settings name) side epoch)) new_sides → SidesGo settings ports epochs sides new_ports new_epochs new_sides
  follows : {new_epochs : Epochs} {new_sides : Sides} (side : Side) (name : PortName) (epoch : ℕ) (port : Port) → epochs side name ≤ epoch → ports name epoch ≡ Some port
      → Changes epochs side name (epoch + 1) new_epochs → Changes sides side name (Some (start_entity (settings name) side epoch)) new_sides → SidesGo settings ports epochs sides ports new_epochs new_sides
  closes : {new_sides : Sides} (side : Side) (name : PortName) → Changes sides side name None new_sides → SidesGo settings ports epochs sides ports epochs new_sides
